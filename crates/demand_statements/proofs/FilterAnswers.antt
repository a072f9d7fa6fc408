-- The numbers of the two filters.
-- Assumes nothing.
use Prim.Native.Nat.{ℕ, zero, suc, ◌<◌}
use mathlib.Core.Path.{◌≡◌, ◌∙◌, refl, sym}
use mathlib.Core.Bool.{Bool, true, false, not}
use mathlib.Core.Logic.{◌⊎◌, inl, inr}
use mathlib.Core.List.{List, [], ◌∷◌}
use native.Mathlib.Omega.{arith}
use borrow.Author.Tests.{eq-eqb, ne_eqb, eqb-true, le-leb, leb-true}
use lib.Dec.{eqb, leb}
use lib.ListN.{length}
use Rattle.std.proofs.lemmas.Bool.Decides.{nat_tests}
use Rattle.netaddr.specs.Answer.{unless_refused}
use Rattle.netaddr_ranges.specs.Unroutable.{unroutable16}
use Rattle.netaddr.specs.Filter.{filter_of}
use Rattle.netaddr.specs.Relay.{length_fits, skips, relay_of}
use Rattle.answer_outcome.specs.Outcome.{handed, IsDone, Hands}
use Rattle.answer_filters.specs.Filters.{said}
use Rattle.refusals.specs.declared.Refusal.{Refusal}
use Rattle.refusals.specs.declared.Refusal.TheVariants as refusal
use Rattle.refusals.specs.Numbers.{refusal_number}
use Rattle.demand_statements.specs.AnyInput.{Filters, Sized, Relays}

-- what a filter says, by whether it was asked rightly: refused with k, or 0 or 1
record Said (right : Bool) (k r entry exit : ℕ) : Type 0 where
  yes : right ≡ true → r ≡ 0
  no : right ≡ false → r ≡ k
  only : r ≡ 0 → right ≡ true
  bit : r ≡ 0 → (exit ≡ 0) ⊎ (exit ≡ 1)
  untouched : (r ≡ 0 → ⊥) → exit ≡ entry

says : (right b : Bool) (k : Refusal) {r entry exit : ℕ} → Hands (said (unless_refused (not right) k b)) r (entry ∷ []) (exit ∷ []) → Said right (refusal_number k) r entry exit
unfolding handed IsDone said
says true true k {r} h =
    let e = h.numbers in let z : r ≡ 0 = cc in
    record { yes = λ q. z; no = λ q. absurd cc; only = λ q. refl; bit = λ q. inr cc; untouched = λ n. absurd (n z) }
says true false k {r} h =
    let e = h.numbers in let z : r ≡ 0 = cc in
    record { yes = λ q. z; no = λ q. absurd cc; only = λ q. refl; bit = λ q. inl cc; untouched = λ n. absurd (n z) }
says false b k h =
    let e = h.numbers in
    record { yes = λ q. absurd cc; no = λ q. cc; only = λ z. absurd (h.zero_is_done z); bit = λ z. absurd (h.zero_is_done z); untouched = λ n. cc }

pub filters : (a : List ℕ) {r entry exit : ℕ} → Hands (said (filter_of a)) r (entry ∷ []) (exit ∷ []) → Filters a r entry exit
filters a h =
    let s = says (eqb (length a) 16) (unroutable16 a) refusal.AddressLength h in
    record { no_address = λ n. s.no (ne_eqb (length a) 16 n); answered = λ l. s.yes (eq-eqb (length a) 16 l); yes_or_no = s.bit; untouched = s.untouched }

-- ---- the lengths by network id

-- an id past 6
other : (id n : ℕ) → 6 < id → length_fits id n ≡ leb n 512
unfolding length_fits
other id n h = grind (arith, nat_tests)

sized : (id n : ℕ) → length_fits id n ≡ true → Sized id n
unfolding length_fits
sized zero n e = record { known = λ l h. absurd (omega arith); others = λ q. leb-true n 512 e }
sized (suc zero) n e = record { known = λ l h. eqb-true n 4 e; others = λ q. absurd (omega arith) }
sized (suc (suc zero)) n e = record { known = λ l h. eqb-true n 16 e; others = λ q. absurd (omega arith) }
sized (suc (suc (suc zero))) n e = record { known = λ l h. eqb-true n 10 e; others = λ q. absurd (omega arith) }
sized (suc (suc (suc (suc zero)))) n e = record { known = λ l h. eqb-true n 32 e; others = λ q. absurd (omega arith) }
sized (suc (suc (suc (suc (suc zero))))) n e = record { known = λ l h. eqb-true n 32 e; others = λ q. absurd (omega arith) }
sized (suc (suc (suc (suc (suc (suc zero)))))) n e = record { known = λ l h. eqb-true n 16 e; others = λ q. absurd (omega arith) }
sized (suc (suc (suc (suc (suc (suc (suc k))))))) n e = record { known = λ l h. absurd (omega arith); others = λ q. leb-true n 512 (sym (other (suc (suc (suc (suc (suc (suc (suc k))))))) n (omega arith)) ∙ e) }

fits : (id n : ℕ) → Sized id n → length_fits id n ≡ true
unfolding length_fits
fits zero n s = le-leb n 512 (s.others (inl refl))
fits (suc zero) n s = eq-eqb n 4 (s.known (omega arith) (omega arith))
fits (suc (suc zero)) n s = eq-eqb n 16 (s.known (omega arith) (omega arith))
fits (suc (suc (suc zero))) n s = eq-eqb n 10 (s.known (omega arith) (omega arith))
fits (suc (suc (suc (suc zero)))) n s = eq-eqb n 32 (s.known (omega arith) (omega arith))
fits (suc (suc (suc (suc (suc zero))))) n s = eq-eqb n 32 (s.known (omega arith) (omega arith))
fits (suc (suc (suc (suc (suc (suc zero)))))) n s = eq-eqb n 16 (s.known (omega arith) (omega arith))
fits (suc (suc (suc (suc (suc (suc (suc k))))))) n s = other (suc (suc (suc (suc (suc (suc (suc k))))))) n (omega arith) ∙ le-leb n 512 (s.others (inr (omega arith)))

either_way : (right : Bool) {k r entry exit : ℕ} → Said right k r entry exit → (r ≡ 0) ⊎ (r ≡ k)
either_way true s = inl (s.yes refl)
either_way false s = inr (s.no refl)

pub relays : (id : ℕ) (a : List ℕ) (port : ℕ) {r entry exit : ℕ} → Hands (said (relay_of id a port)) r (entry ∷ []) (exit ∷ []) → Relays id a r entry exit
relays id a port h =
    let s = says (length_fits id (length a)) (skips id a port) refusal.RelayLength h in
    record {
      numbers = either_way (length_fits id (length a)) s;
      answered = λ f. s.yes (fits id (length a) f);
      only_then = λ z. sized id (length a) (s.only z);
      yes_or_no = s.bit;
      untouched = s.untouched;
    }
