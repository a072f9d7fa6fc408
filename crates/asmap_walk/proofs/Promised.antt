-- Demand 3 and Core's number for a map's bytes, over the width; and both for the definitions that the calls equal. Rests on
-- asmap_program's `demand3` and asmap_codes' `number_of-bytes`.
-- Assumes nothing.
use Prim.Native.Nat.{ℕ, ◌*◌, ◌≤◌, ◌<◌}
use mathlib.Core.Bool.{Bool, true, false}
use mathlib.Core.Path.{◌≡◌, refl, sym, ap, ◌∙◌}
use mathlib.Core.Logic.{◌≢◌}
use mathlib.Core.List.{List}
use native.Mathlib.Omega.{arith}
use lib.Dec.{eqb}
use borrow.Author.Tests.{eq-eqb, ne_eqb, lt-ltb, le-ltb, eqb-true, eqb-false}
use lib.ListN.{length}
use Rattle.asmap_program.specs.Map.{address_bit}
use Rattle.asmap_program.specs.Widths.{is_width}
use Rattle.asmap_program.specs.Core.{Number, core_interpret}
use Rattle.asmap_program.proofs.Widths.{at_width_lem}
use Rattle.asmap_program.proofs.Demand.{demand3, ended_answers}
use Rattle.asmap_codes.specs.Core.{file_of}
use Rattle.asmap_codes.specs.Instruction.{map_of}
use Rattle.asmap_codes.proofs.CoreLaws.{number_of-bytes}
use Rattle.asmap_codes.proofs.MapLaws.{laws}
use Rattle.asmap_check.specs.Check.{check_of}
use Rattle.asmap_check.proofs.Limit.{accepted_within}
use Rattle.asmap_walk_bits.specs.Walk.{walk_of, summary}
use Rattle.asmap_walk.specs.Interpret.{interpret_over, interpret_of, interpret_at}
use Rattle.asmap_walk.specs.Promise.{Kept, Demand3, Demand3At, CoreNumber, CoreNumberAt}
use Rattle.asmap_walk_bits.specs.declared.Ending.{Ending}
use Rattle.asmap_program.specs.Verdict.{Accepted}
use Rattle.refusals.specs.declared.Fault.TheVariants as fault
use Rattle.refusals.specs.declared.Refusal.{Refusal}
use Rattle.refusals.specs.declared.Refusal.TheVariants as refusal
use Rattle.std.specs.Prelude.{Result, Ok, Err}

-- ---- over the width, for later layers

-- m: the map, a: the address, w: its bits
module _ (m a : List ℕ) (w c d : ℕ) (accepted : check_of m w ≡ Accepted c d) where
  pub kept : Kept m a w (summary (walk_of m a w))
  unfolding walk_of
  kept =
      let k = demand3 (map_of m) (laws m) w c d (accepted_within m w c d accepted).1 (address_bit a) in
      record { exact = refl; ended = ended_answers k.ends; zero = k.zero; bounded = k.count; most = k.most; listed = k.inside; walks = k }

  pub core-number : core_interpret (address_bit a) w (file_of m) ≡ Number (walk_of m a w).number
  unfolding walk_of
  core-number = number_of-bytes m w c d (accepted_within m w c d accepted).1 (address_bit a)

-- ---- what a walk by the bits of an address hands back

module _ (m a : List ℕ) (w : ℕ) where
  pub refuses-address : 8 * length a ≢ w → Err refusal.AddressLength ≡ interpret_over m a w
  refuses-address h = rw (ne_eqb (8 * length a) w h)

  pub refuses-map : 8 * length a ≡ w → 16777216 < length m → Err (refusal.Map fault.MapTooLong) ≡ interpret_over m a w
  refuses-map h k = rw (eq-eqb (8 * length a) w h, lt-ltb 16777216 (length m) k)

  pub hands-back : 8 * length a ≡ w → length m ≤ 16777216 → (e : Ending) → e ≡ summary (walk_of m a w) → Ok e ≡ interpret_over m a w
  hands-back h k e z = ap Ok z ∙ rw (eq-eqb (8 * length a) w h, le-ltb 16777216 (length m) k)

  -- where the map is accepted, the walk's summary is handed back
  handed : (c d : ℕ) → check_of m w ≡ Accepted c d → 8 * length a ≡ w → (r : Result Ending Refusal) → r ≡ interpret_over m a w → r ≡ Ok (summary (walk_of m a w))
  handed c d h l r e = e ∙ sym (hands-back l (accepted_within m w c d h).0 _ refl)

-- ---- the call, at 128 bits

module _ (m a : List ℕ) where
  -- 16 bytes are 128 bits
  sixteen : eqb (8 * length a) 128 ≡ eqb (length a) 16
  sixteen = go (eqb (length a) 16) refl
    where
      go : (b : Bool) → eqb (length a) 16 ≡ b → eqb (8 * length a) 128 ≡ b
      go true e = let h = eqb-true (length a) 16 e in eq-eqb (8 * length a) 128 (omega arith)
      go false e = ne_eqb (8 * length a) 128 (λ z. eqb-false (length a) 16 e (omega arith))

  pub as_128 : interpret_over m a 128 ≡ interpret_of m a
  as_128 = rw sixteen

  pub demand3-kept : (r : Result Ending Refusal) → r ≡ interpret_over m a 128 → Demand3 m a r
  demand3-kept r e c d h l = let k = kept m a 128 c d h in (summary (walk_of m a 128), handed m a 128 c d h (omega arith) r e, (k, k.most))

  pub core-kept : (r : Result Ending Refusal) → r ≡ interpret_over m a 128 → CoreNumber m a r
  core-kept r e c d h l = (summary (walk_of m a 128), handed m a 128 c d h (omega arith) r e, core-number m a 128 c d h)

  -- all that the call promises of its answer
  pub promised : (r : Result Ending Refusal) → r ≡ interpret_over m a 128 → (r ≡ interpret_of m a) × (Demand3 m a r × CoreNumber m a r)
  promised r e = (e ∙ as_128, (demand3-kept r e, core-kept r e))

-- ---- the call at a width: what holds over every number of bits, cited

module _ (m a : List ℕ) (w : ℕ) (r : Result Ending Refusal) (e : r ≡ interpret_at m a w) where
  over : is_width w ≡ true → r ≡ interpret_over m a w
  over t = e ∙ at_width_lem w Err (interpret_over m a w) t

  pub promised_at : (r ≡ interpret_at m a w) × (Demand3At m a w r × CoreNumberAt m a w r)
  promised_at = (e, (λ t c d h l. (summary (walk_of m a w), handed m a w c d h l r (over t), kept m a w c d h), λ t c d h l. (summary (walk_of m a w), handed m a w c d h l r (over t), core-number m a w c d h)))
