-- A pair noted, over numbers and lists alone: what was found, and what was written. Assumes nothing.
use Prim.Native.Nat.{ℕ, zero, suc, ◌+◌, ◌*◌, ◌≤◌, ◌<◌}
use mathlib.Core.Bool.{Bool}
use mathlib.Core.Path.{◌≡◌, refl, sym, ap, subst, ◌∙◌}
use mathlib.Core.List.{List, ◌++◌}
use borrow.Author.Tests.{lt-ltb, le-ltb, eq-eqb, ne_eqb}
use Rattle.byte_numbers.specs.Numbers.{bytes4}
use Rattle.prefix_records.specs.declared.Address.{Address}
use Rattle.prefix_records.specs.models.Cursor.{record_at}
use Rattle.asmap_changes.specs.declared.Front.{Front}
use Rattle.asmap_changes.specs.declared.Found.{Found}
use Rattle.asmap_changes.specs.declared.Place.{Place}
use Rattle.asmap_changes.specs.models.Side.{place_if, place_of, put_if, first_if, added, NotedIf, Noted}

pub added-first : (f : Found) (a : Address) → f.pieces ≡ 0 → record { pieces = 1; first = a } ≡ added f a
added-first f a e = ap (λ (k : ℕ). record { pieces = k + 1; first = first_if k a f.first }) (sym e)

pub added_more : (f : Found) (a : Address) → (f.pieces ≡ 0 → ⊥) → record { pieces = f.pieces + 1; first = f.first } ≡ added f a
added_more f a h = go f.pieces h
  where
    go : (k : ℕ) → (k ≡ 0 → ⊥) → ◌≡◌ {A = Found} (record { pieces = k + 1; first = f.first }) (record { pieces = k + 1; first = first_if k a f.first })
    go zero h = absurd (h refl)
    go (suc k) h = refl

pub place_new : (o n : Front) → o.len < n.len → record { begin = n.begin; len = n.len } ≡ place_of o n
place_new o n h = ap (λ (b : Bool). place_if b o n) (sym (lt-ltb o.len n.len h))

pub place_old : (o n : Front) → n.len ≤ o.len → record { begin = o.begin; len = o.len } ≡ place_of o n
place_old o n h = ap (λ (b : Bool). place_if b o n) (sym (le-ltb o.len n.len h))

pub noted_same : (writes : Bool) (o n : Front) (f : Found) (out : List ℕ) → o.number ≡ n.number → Noted writes o n f f out out
noted_same writes o n f out e = subst (λ (b : Bool). NotedIf b writes o n f f out out) (sym (eq-eqb o.number n.number e)) (refl, refl)

pub noted_other : (writes : Bool) (o n : Front) (f f' : Found) (p : Place) (out out' : List ℕ) → (o.number ≡ n.number → ⊥) → p ≡ place_of o n
    → out' ≡ put_if writes out (28 * f.pieces) (record_at p.begin p.len o.number ++ bytes4 n.number) → f' ≡ added f p.begin
    → Noted writes o n f f' out out'
noted_other writes o n f f' p out out' d e h k =
    subst (λ (b : Bool). NotedIf b writes o n f f' out out') (sym (ne_eqb o.number n.number d)) (
      k ∙ ap (λ (q : Place). added f q.begin) e,
      h ∙ ap (λ (q : Place). put_if writes out (28 * f.pieces) (record_at q.begin q.len o.number ++ bytes4 n.number)) e,
    )
