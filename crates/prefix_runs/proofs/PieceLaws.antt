-- Pieces as the code reads them: a prefix by its record's fields, and the gap behind it; joined, and at last a whole run.
-- Assumes nothing.
use Prim.Native.Nat.{ℕ, suc, ◌+◌, ◌-◌, ◌*◌, ◌^◌, ◌≤◌, ◌<◌}
use mathlib.Core.Bool.{Bool, true, false}
use mathlib.Core.Path.{◌≡◌, refl, sym, ap, subst, ◌∙◌}
use mathlib.Core.Logic.{◌≢◌}
use mathlib.Core.List.{List}
use native.Mathlib.Omega.{arith}
use lib.Dec.{ltb}
use borrow.Author.Tests.{ltb-true, ltb-false}
use Rattle.byte_numbers.specs.Numbers.{number4}
use Rattle.prefix_records.specs.declared.Address.{Address}
use Rattle.prefix_records.specs.Tiling.{first_of, past_of}
use Rattle.prefix_records.specs.models.Cursor.{value_of, Behind}
use Rattle.prefix_records.proofs.TilingLaws.{some}
use Rattle.prefix_lists.specs.List.{count_of, address_at, length_at, piece_at}
use Rattle.prefix_lists.specs.models.Listed.{Rising}
use Rattle.prefix_runs.specs.declared.Run.{Run}
use Rattle.prefix_runs.specs.models.Runs.{Cut, numbers, RunBelow}
use Rattle.prefix_runs.specs.models.Pieces.{top, Joined}
use Rattle.prefix_runs.proofs.RunLaws.{past_of_lem, piece-record, piece_gap, cut_record}
use Rattle.prefix_runs.proofs.EndLaws.{Held, end-some, end_all, held_end, gap}

-- ---- the fields of a record

-- its prefix length
pub piece-length : (l : List ℕ) (j : ℕ) → (piece_at l j).length ≡ length_at l j
unfolding piece_at
piece-length l j = refl

-- its number
piece-number : (l : List ℕ) (j : ℕ) → (piece_at l j).number ≡ number4 l (24 * j + 20)
unfolding piece_at
piece-number l j = refl

-- ---- the piece below an end

module _ (l : List ℕ) (given u : ℕ) where
  -- below the first prefix: the gap from 0 on
  pub first_gap : Cut l (top u) 0 → Joined l given (top u) (record { first = record { high = 0; low = 0 }; number = given; under = 0 })
  first_gap c = record {
    some = end-some u;
    same = λ a h k. piece_gap l given (top u) 0 0 c (λ i h. absurd (omega arith)) a h k;
    cut = record { some = omega arith; below = λ i h. absurd (omega arith); above = λ i h k. omega arith };
  }

  module _ (r : Rising 128 l) (j : ℕ) (c : Cut l (top u) (suc j)) (first past : Address)
      (reads : value_of first ≡ address_at l j) (behind : Behind first (length_at l j) past) where
    -- there is such a record
    inside : j < count_of l
    inside = omega (arith, c.some)

    -- the address read is the first of its prefix
    begins : value_of first ≡ first_of 128 (piece_at l j)
    begins = reads ∙ sym (r.first j inside)

    -- and so the prefix ends where the code says
    ends : past_of 128 (piece_at l j) ≡ value_of first + 2 ^ (128 - length_at l j)
    ends = past_of_lem (piece_at l j) ∙ ap (λ (n : ℕ). n + 2 ^ (128 - (piece_at l j).length)) (sym begins) ∙ ap (λ (n : ℕ). value_of first + 2 ^ (128 - n)) (piece-length l j)

    -- the address behind the prefix stands for its end
    held : Held (2 ^ 128) (value_of past) (past_of 128 (piece_at l j))
    held = (
      λ h. behind.0 (subst (λ (n : ℕ). n < 2 ^ 128) ends h) ∙ sym ends,
      λ h. behind.2 (sym ends ∙ h),
    )

    -- the prefix itself, where it ends there
    pub record-piece : (number : ℕ) → value_of past ≡ u → number ≡ number4 l (24 * j + 20)
        → Joined l given (top u) (record { first = first; number = number; under = j })
    record-piece number e n =
        let q : past_of 128 (piece_at l j) ≡ top u = sym (held_end (value_of past) (past_of 128 (piece_at l j)) held (r.inside j inside) (not-zero (some 128 (piece_at l j)))) ∙ ap top e in
        record {
          some = subst (λ (x : ℕ). value_of first < x) q (subst (λ (x : ℕ). x < past_of 128 (piece_at l j)) (sym begins) (some 128 (piece_at l j)));
          same = λ a h k. piece-record l given (top u) j c q a (subst (λ (x : ℕ). x ≤ a) begins h) k ∙ piece-number l j ∙ sym n;
          cut = subst (λ (x : ℕ). Cut l x j) (sym begins) (cut_record l r (top u) j c);
        }
      where
        not-zero : first_of 128 (piece_at l j) < past_of 128 (piece_at l j) → 0 < past_of 128 (piece_at l j)
        not-zero h = omega arith

    -- the gap behind it, where it ends before
    pub gap-piece : u < 2 ^ 128 → value_of past ≢ u → Joined l given (top u) (record { first = past; number = given; under = suc j })
    gap-piece b d =
        let g = gap (value_of past) (past_of 128 (piece_at l j)) u held (c.below j (omega arith)) d b in
        record {
          some = subst (λ (x : ℕ). x < top u) (sym g.1) g.0;
          same = λ a h k. piece_gap l given (top u) (suc j) (value_of past) c (under g.1) a h k;
          cut = record { some = c.some; below = under g.1; above = λ i h k. later g.0 g.1 i (c.above i h k) };
        }
      where
        -- the prefixes from the end on begin behind the gap's start
        later : past_of 128 (piece_at l j) < top u → value_of past ≡ past_of 128 (piece_at l j) → (i : ℕ) → top u ≤ first_of 128 (piece_at l i) → value_of past ≤ first_of 128 (piece_at l i)
        later h e i k = omega arith

        -- those below the end lie below the gap
        under : value_of past ≡ past_of 128 (piece_at l j) → (i : ℕ) → i < suc j → past_of 128 (piece_at l i) ≤ value_of past
        under e i h = rw e (go (ltb i j) refl)
          where
            go : (t : Bool) → ltb i j ≡ t → past_of 128 (piece_at l i) ≤ past_of 128 (piece_at l j)
            go true f = omega (arith, r.rising i j (ltb-true i j f) inside, some 128 (piece_at l j))
            go false f = let z : i ≡ j = omega (arith, ltb-false i j f, h) in rw z (omega arith)

-- all prefixes lie below the end of all addresses
pub cut_all : (l : List ℕ) → Rising 128 l → Cut l (top 0) (count_of l)
cut_all l r = subst (λ (e : ℕ). Cut l e (count_of l)) (sym end_all) (record { some = omega arith; below = r.inside; above = λ i h k. absurd (omega arith) })

-- ---- pieces joined

module _ (l : List ℕ) (given e : ℕ) (r : Run) (s : Joined l given e r) where
  -- a piece of the same number below
  pub join-next : (n : Run) → Joined l given (value_of r.first) n → n.number ≡ r.number → Joined l given e n
  join-next n t q = record { some = omega (arith, s.some, t.some); same = λ a h k. go a h k (ltb a (value_of r.first)) refl; cut = t.cut }
    where
      go : (a : ℕ) → value_of n.first ≤ a → a < e → (b : Bool) → ltb a (value_of r.first) ≡ b → numbers l given a ≡ n.number
      go a h k true f = t.same a h (ltb-true a (value_of r.first) f)
      go a h k false f = s.same a (ltb-false a (value_of r.first) f) k ∙ sym q

  -- a piece of another number below: the run is whole
  pub whole_run : (n : Run) → Joined l given (value_of r.first) n → n.number ≢ r.number → RunBelow l given e r
  whole_run n t d = (
    s.some,
    record {
      same = s.same;
      other = λ h k. d (sym (t.same (value_of r.first - 1) (omega (arith, t.some)) (omega (arith, h))) ∙ k);
      cut = s.cut;
    },
  )

  -- nothing below
  pub lowest-run : value_of r.first ≡ 0 → RunBelow l given e r
  lowest-run z = (s.some, record { same = s.same; other = λ h k. absurd (omega (arith, h, z)); cut = s.cut })
