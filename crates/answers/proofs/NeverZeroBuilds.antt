-- Which numbers a build refuses with, in document 02's order: 18, 21 and 22, 1, 14.
-- Assumes nothing.
use Prim.Native.Nat.{ℕ}
use mathlib.Core.Bool.{Bool, true, false, cond}
use mathlib.Core.Path.{◌≡◌, refl, sym, subst}
use mathlib.Core.Logic.{inl, inr}
use mathlib.Core.List.{List}
use Rattle.asmap_program.specs.Widths.{is_width, at_width}
use Rattle.prefix_lists.specs.List.{judge}
use Rattle.prefix_lists.specs.Judged.{Listed}
use Rattle.prefix_lists.proofs.ListLaws.{PrefixOrNumber, judged_refused}
use Rattle.asmap_records.specs.Output.{No, within, answer_of}
use Rattle.asmap_build.specs.Build.{tree_bits, build_as, build_of, build_at}
use Rattle.answer_bytes.specs.Bytes.{byte_count}
use Rattle.answers.proofs.Handing.{Refuses}
use Rattle.answers.proofs.NeverZeroMaps.{Makes, bytes-numbers, refused}
use Rattle.refusals.specs.Numbers.{refusal_number}
use Rattle.refusals.specs.declared.Fault.TheVariants as fault
use Rattle.refusals.specs.declared.Refusal.{Refusal}
use Rattle.refusals.specs.declared.Refusal.TheVariants as refusal
use Rattle.std.specs.Prelude.{Result, Err}

module _ (P : ℕ → Type 0) (no-prefix : P 21) (no_number : P 22) (long : P 1) where
  by_reason : (e : Refusal) → PrefixOrNumber e → P (refusal_number e)
  by_reason e (inl q) = subst (λ (r : Refusal). P (refusal_number r)) (sym q) no-prefix
  by_reason e (inr q) = subst (λ (r : Refusal). P (refusal_number r)) (sym q) no_number

  -- 21 or 22, by how the list is judged; then 1
  by_judgement : (l : List ℕ) (given w : ℕ) (v : Result (Unit {0}) Refusal) → judge w l given ≡ v → Makes P (build_as (tree_bits l given w) v)
  by_judgement l given w Listed q = refused P _ (refusal.Map fault.MapTooLong) _ long tt
  by_judgement l given w (Err e) q = by_reason e (judged_refused w l given e q)

  makes : (l : List ℕ) (given w : ℕ) → Makes P (build_of l given w)
  unfolding build_of
  makes l given w = by_judgement l given w (judge w l given) refl

  -- 18 before all
  makes_at : P 18 → (l : List ℕ) (given w : ℕ) → Makes P (build_at l given w)
  unfolding at_width
  makes_at none l given w = go (is_width w)
    where
      go : (b : Bool) → Makes P (cond b (build_of l given w) (No refusal.Width))
      go true = makes l given w
      go false = none

-- and 14 behind all
pub build-numbers : (P : ℕ → Type 0) (k : ℕ) (l : List ℕ) (given w : ℕ) → P 18 → P 21 → P 22 → P 1 → P 14
    → Refuses P (byte_count (answer_of (within k (build_at l given w))))
build-numbers P k l given w none no-prefix no_number long short = bytes-numbers P k (build_at l given w) short (makes_at P no-prefix no_number long none l given w)
