-- What a turn over the sizes of a row leaves, and the cases of a code, for the proofs of the decoder and the writer.
-- Assumes nothing.
use mathlib.Core.Path.{◌≡◌}
use mathlib.Core.List.{List, ◌∷◌}
use Prim.Native.Nat.{ℕ, ◌+◌, ◌^◌, ◌≤◌, ◌<◌}
use native.Mathlib.Numerals.{add-one}
use native.Mathlib.Omega.{arith}
use lib.ListN.{length, get_or, drop}
use lib.Seq.{drop-cons}
use Rattle.asmap_codes.specs.Row.{span}
use Rattle.asmap_codes.proofs.BitLaws.{size_of_pow}

-- the head of what is left of a list
pub heads : (l : List ℕ) (i : ℕ) → i < length l → drop i l ≡ get_or l i 0 ∷ drop (i + 1) l
heads l i h = rw (add-one i) (drop-cons l i 0 h)

-- what is left of a row's span
pub span-drop : (ss : List ℕ) (i : ℕ) → i < length ss → span (drop i ss) ≡ 2 ^ get_or ss i 0 + span (drop (i + 1) ss)
span-drop ss i h = rw (add-one i, drop-cons ss i 0)

-- a size of a row whose values fit 31 bits is at most 31
pub size_small : (ss : List ℕ) (i : ℕ) → i < length ss → span (drop i ss) ≤ 2 ^ 31 → get_or ss i 0 ≤ 31
size_small ss i h k = size_of_pow (get_or ss i 0) (omega (arith, span-drop ss i h))
