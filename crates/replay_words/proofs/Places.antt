-- A place found, as std finds it. Assumes nothing.
use Rattle.std.proofs.Common.{ℕ, ◌+◌, ◌≤◌, true, false, cond, List, [], ◌∷◌, ◌≡◌, eqb, arith}
use Rattle.std.proofs.Common.{Some, None, unwrap_or, ltb}
use Rattle.std.proofs.lemmas.Bool.Decides.{nat_tests}
use mathlib.Core.Bool.{Bool, not}
use Rattle.std.specs.List.{position_or_len}
use Rattle.replay_words.specs.Words.{place_of}

further : (t : Bool) (at k : ℕ) → cond t at (at + 1 + k) ≡ at + cond (not t) (1 + k) 0
further true at k = omega arith
further false at k = omega arith

pub place_at : (at : ℕ) (xs : List ℕ) (byte : ℕ) → place_of at xs byte ≡ at + position_or_len (λ b. eqb b byte) xs
unfolding place_of
place_at at [] byte = omega arith
place_at at (b ∷ bs) byte =
    rw (place_at (at + 1) bs byte) (further (eqb b byte) at (position_or_len (λ b. eqb b byte) bs))

-- or the length, where nothing is found
pub or_length : (k n : ℕ) → k ≤ n → unwrap_or (cond (ltb k n) (Some k) None) n ≡ k
or_length k n h = grind (arith, nat_tests)
