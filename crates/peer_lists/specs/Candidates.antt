-- The candidates of a pick (document 01, Groups and pick): a row of bytes, 20 to each, in ranked order.
-- Assumes nothing.
use Rattle.std.specs.Prelude.{ℕ, zero, suc, ◌/◌, Bool, true, ◌&&◌, List, [], ◌∷◌, length, take, drop}
use Rattle.candidate_bytes.specs.Candidate.{valid}

-- the first n candidates of a row of bytes
abbrev pub cut : ℕ → List ℕ → List (List ℕ)
cut zero bytes = []
cut (suc n) bytes = take 20 bytes ∷ cut n (drop 20 bytes)

-- all of them
abbrev pub candidates_of : List ℕ → List (List ℕ)
candidates_of bytes = cut (length bytes / 20) bytes

-- none of them is what 13 refuses
abbrev pub all_valid : List (List ℕ) → Bool
all_valid [] = true
all_valid (c ∷ cs) = valid c && all_valid cs
