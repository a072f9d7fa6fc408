-- An output of a call (document 01, What a call hands back): it is written from its front.
-- Assumes nothing.
use Rattle.std.specs.Prelude.{ℕ, List, ◌++◌, length, drop}

-- a list written to the front of an output; what lies past it stays
abbrev pub written : List ℕ → List ℕ → List ℕ
written xs output = xs ++ drop (length xs) output
