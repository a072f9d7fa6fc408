-- Two maps compared, and an address walked through both, as a caller reads it: "no record means that every address walks to the same number, whatever
-- the bytes".
-- Assumes nothing.
use Rattle.std.specs.Prelude.{ℕ, ◌≡◌}

-- All three calls answered 0, as r says; bytes: how many the comparison needs; number and number': those of the walks by the old map and by the new one.
abbrev pub AgreedWalks : ℕ → ℕ → ℕ → ℕ → Type 0
AgreedWalks r bytes number number' = r ≡ 0 → bytes ≡ 0 → number ≡ number'
