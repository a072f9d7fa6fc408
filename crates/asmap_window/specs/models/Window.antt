-- A window: a number whose lowest bits are bits of a map. What the decoder reads from; no promise speaks of it.
-- Assumes nothing.
use Rattle.std.specs.Prelude.{ℕ, ◌/◌, ◌%◌, ◌^◌, ◌<◌, ◌≡◌, List, get_or}

-- the n lowest bits of w are the first n of the bits, with zeros past their end
abbrev pub Window : ℕ → ℕ → List ℕ → Type 0
Window n w bs = (i : ℕ) → i < n → w / 2 ^ i % 2 ≡ get_or bs i 0
