-- Verdicts taken apart: two that accept with the same are the same number by number.
-- Assumes nothing.
use Prim.Native.Nat.{ℕ}
use mathlib.Core.Path.{◌≡◌, ap}
use Rattle.std.specs.Prelude.{Ok, Err}
use Rattle.asmap_program.specs.Verdict.{Accepted, Verdict}

-- the numbers of a verdict that accepts
count_in : Verdict → ℕ
count_in (Ok got) = got.count
count_in (Err f) = 0

depth_in : Verdict → ℕ
depth_in (Ok got) = got.depth
depth_in (Err f) = 0

pub accepted-same : {c d c' d' : ℕ} → Accepted c d ≡ Accepted c' d' → (c ≡ c') × (d ≡ d')
unfolding count_in depth_in
accepted-same e = (ap count_in e, ap depth_in e)
