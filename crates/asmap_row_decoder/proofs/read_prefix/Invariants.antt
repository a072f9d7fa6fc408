-- At each size the code that is left is the code that was asked for, wherever it stands.
use Rattle.std.proofs.Common.{◌≡◌, ℕ, ◌+◌, ◌^◌, ◌≤◌, drop}
use Rattle.asmap_codes.specs.Row.{span}
use Rattle.asmap_row_decoder.specs.models.InWindow.{code_in}
use Rattle.asmap_row_decoder.proofs.read_prefix.Given as goal

abbrev pub invariant-loop-i : goal.invariant-loop-i
invariant-loop-i l =
    (l.value + span (drop l.i l.sizes) ≤ 2 ^ 31)
    × ((at end : ℕ) → code_in l.sizes l.least at end l.w ≡ code_in (drop l.i l.sizes) l.value (at + l.i) end l.left)
