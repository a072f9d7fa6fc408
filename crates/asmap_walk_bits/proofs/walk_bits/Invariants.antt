-- The defined walk from where the loop stands is the defined walk, and the bits of a MATCH are compared as it compares them. The walker keeps the
-- width with which it starts.
use Rattle.std.proofs.Common.{◌≡◌, ◌-◌, ◌^◌}
use Rattle.asmap_walk_bits.proofs.Walking.{Walking, Comparing}
use Rattle.asmap_walk_bits.proofs.walk_bits.Given as goal

abbrev pub invariant-loop-left : goal.invariant-loop-left
invariant-loop-left l =
    Comparing l.address l.width l.operand (l.initial.walker.used - l.front) l.walker.used l.left
    × ((l.walker.at ≡ l.initial.walker.at) × (l.walker.width ≡ l.initial.walker.width) × (l.walker.default ≡ l.initial.walker.default))

abbrev pub invariant-walk : goal.invariant-walk
invariant-walk l = Walking l.map l.address l.width l.walker.at l.walker.used l.walker.default l.count × (l.walker.width ≡ l.width)

abbrev pub decreases-walk : goal.decreases-walk
decreases-walk l = 2 ^ 32 - l.walker.at
