-- `front_of` looks at one group after the other, however its place is written (`next_hit`, `next_missed`).
use Rattle.std.proofs.Common.{◌≡◌, ◌∙◌, ap, ℕ, ◌+◌, ◌-◌, arith, get_or, take, drop}
use Rattle.group_lists.specs.Scan.{in_front}
use Rattle.group_lists.proofs.Scans.{next_hit, next_missed}
use Rattle.group_lists.proofs.front_of.Goals as goal

pub loop-k-preserved : goal.loop-k-preserved
loop-k-preserved g c =
    let gs = c.args.groups.now in
    let x = c.args.group in
    let k = c.loop-k.k in
    let at = c.args.i + k in
    let left = g.row.N - (k + 1) in
    let more : g.row.N - k ≡ 1 + left = omega arith in
    let next : at + 1 ≡ c.args.i + (k + 1) = omega arith in
    let i : in_front x (take g.row.N (drop c.args.i gs)) ≡ k + in_front x (take (1 + left) (drop at gs)) = rw more at c.loop-k.invariant in
    let missed : x ≡ get_or gs at 0 → ⊥ = λ e. c.if-group-groups.false (e ∙ ap (λ (j : ℕ). get_or gs j 0) (omega arith)) in
    let m : in_front x (take (1 + left) (drop at gs)) ≡ 1 + in_front x (take left (drop (c.args.i + (k + 1)) gs)) = rw next at (next_missed x gs at left (omega arith) missed) in
    omega (arith, i, m)

pub returns-then-group-groups : goal.returns-then-group-groups
returns-then-group-groups g c =
    let gs = c.args.groups.now in
    let x = c.args.group in
    let k = c.loop-k.k in
    let at = c.args.i + k in
    let left = g.row.N - (k + 1) in
    let more : g.row.N - k ≡ 1 + left = omega arith in
    let i : in_front x (take g.row.N (drop c.args.i gs)) ≡ k + in_front x (take (1 + left) (drop at gs)) = rw more at c.loop-k.invariant in
    let hit : x ≡ get_or gs at 0 = c.if-group-groups.true ∙ ap (λ (j : ℕ). get_or gs j 0) (omega arith) in
    omega (arith, i, next_hit x gs at left (omega arith) hit)

pub returns : goal.returns
returns g c =
    let z : g.row.N - c.loop-k.k ≡ 0 = omega arith in
    let i = rw z at c.loop-k.invariant in
    omega (arith, i)
