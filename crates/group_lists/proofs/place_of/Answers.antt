-- `place_of`: eight groups with no hit leave it to those after them.
use Rattle.std.proofs.Common.{◌≡◌, ◌*◌, ◌+◌, take, drop, arith, length-drop}
use Rattle.std.proofs.lemmas.List.{length-take-le}
use Rattle.group_lists.specs.Scan.{in_front}
use Rattle.group_lists.proofs.Scans.{front_most, rest_on}
use Rattle.group_lists.proofs.place_of.Goals as goal

pub loop-turn-preserved : goal.loop-turn-preserved
loop-turn-preserved c =
    let i = 8 * c.loop-turn.turn in
    let g = c.args.group in
    let gs = c.args.groups.now in
    let e = c.front_of-front.ensures in
    let m : in_front g (take 8 (drop i gs)) ≡ 8 = omega (arith, e, front_most g (take 8 (drop i gs)), length-take-le 8 (drop i gs) (omega (arith, length-drop i gs))) in
    let next : 8 * (c.loop-turn.turn + 1) ≡ i + 8 = omega arith in
    rw next (omega (arith, c.loop-turn.invariant, rest_on g gs i 8 (omega arith) (omega (arith, m))))
