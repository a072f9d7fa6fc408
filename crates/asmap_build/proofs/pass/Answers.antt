-- Each turn keeps what the loop knows (`Turns`).
use Rattle.std.proofs.Common.{◌≡◌, ◌∙◌, ℕ, zero, suc, ◌+◌, ◌-◌, ◌/◌, ◌^◌, ◌≤◌, List, refl, ap, arith, get_or, replicate}
use Rattle.prefix_records.specs.models.Cursor.{value_of}
use Rattle.prefix_lists.specs.List.{count_of, piece_at}
use Rattle.prefix_lists.specs.models.Listed.{Number, Rising}
use Rattle.prefix_runs.specs.models.Runs.{Cut}
use Rattle.asmap_build.specs.Build.{number_in}
use Rattle.asmap_build.proofs.BuildLaws.{number_at_lem}
use Rattle.asmap_build.proofs.Passing.{starting}
use Rattle.asmap_build.proofs.Turns.{turn_deep, turn-down, less-down, return_ready, turn-return, over-return, close_ready, turn_close, over_close, turn_cross, over_filled, turn_end}
use Rattle.asmap_build.proofs.pass.Goals as goal

-- the number of each address, and what the runs know of the list
abbrev F : List ℕ → ℕ → ℕ → ℕ
F records given = number_in records given 128

abbrev K : List ℕ → ℕ → ℕ → Type 0
K records = Cut records

numbers : (records : List ℕ) (given : ℕ) → Rising 128 records → Number given → (a : ℕ) → Number (F records given a)
numbers records given h k = number_at_lem 128 (piece_at records) given (count_of records) h.numbers k

small : 128 ≤ 128
small = omega arith

lower : (d v : ℕ) → v + 2 ^ (127 - d) ≡ v + 2 ^ (128 - suc d)
lower d v = let e : 127 - d ≡ 128 - suc d = omega arith in ap (λ (i : ℕ). v + 2 ^ i) e

-- no half is begun
zeros : (n i : ℕ) → get_or {A = ℕ} (replicate n 0) i 0 ≡ 0
zeros zero i = refl
zeros (suc n) zero = refl
zeros (suc n) (suc i) = zeros n i

pub loop-depth-init : goal.loop-depth-init
loop-depth-init g c =
    let n : c.div_ceil.result ≡ (c.args.total + 7) / 8 = omega (arith, c.div_ceil.ensures) in
    rw n (starting (F c.args.prefixes.records.now c.args.prefixes.given) (K c.args.prefixes.records.now) 128 g.S.Step.writes c.args.total c.args.out.now
    (replicate 129 0) c.last_run-run.result refl (zeros 129) c.last_run-run.ensures.0 c.last_run-run.ensures.1 c.requires.1)

pub one_half-first-requires : goal.one_half-first-requires
one_half-first-requires g c =
    turn_deep (F c.args.prefixes.records.now c.args.prefixes.given) (K c.args.prefixes.records.now) 128 small (numbers c.args.prefixes.records.now c.args.prefixes.given c.args.prefixes.rising c.requires.0) c.loop-depth.invariant
    c.in-Descends.ensures.0 c.in-Descends.ensures.1

pub loop-depth-smaller-in-Descends : goal.loop-depth-smaller-in-Descends
loop-depth-smaller-in-Descends g c =
    less-down (F c.args.prefixes.records.now c.args.prefixes.given) (K c.args.prefixes.records.now) 128 small (numbers c.args.prefixes.records.now c.args.prefixes.given c.args.prefixes.rising c.requires.0) c.loop-depth.invariant
    c.in-Descends.ensures.0 c.in-Descends.ensures.1 (value_of c.one_half-first.result) (c.one_half-first.ensures ∙ lower c.loop-depth.depth (value_of c.loop-depth.first))

pub loop-depth-preserved-in-Descends : goal.loop-depth-preserved-in-Descends
loop-depth-preserved-in-Descends g c =
    turn-down (F c.args.prefixes.records.now c.args.prefixes.given) (K c.args.prefixes.records.now) 128 small (numbers c.args.prefixes.records.now c.args.prefixes.given c.args.prefixes.rising c.requires.0) c.loop-depth.invariant
    c.in-Descends.ensures.0 c.in-Descends.ensures.1 (value_of c.one_half-first.result) (c.one_half-first.ensures ∙ lower c.loop-depth.depth (value_of c.loop-depth.first))

pub put_before-front-requires : goal.put_before-front-requires
put_before-front-requires g c =
    return_ready (F c.args.prefixes.records.now c.args.prefixes.given) (K c.args.prefixes.records.now) 128 small (numbers c.args.prefixes.records.now c.args.prefixes.given c.args.prefixes.rising c.requires.0) c.loop-depth.invariant
    c.in-Returns.ensures.0 c.in-Returns.ensures.1

pub returns-then-front-gt-MAX_BITS : goal.returns-then-front-gt-MAX_BITS
returns-then-front-gt-MAX_BITS g c =
    let n = numbers c.args.prefixes.records.now c.args.prefixes.given c.args.prefixes.rising c.requires.0 in
    let o = over-return (F c.args.prefixes.records.now c.args.prefixes.given) (K c.args.prefixes.records.now) 128 small n c.loop-depth.invariant
    c.in-Returns.ensures.0 c.in-Returns.ensures.1 c.put_before-front.ensures c.if-front-gt-MAX_BITS.true in
    (o, over_filled (F c.args.prefixes.records.now c.args.prefixes.given) (K c.args.prefixes.records.now) 128 small n c.loop-depth.invariant c.requires.1 o c.put_before-front.ensures.idle)

pub loop-depth-preserved-in-Returns : goal.loop-depth-preserved-in-Returns
loop-depth-preserved-in-Returns g c =
    turn-return (F c.args.prefixes.records.now c.args.prefixes.given) (K c.args.prefixes.records.now) 128 small (numbers c.args.prefixes.records.now c.args.prefixes.given c.args.prefixes.rising c.requires.0) c.loop-depth.invariant
    c.in-Returns.ensures.0 c.in-Returns.ensures.1 c.put_before-front.ensures (omega (arith, c.if-front-gt-MAX_BITS.false))

pub put_before-front-requires-in-Closes : goal.put_before-front-requires-in-Closes
put_before-front-requires-in-Closes g c =
    close_ready (F c.args.prefixes.records.now c.args.prefixes.given) (K c.args.prefixes.records.now) 128 small (numbers c.args.prefixes.records.now c.args.prefixes.given c.args.prefixes.rising c.requires.0) c.loop-depth.invariant
    c.in-Closes.ensures.0 (omega (arith, c.in-Closes.ensures.0, c.loop-depth-test.true)) c.in-Closes.ensures.1

pub returns-then-front-gt-MAX_BITS-2 : goal.returns-then-front-gt-MAX_BITS-2
returns-then-front-gt-MAX_BITS-2 g c =
    let n = numbers c.args.prefixes.records.now c.args.prefixes.given c.args.prefixes.rising c.requires.0 in
    let o = over_close (F c.args.prefixes.records.now c.args.prefixes.given) (K c.args.prefixes.records.now) 128 small n c.loop-depth.invariant
    c.in-Closes.ensures.0 (omega (arith, c.in-Closes.ensures.0, c.loop-depth-test.true)) c.in-Closes.ensures.1 c.put_before-front-in-Closes.ensures c.if-front-gt-MAX_BITS-2.true in
    (o, over_filled (F c.args.prefixes.records.now c.args.prefixes.given) (K c.args.prefixes.records.now) 128 small n c.loop-depth.invariant c.requires.1 o c.put_before-front-in-Closes.ensures.idle)

pub loop-depth-preserved-in-Closes : goal.loop-depth-preserved-in-Closes
loop-depth-preserved-in-Closes g c =
    turn_close (F c.args.prefixes.records.now c.args.prefixes.given) (K c.args.prefixes.records.now) 128 small (numbers c.args.prefixes.records.now c.args.prefixes.given c.args.prefixes.rising c.requires.0) c.loop-depth.invariant
    c.in-Closes.ensures.0 (omega (arith, c.in-Closes.ensures.0, c.loop-depth-test.true)) c.in-Closes.ensures.1 c.put_before-front-in-Closes.ensures (omega (arith, c.if-front-gt-MAX_BITS-2.false))

pub loop-depth-preserved : goal.loop-depth-preserved
loop-depth-preserved g c =
    turn_cross (F c.args.prefixes.records.now c.args.prefixes.given) (K c.args.prefixes.records.now) 128 small (numbers c.args.prefixes.records.now c.args.prefixes.given c.args.prefixes.rising c.requires.0) c.loop-depth.invariant
    c.in-Crosses.ensures.0 (omega (arith, c.in-Crosses.ensures.0, c.loop-depth-test.true)) c.in-Crosses.ensures.1 c.run_before-run.ensures.0 c.run_before-run.ensures.1
    (value_of c.zero_half-first.result) c.zero_half-first.ensures

pub returns : goal.returns
returns g c =
    turn_end (F c.args.prefixes.records.now c.args.prefixes.given) (K c.args.prefixes.records.now) 128 small (numbers c.args.prefixes.records.now c.args.prefixes.given c.args.prefixes.rising c.requires.0) c.loop-depth.invariant (omega (arith, c.loop-depth-test.false))
