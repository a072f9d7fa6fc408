-- Each turn of the loop is a step of the definition (`Turn`); the check from where it stands is the check, and what it counted is what it passed.
use Rattle.std.proofs.Common.{◌≡◌, ◌∙◌, ℕ, ◌+◌, ◌-◌, ◌*◌, ◌≤◌, ◌<◌, List, length, max, sym, ap, arith, Result, Ok}
use lib.ListN.{set}
use mathlib.Core.Path.{subst}
use Rattle.asmap_program.specs.declared.Previous.{Previous}
use Rattle.asmap_program.specs.declared.Previous.TheVariants.{Other}
use Rattle.asmap_check_run.specs.declared.CheckState.{CheckState}
use Rattle.asmap_check_act.specs.declared.Act.{Act}
use Rattle.asmap_check_act.specs.declared.Act.TheVariants as act
use Rattle.asmap_check_act.specs.models.Acts.{Opens, Closes, Uses}
use Rattle.asmap_check_run.specs.models.State.{top, state_of}
use Rattle.asmap_check_act.specs.models.Act.{acts}
use Rattle.asmap_check_run.proofs.Standing.{Standing, standing_start, Counting, counting_start, count-few, pieces-few, standing_room}
use Rattle.asmap_check_run.proofs.StateLaws.{length_opens}
use Rattle.asmap_check_run.proofs.Turn.{Turn, Turned, turn_end, less, certain, room_opens, turn_opens, turn_closes, turn_uses, turn_keeps, turn_accepts, turn_refuses}
use Rattle.asmap_check_run.proofs.run_check.Goals as goal
use Rattle.refusals.specs.declared.Fault.{Fault}

-- what `sanity_act` asks, out of its Result
acted : {a : Result Act Fault} {x : Act} (y : Act) → a ≡ Ok x → x ≡ y → a ≡ Ok y
acted {a} y e f = subst (λ (z : Act). a ≡ Ok z) f e

module _ (m : List ℕ) (w : ℕ) (st : CheckState) (pos : ℕ) (prev : Previous) (count deepest pieces : ℕ) where
  -- what is known in a turn, said once: after `sanity_act`
  turn : (t : ℕ) (a : Result Act Fault) → Standing m w (state_of st pos prev count deepest) × Counting m w (state_of st pos prev count deepest) pieces → pos < 8 * length m
      → t ≡ top st.targets st.depth → a ≡ acts m prev st.bits st.depth t pos → Turn m w st pos prev count deepest pieces a
  turn t a h k e q =
      record {
        standing = h.0;
        counting = h.1;
        inside = k;
        asked = ap (λ (x : ℕ). acts m prev st.bits st.depth x pos) (sym e) ∙ sym q;
      }

  -- a jump opens: `use_bits`, the stores, `open_jump`, `max`
  opened : (a : Result Act Fault) → Turn m w st pos prev count deepest pieces a → (n target deep : ℕ) → a ≡ Opens n target → st.depth < length st.targets → st.depth < length st.saved
      → (used made : CheckState) → used ≡ record { targets = st.targets; saved = st.saved; depth = st.depth; bits = st.bits - 1 }
      → made ≡ record { targets = set used.targets st.depth target; saved = set used.saved st.depth used.bits; depth = used.depth + 1; bits = used.bits }
      → deep ≡ max deepest made.depth → Turned m w pos pieces (state_of made n Other (count + 1) deep)
  opened a t n target deep e h k used made u o q =
      turn_opens t n target e h k made deep
      (o ∙ ap (λ (x : CheckState). record { targets = set x.targets st.depth target; saved = set x.saved st.depth x.bits; depth = x.depth + 1; bits = x.bits }) u)
      (q ∙ ap (max deepest) (ap (λ (x : CheckState). x.depth) o ∙ ap (λ (x : CheckState). x.depth + 1) u))

  -- a MATCH is as long as the bits left at most
  short : (a : Result Act Fault) → Turn m w st pos prev count deepest pieces a → (n k : ℕ) → a ≡ Uses n k → w ≤ 128 → k ≤ 128
  short a t n k e h = omega (arith, certain t (Uses n k) e, (standing_room _ _ _ t.standing).now)

pub loop-pos-init : goal.loop-pos-init
loop-pos-init c = rw (c.new-state.ensures.0, c.new-state.ensures.1) (standing_start _ _, counting_start _ _)

pub innermost-top-requires : goal.innermost-top-requires
innermost-top-requires c =
    let l = c.loop-pos in
    omega (arith, (standing_room _ _ _ l.invariant.0).now, length_opens l.state.targets l.state.saved l.state.depth, c.requires.1)

pub overflow_add-count : goal.overflow_add-count
overflow_add-count c = omega (arith, count-few c.args.map.now c.args.bits _ c.loop-pos.invariant.0, c.requires.0)

-- ---- JUMP

pub use_bits-state-requires : goal.use_bits-state-requires
use_bits-state-requires c =
    let l = c.loop-pos in
    let t = turn c.args.map.now c.args.bits l.state l.pos l.previous l.count l.deepest l.pieces _ _ l.invariant c.loop-pos-test.true c.innermost-top.ensures c.sanity_act-asked.ensures in
    certain t (Opens _ _) (acted (act.Opens c.in-Ok-Opens.next c.in-Ok-Opens.target) c.in-Ok-Opens.is (rw c.in-Ok-Opens.is at c.in-Ok-Opens.field-0-is))

pub offset_bounds-state-depth : goal.offset_bounds-state-depth
offset_bounds-state-depth c =
    let l = c.loop-pos in
    let t = turn c.args.map.now c.args.bits l.state l.pos l.previous l.count l.deepest l.pieces _ _ l.invariant c.loop-pos-test.true c.innermost-top.ensures c.sanity_act-asked.ensures in
    let d = room_opens t _ _ (acted (act.Opens c.in-Ok-Opens.next c.in-Ok-Opens.target) c.in-Ok-Opens.is (rw c.in-Ok-Opens.is at c.in-Ok-Opens.field-0-is)) in
    omega (arith, d, c.requires.1)

pub bounds-state-depth : goal.bounds-state-depth
bounds-state-depth c =
    let l = c.loop-pos in
    let t = turn c.args.map.now c.args.bits l.state l.pos l.previous l.count l.deepest l.pieces _ _ l.invariant c.loop-pos-test.true c.innermost-top.ensures c.sanity_act-asked.ensures in
    let d = room_opens t _ _ (acted (act.Opens c.in-Ok-Opens.next c.in-Ok-Opens.target) c.in-Ok-Opens.is (rw c.in-Ok-Opens.is at c.in-Ok-Opens.field-0-is)) in
    omega (arith, d, c.requires.1)

pub bounds-state-depth-in-Ok-Opens : goal.bounds-state-depth-in-Ok-Opens
bounds-state-depth-in-Ok-Opens c =
    let l = c.loop-pos in
    let t = turn c.args.map.now c.args.bits l.state l.pos l.previous l.count l.deepest l.pieces _ _ l.invariant c.loop-pos-test.true c.innermost-top.ensures c.sanity_act-asked.ensures in
    let d = room_opens t _ _ (acted (act.Opens c.in-Ok-Opens.next c.in-Ok-Opens.target) c.in-Ok-Opens.is (rw c.in-Ok-Opens.is at c.in-Ok-Opens.field-0-is)) in
    omega (arith, d, c.requires.1)

pub open_jump-state-requires : goal.open_jump-state-requires
open_jump-state-requires c =
    let l = c.loop-pos in
    let t = turn c.args.map.now c.args.bits l.state l.pos l.previous l.count l.deepest l.pieces _ _ l.invariant c.loop-pos-test.true c.innermost-top.ensures c.sanity_act-asked.ensures in
    let d = room_opens t _ _ (acted (act.Opens c.in-Ok-Opens.next c.in-Ok-Opens.target) c.in-Ok-Opens.is (rw c.in-Ok-Opens.is at c.in-Ok-Opens.field-0-is)) in
    omega (arith, d, c.requires.1, ap (λ (x : CheckState). x.depth) c.use_bits-state.ensures.0)

pub loop-pos-smaller-in-Ok-Opens : goal.loop-pos-smaller-in-Ok-Opens
loop-pos-smaller-in-Ok-Opens c =
    let l = c.loop-pos in
    let t = turn c.args.map.now c.args.bits l.state l.pos l.previous l.count l.deepest l.pieces _ _ l.invariant c.loop-pos-test.true c.innermost-top.ensures c.sanity_act-asked.ensures in
    let d = room_opens t _ _ (acted (act.Opens c.in-Ok-Opens.next c.in-Ok-Opens.target) c.in-Ok-Opens.is (rw c.in-Ok-Opens.is at c.in-Ok-Opens.field-0-is)) in
    let o = opened c.args.map.now c.args.bits l.state l.pos l.previous l.count l.deepest l.pieces _ t _ _ _ (acted (act.Opens c.in-Ok-Opens.next c.in-Ok-Opens.target) c.in-Ok-Opens.is (rw c.in-Ok-Opens.is at c.in-Ok-Opens.field-0-is)) (omega (arith, d, c.requires.1, c.use_bits-state.ensures.1.0)) (omega (arith, d, c.requires.1, c.use_bits-state.ensures.1.1)) _ _ c.use_bits-state.ensures.0 c.open_jump-state.ensures c.max-deepest.ensures in
    less t o

pub loop-pos-preserved-in-Ok-Opens : goal.loop-pos-preserved-in-Ok-Opens
loop-pos-preserved-in-Ok-Opens c =
    let l = c.loop-pos in
    let t = turn c.args.map.now c.args.bits l.state l.pos l.previous l.count l.deepest l.pieces _ _ l.invariant c.loop-pos-test.true c.innermost-top.ensures c.sanity_act-asked.ensures in
    let d = room_opens t _ _ (acted (act.Opens c.in-Ok-Opens.next c.in-Ok-Opens.target) c.in-Ok-Opens.is (rw c.in-Ok-Opens.is at c.in-Ok-Opens.field-0-is)) in
    let o = opened c.args.map.now c.args.bits l.state l.pos l.previous l.count l.deepest l.pieces _ t _ _ _ (acted (act.Opens c.in-Ok-Opens.next c.in-Ok-Opens.target) c.in-Ok-Opens.is (rw c.in-Ok-Opens.is at c.in-Ok-Opens.field-0-is)) (omega (arith, d, c.requires.1, c.use_bits-state.ensures.1.0)) (omega (arith, d, c.requires.1, c.use_bits-state.ensures.1.1)) _ _ c.use_bits-state.ensures.0 c.open_jump-state.ensures c.max-deepest.ensures in
    (o.standing, o.counting)

-- ---- RETURN

pub overflow_sub-saved : goal.overflow_sub-saved
overflow_sub-saved c =
    let l = c.loop-pos in
    let t = turn c.args.map.now c.args.bits l.state l.pos l.previous l.count l.deepest l.pieces _ _ l.invariant c.loop-pos-test.true c.innermost-top.ensures c.sanity_act-asked.ensures in
    certain t (Closes _) (acted (act.Closes c.in-Ok-Closes.next) c.in-Ok-Closes.is (rw c.in-Ok-Closes.is at c.in-Ok-Closes.field-0-is))

pub bounds-state-depth-in-Ok-Closes : goal.bounds-state-depth-in-Ok-Closes
bounds-state-depth-in-Ok-Closes c =
    let l = c.loop-pos in
    let t = turn c.args.map.now c.args.bits l.state l.pos l.previous l.count l.deepest l.pieces _ _ l.invariant c.loop-pos-test.true c.innermost-top.ensures c.sanity_act-asked.ensures in
    omega (arith, (standing_room _ _ _ l.invariant.0).now, length_opens l.state.targets l.state.saved l.state.depth, c.requires.1, certain t (Closes _) (acted (act.Closes c.in-Ok-Closes.next) c.in-Ok-Closes.is (rw c.in-Ok-Closes.is at c.in-Ok-Closes.field-0-is)))

pub close_jump-state-requires : goal.close_jump-state-requires
close_jump-state-requires c =
    let l = c.loop-pos in
    let t = turn c.args.map.now c.args.bits l.state l.pos l.previous l.count l.deepest l.pieces _ _ l.invariant c.loop-pos-test.true c.innermost-top.ensures c.sanity_act-asked.ensures in
    certain t (Closes _) (acted (act.Closes c.in-Ok-Closes.next) c.in-Ok-Closes.is (rw c.in-Ok-Closes.is at c.in-Ok-Closes.field-0-is))

pub loop-pos-smaller-in-Ok-Closes : goal.loop-pos-smaller-in-Ok-Closes
loop-pos-smaller-in-Ok-Closes c =
    let l = c.loop-pos in
    let t = turn c.args.map.now c.args.bits l.state l.pos l.previous l.count l.deepest l.pieces _ _ l.invariant c.loop-pos-test.true c.innermost-top.ensures c.sanity_act-asked.ensures in
    let o = turn_closes t _ (acted (act.Closes c.in-Ok-Closes.next) c.in-Ok-Closes.is (rw c.in-Ok-Closes.is at c.in-Ok-Closes.field-0-is)) c.close_jump-state.result c.close_jump-state.ensures in
    less t o

pub loop-pos-preserved-in-Ok-Closes : goal.loop-pos-preserved-in-Ok-Closes
loop-pos-preserved-in-Ok-Closes c =
    let l = c.loop-pos in
    let t = turn c.args.map.now c.args.bits l.state l.pos l.previous l.count l.deepest l.pieces _ _ l.invariant c.loop-pos-test.true c.innermost-top.ensures c.sanity_act-asked.ensures in
    let o = turn_closes t _ (acted (act.Closes c.in-Ok-Closes.next) c.in-Ok-Closes.is (rw c.in-Ok-Closes.is at c.in-Ok-Closes.field-0-is)) c.close_jump-state.result c.close_jump-state.ensures in
    (o.standing, o.counting)

-- ---- MATCH

pub use_bits-state-requires-in-Ok-Uses : goal.use_bits-state-requires-in-Ok-Uses
use_bits-state-requires-in-Ok-Uses c =
    let l = c.loop-pos in
    let t = turn c.args.map.now c.args.bits l.state l.pos l.previous l.count l.deepest l.pieces _ _ l.invariant c.loop-pos-test.true c.innermost-top.ensures c.sanity_act-asked.ensures in
    certain t (Uses _ _) (acted (act.Uses c.in-Ok-Uses.next c.in-Ok-Uses.length) c.in-Ok-Uses.is (rw c.in-Ok-Uses.is at c.in-Ok-Uses.field-0-is))

pub loop-pos-smaller-in-Ok-Uses : goal.loop-pos-smaller-in-Ok-Uses
loop-pos-smaller-in-Ok-Uses c =
    let l = c.loop-pos in
    let t = turn c.args.map.now c.args.bits l.state l.pos l.previous l.count l.deepest l.pieces _ _ l.invariant c.loop-pos-test.true c.innermost-top.ensures c.sanity_act-asked.ensures in
    let k = short c.args.map.now c.args.bits l.state l.pos l.previous l.count l.deepest l.pieces _ t _ _ (acted (act.Uses c.in-Ok-Uses.next c.in-Ok-Uses.length) c.in-Ok-Uses.is (rw c.in-Ok-Uses.is at c.in-Ok-Uses.field-0-is)) c.requires.1 in
    let o = turn_uses t _ _ (acted (act.Uses c.in-Ok-Uses.next c.in-Ok-Uses.length) c.in-Ok-Uses.is (rw c.in-Ok-Uses.is at c.in-Ok-Uses.field-0-is)) c.use_bits-state-in-Ok-Uses.result c.after_match-previous.result c.use_bits-state-in-Ok-Uses.ensures.0 c.after_match-previous.ensures k in
    less t o

pub loop-pos-preserved-in-Ok-Uses : goal.loop-pos-preserved-in-Ok-Uses
loop-pos-preserved-in-Ok-Uses c =
    let l = c.loop-pos in
    let t = turn c.args.map.now c.args.bits l.state l.pos l.previous l.count l.deepest l.pieces _ _ l.invariant c.loop-pos-test.true c.innermost-top.ensures c.sanity_act-asked.ensures in
    let k = short c.args.map.now c.args.bits l.state l.pos l.previous l.count l.deepest l.pieces _ t _ _ (acted (act.Uses c.in-Ok-Uses.next c.in-Ok-Uses.length) c.in-Ok-Uses.is (rw c.in-Ok-Uses.is at c.in-Ok-Uses.field-0-is)) c.requires.1 in
    let o = turn_uses t _ _ (acted (act.Uses c.in-Ok-Uses.next c.in-Ok-Uses.length) c.in-Ok-Uses.is (rw c.in-Ok-Uses.is at c.in-Ok-Uses.field-0-is)) c.use_bits-state-in-Ok-Uses.result c.after_match-previous.result c.use_bits-state-in-Ok-Uses.ensures.0 c.after_match-previous.ensures k in
    (o.standing, o.counting)

-- ---- DEFAULT

pub loop-pos-smaller : goal.loop-pos-smaller
loop-pos-smaller c =
    let l = c.loop-pos in
    let t = turn c.args.map.now c.args.bits l.state l.pos l.previous l.count l.deepest l.pieces _ _ l.invariant c.loop-pos-test.true c.innermost-top.ensures c.sanity_act-asked.ensures in
    let o = turn_keeps t _ (acted (act.Keeps c.in-Ok-Keeps.next) c.in-Ok-Keeps.is (rw c.in-Ok-Keeps.is at c.in-Ok-Keeps.field-0-is)) in
    less t o

pub loop-pos-preserved : goal.loop-pos-preserved
loop-pos-preserved c =
    let l = c.loop-pos in
    let t = turn c.args.map.now c.args.bits l.state l.pos l.previous l.count l.deepest l.pieces _ _ l.invariant c.loop-pos-test.true c.innermost-top.ensures c.sanity_act-asked.ensures in
    let o = turn_keeps t _ (acted (act.Keeps c.in-Ok-Keeps.next) c.in-Ok-Keeps.is (rw c.in-Ok-Keeps.is at c.in-Ok-Keeps.field-0-is)) in
    (o.standing, o.counting)

-- ---- the answers

pub overflow_cast-result : goal.overflow_cast-result
overflow_cast-result c = omega (arith, (standing_room _ _ _ c.loop-pos.invariant.0).deep, c.requires.1)

pub returns-in-Ok-Accepts : goal.returns-in-Ok-Accepts
returns-in-Ok-Accepts c =
    let l = c.loop-pos in
    let t = turn c.args.map.now c.args.bits l.state l.pos l.previous l.count l.deepest l.pieces _ _ l.invariant c.loop-pos-test.true c.innermost-top.ensures c.sanity_act-asked.ensures in
    let n = pieces-few _ _ _ _ l.invariant.0 l.invariant.1 c.requires.0 in
    (turn_accepts t (acted act.Accepts c.in-Ok-Accepts.is (rw c.in-Ok-Accepts.is at c.in-Ok-Accepts.field-0-is)), omega (arith, n))

pub returns-in-Err : goal.returns-in-Err
returns-in-Err c =
    let l = c.loop-pos in
    let t = turn c.args.map.now c.args.bits l.state l.pos l.previous l.count l.deepest l.pieces _ _ l.invariant c.loop-pos-test.true c.innermost-top.ensures c.sanity_act-asked.ensures in
    let n = pieces-few _ _ _ _ l.invariant.0 l.invariant.1 c.requires.0 in
    (turn_refuses t _ c.in-Err.is, omega (arith, n))

pub returns : goal.returns
returns c =
    let l = c.loop-pos in
    let n = pieces-few _ _ _ _ l.invariant.0 l.invariant.1 c.requires.0 in
    (turn_end _ _ l.state _ _ _ _ _ l.invariant.0 l.invariant.1 c.loop-pos-test.false, omega (arith, n))
