-- Each turn is a turn of the defined walk (`Walking`), and the bits of a MATCH are compared as it compares them (`Comparing`).
use Rattle.std.proofs.Common.{◌≡◌, ◌∙◌, ℕ, ◌+◌, ◌-◌, ◌*◌, true, false, List, length, drop, refl, sym, lit<, arith, Option}
use lib.Dec.{lit≤}
use borrow.Author.Tests.{eq-eqb, ne_eqb}
use Rattle.asmap_codes.specs.Bits.{map_bits}
use Rattle.asmap_codes.specs.Row.{type_row, operand_row}
use Rattle.asmap_codes.specs.Code.{code_at}
use Rattle.asmap_codes.proofs.Inside.{long_operand}
use Rattle.asmap_window.specs.models.Window.{Window}
use Rattle.asmap_row_decoder.specs.models.InWindow.{Holds, row_in}
use Rattle.asmap_row_decoder.proofs.WindowLaws.{row-window, window-holds}
use Rattle.asmap_walk_bits.proofs.Walking.{Walking, Taken, Comparing, walking_start, opcode_read_lem, cut_opcode, cut_operand, read, returns_ends, jump_ends, jump_onward, jump_goes, jump_past, match_some, match_most, match_ends, match_differs, match_goes, default_goes, comparing_start, equal_goes, different_ends, all_equal, comparing_from, front_goes}
use Rattle.asmap_walk_bits.proofs.walk_bits.Goals as goal
use Rattle.asmap_codes.specs.Reading.{Code, Value}

-- the opcode and the operand that were read are those of the map
typed : (m : List ℕ) (p w : ℕ) (r g : Option Code) → Window 57 w (drop p (map_bits m)) → r ≡ row_in type_row p (8 * length m) w → r ≡ g → code_at m p type_row ≡ g
typed m p w r g h e q = sym (e ∙ row-window m p w type_row (lit< tt) (window-holds m p w type_row (lit≤ tt) h)) ∙ q

operand : (m : List ℕ) (o p w : ℕ) (r g : Option Code) → Holds (operand_row o) m p w → r ≡ row_in (operand_row o) p (8 * length m) w → r ≡ g → code_at m p (operand_row o) ≡ g
operand m o p w r g h e q = sym (e ∙ row-window m p w (operand_row o) (long_operand o) h) ∙ q

-- what is known where an instruction was read whole, said once
taken : {m a : List ℕ} {w pos used default count : ℕ} → Walking m a w pos used default count → (word rest op at x n : ℕ) (f s : Option Code)
    → Window 57 word (drop pos (map_bits m)) → f ≡ row_in type_row pos (8 * length m) word → f ≡ Value op at
    → Holds (operand_row op) m at rest → s ≡ row_in (operand_row op) at (8 * length m) rest → s ≡ Value x n
    → Taken m a w pos used default count op at x n
taken {m} {pos = pos} v word rest op at x n f s h e q k d r =
    record { walking = v; opcode = typed m pos word f _ h e q; operand = operand m op at rest s _ k d r }

-- in the loop over a MATCH's bits: the MATCH began where the walk stood, and the bits equal at its front are behind
comparing : (a : List ℕ) (w x u r used left : ℕ) → Comparing a w x (u + r - r) used left → Comparing a w x u used left
comparing a w x u r used left c = let e : u + r - r ≡ u = omega arith in comparing_from e c

pub walk-init : goal.walk-init
walk-init c = walking_start c.args.map.now c.args.address.now c.args.width _ c.walk_start-walker.ensures c.requires.0 c.requires.1 (omega arith)

pub returns-in_default : goal.returns-in_default
returns-in_default c = c.abort.ensures ∙ cut_opcode c.walk.invariant.0 (typed c.args.map.now c.walk.walker.at _ _ _ c.window-w.ensures c.type_in-first.ensures c.in_default.is)

pub operand_window-rest-requires : goal.operand_window-rest-requires
operand_window-rest-requires c = (c.window-w.ensures, typed c.args.map.now c.walk.walker.at _ _ _ c.window-w.ensures c.type_in-first.ensures c.in-Some.is)

pub operand_in-second-requires : goal.operand_in-second-requires
operand_in-second-requires c =
    let v = c.walk.invariant.0 in
    omega (arith, (opcode_read_lem v (typed c.args.map.now c.walk.walker.at _ _ _ c.window-w.ensures c.type_in-first.ensures c.in-Some.is)).0, v.fits)

pub returns-in_default-second : goal.returns-in_default-second
returns-in_default-second c =
    let o = typed c.args.map.now c.walk.walker.at _ _ _ c.window-w.ensures c.type_in-first.ensures c.in-Some.is in
    let x = operand c.args.map.now c.in-Some.opcode _ _ _ _ c.operand_window-rest.ensures c.operand_in-second.ensures c.in_default-second.is in
    c.abort-in_default-second.ensures ∙ cut_operand c.walk.invariant.0 o x

pub overflow_add-count : goal.overflow_add-count
overflow_add-count c =
    let v = c.walk.invariant.0 in
    let t = taken v _ _ _ _ _ _ _ _ c.window-w.ensures c.type_in-first.ensures c.in-Some.is c.operand_window-rest.ensures c.operand_in-second.ensures c.in-Some-second.is in
    let r = read t in omega (arith, r.start, r.near, v.few)

-- ---- RETURN

pub returns-in-0 : goal.returns-in-0
returns-in-0 c =
    let v = c.walk.invariant.0 in
    let t = taken v _ _ _ _ _ _ _ _ c.window-w.ensures c.type_in-first.ensures c.in-Some.is c.operand_window-rest.ensures c.operand_in-second.ensures c.in-Some-second.is in
    returns_ends t c.in-0.is

-- ---- JUMP

pub returns-then-walker : goal.returns-then-walker
returns-then-walker c =
    let v = c.walk.invariant.0 in
    let t = taken v _ _ _ _ _ _ _ _ c.window-w.ensures c.type_in-first.ensures c.in-Some.is c.operand_window-rest.ensures c.operand_in-second.ensures c.in-Some-second.is in
    c.abort-then-walker.ensures ∙ jump_ends t c.in-1.is (omega (arith, c.if-walker.true, c.walk.invariant.1))

pub overflow_add-walker-then-bit-eq1 : goal.overflow_add-walker-then-bit-eq1
overflow_add-walker-then-bit-eq1 c =
    let v = c.walk.invariant.0 in
    let t = taken v _ _ _ _ _ _ _ _ c.window-w.ensures c.type_in-first.ensures c.in-Some.is c.operand_window-rest.ensures c.operand_in-second.ensures c.in-Some-second.is in
    let r = read t in omega (arith, r.near)

pub returns-then-end-walker : goal.returns-then-end-walker
returns-then-end-walker c =
    let v = c.walk.invariant.0 in
    let t = taken v _ _ _ _ _ _ _ _ c.window-w.ensures c.type_in-first.ensures c.in-Some.is c.operand_window-rest.ensures c.operand_in-second.ensures c.in-Some-second.is in
    c.abort-then-end-walker.ensures
    ∙ jump_past t c.in-1.is (omega (arith, c.if-walker.false, c.walk.invariant.1)) (eq-eqb _ 1 (sym c.address_bit-bit.ensures ∙ c.if-bit-eq1.true)) (omega (arith, c.if-end-walker.true))

pub walk-smaller-else-end-walker : goal.walk-smaller-else-end-walker
walk-smaller-else-end-walker c =
    let v = c.walk.invariant.0 in
    let t = taken v _ _ _ _ _ _ _ _ c.window-w.ensures c.type_in-first.ensures c.in-Some.is c.operand_window-rest.ensures c.operand_in-second.ensures c.in-Some-second.is in
    let o = jump_onward t c.in-1.is true in omega (arith, o.0, o.1)

pub walk-preserved-else-end-walker : goal.walk-preserved-else-end-walker
walk-preserved-else-end-walker c =
    let v = c.walk.invariant.0 in
    let t = taken v _ _ _ _ _ _ _ _ c.window-w.ensures c.type_in-first.ensures c.in-Some.is c.operand_window-rest.ensures c.operand_in-second.ensures c.in-Some-second.is in
    (jump_goes t c.in-1.is (omega (arith, c.if-walker.false, c.walk.invariant.1)) true (eq-eqb _ 1 (sym c.address_bit-bit.ensures ∙ c.if-bit-eq1.true)), c.walk.invariant.1)

pub walk-smaller-else-bit-eq1 : goal.walk-smaller-else-bit-eq1
walk-smaller-else-bit-eq1 c =
    let v = c.walk.invariant.0 in
    let t = taken v _ _ _ _ _ _ _ _ c.window-w.ensures c.type_in-first.ensures c.in-Some.is c.operand_window-rest.ensures c.operand_in-second.ensures c.in-Some-second.is in
    let o = jump_onward t c.in-1.is false in omega (arith, o.0, o.1)

pub walk-preserved-else-bit-eq1 : goal.walk-preserved-else-bit-eq1
walk-preserved-else-bit-eq1 c =
    let v = c.walk.invariant.0 in
    let t = taken v _ _ _ _ _ _ _ _ c.window-w.ensures c.type_in-first.ensures c.in-Some.is c.operand_window-rest.ensures c.operand_in-second.ensures c.in-Some-second.is in
    (jump_goes t c.in-1.is (omega (arith, c.if-walker.false, c.walk.invariant.1)) false (ne_eqb _ 1 (λ z. c.if-bit-eq1.false (c.address_bit-bit.ensures ∙ z))), c.walk.invariant.1)

-- ---- MATCH

pub match_length-length-requires : goal.match_length-length-requires
match_length-length-requires c =
    let v = c.walk.invariant.0 in
    let t = taken v _ _ _ _ _ _ _ _ c.window-w.ensures c.type_in-first.ensures c.in-Some.is c.operand_window-rest.ensures c.operand_in-second.ensures c.in-Some-second.is in
    omega (arith, match_some t c.in-2.is)

pub returns-then-walker-length : goal.returns-then-walker-length
returns-then-walker-length c =
    let v = c.walk.invariant.0 in
    let t = taken v _ _ _ _ _ _ _ _ c.window-w.ensures c.type_in-first.ensures c.in-Some.is c.operand_window-rest.ensures c.operand_in-second.ensures c.in-Some-second.is in
    c.abort-then-walker-length.ensures
    ∙ match_ends t c.in-2.is (omega (arith, c.if-walker-length.true, c.match_length-length.ensures, v.room, c.walk.invariant.1))

pub equal_front-front-requires : goal.equal_front-front-requires
equal_front-front-requires c =
    let v = c.walk.invariant.0 in
    let t = taken v _ _ _ _ _ _ _ _ c.window-w.ensures c.type_in-first.ensures c.in-Some.is c.operand_window-rest.ensures c.operand_in-second.ensures c.in-Some-second.is in
    omega (arith, match_most t c.in-2.is, c.match_length-length.ensures)

pub loop-left-init : goal.loop-left-init
loop-left-init c =
    let v = c.walk.invariant.0 in
    let t = taken v _ _ _ _ _ _ _ _ c.window-w.ensures c.type_in-first.ensures c.in-Some.is c.operand_window-rest.ensures c.operand_in-second.ensures c.in-Some-second.is in
    let r = c.equal_front-front in
    let s = comparing_start t c.in-2.is _ c.match_length-length.ensures (omega (arith, c.if-walker-length.false, v.room, c.walk.invariant.1)) in
    let u = c.walk.walker.used in
    let e : u ≡ u + r.result - r.result = omega arith in
    (comparing_from e (front_goes s r.result r.ensures.most r.ensures.same), (refl, refl, refl))

pub walk-smaller-in-loop-left : goal.walk-smaller-in-loop-left
walk-smaller-in-loop-left c =
    let v = c.walk.invariant.0 in
    let t = taken v _ _ _ _ _ _ _ _ c.window-w.ensures c.type_in-first.ensures c.in-Some.is c.operand_window-rest.ensures c.operand_in-second.ensures c.in-Some-second.is in
    let r = read t in omega (arith, r.start, r.near, c.loop-left.invariant.1.0)

pub walk-preserved-in-loop-left : goal.walk-preserved-in-loop-left
walk-preserved-in-loop-left c =
    let v = c.walk.invariant.0 in
    let t = taken v _ _ _ _ _ _ _ _ c.window-w.ensures c.type_in-first.ensures c.in-Some.is c.operand_window-rest.ensures c.operand_in-second.ensures c.in-Some-second.is in
    let l = comparing c.args.address.now c.args.width c.in-Some-second.operand c.walk.walker.used c.equal_front-front.result _ _ c.loop-left.invariant.0 in
    let s = c.loop-left.invariant.1 in
    let z : c.loop-left.left ≡ 0 = omega (arith, c.loop-left-test.false) in
    (match_goes t c.in-2.is l.room (all_equal l z) _ (omega (arith, l.place, z)) s.0 s.2, s.1 ∙ c.walk.invariant.1)

pub loop-left-preserved : goal.loop-left-preserved
loop-left-preserved c = (equal_goes c.loop-left.invariant.0 c.loop-left-test.true (sym c.address_bit.ensures ∙ c.if-address_bit-bit_of.false ∙ c.bit_of.ensures), c.loop-left.invariant.1)

-- ---- DEFAULT

pub walk-smaller : goal.walk-smaller
walk-smaller c =
    let v = c.walk.invariant.0 in
    let t = taken v _ _ _ _ _ _ _ _ c.window-w.ensures c.type_in-first.ensures c.in-Some.is c.operand_window-rest.ensures c.operand_in-second.ensures c.in-Some-second.is in
    let r = read t in omega (arith, r.start, r.near)

pub walk-preserved : goal.walk-preserved
walk-preserved c =
    let v = c.walk.invariant.0 in
    let t = taken v _ _ _ _ _ _ _ _ c.window-w.ensures c.type_in-first.ensures c.in-Some.is c.operand_window-rest.ensures c.operand_in-second.ensures c.in-Some-second.is in
    (default_goes t (omega arith) (omega arith) (omega arith), c.walk.invariant.1)

pub returns : goal.returns
returns c =
    let v = c.walk.invariant.0 in
    let t = taken v _ _ _ _ _ _ _ _ c.window-w.ensures c.type_in-first.ensures c.in-Some.is c.operand_window-rest.ensures c.operand_in-second.ensures c.in-Some-second.is in
    let l = comparing c.args.address.now c.args.width c.in-Some-second.operand c.walk.walker.used c.equal_front-front.result _ _ c.loop-left.invariant.0 in
    match_differs t c.in-2.is l.room _
    (different_ends l c.loop-left-test.true (λ z. c.if-address_bit-bit_of.true (c.address_bit.ensures ∙ z ∙ sym c.bit_of.ensures))) c.loop-left.invariant.1.2
