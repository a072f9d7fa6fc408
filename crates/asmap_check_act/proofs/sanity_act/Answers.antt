-- Each opcode has its arm.
use Rattle.std.proofs.Common.{◌≡◌, ◌∙◌, ℕ, ◌*◌, ◌≤◌, ◌<◌, ◌^◌, Bool, false, List, length, drop, sym, lit<, arith, Option}
use mathlib.Core.Path.{subst}
use lib.Dec.{lit≤}
use Rattle.asmap_program.specs.Map.{limit}
use Rattle.asmap_program.specs.declared.Previous.{Previous}
use Rattle.asmap_codes.specs.Bits.{map_bits}
use Rattle.asmap_codes.specs.Row.{type_row, operand_row}
use Rattle.asmap_codes.specs.Code.{code_at}
use Rattle.asmap_codes.proofs.Inside.{value_at}
use Rattle.asmap_window.specs.models.Window.{Window}
use Rattle.asmap_row_decoder.specs.models.InWindow.{Holds, row_in}
use Rattle.asmap_row_decoder.proofs.WindowLaws.{row-window, window-holds}
use Rattle.asmap_check_act.specs.models.Act.{past_top, refusing, on_operand, acts}
use Rattle.asmap_check_act.proofs.sanity_act.Goals as goal
use Rattle.asmap_codes.specs.Reading.{Code, Value}

-- what was read is the opcode of the map
typed : (m : List ℕ) (at w : ℕ) (r g : Option Code) → Window 57 w (drop at (map_bits m)) → r ≡ row_in type_row at (8 * length m) w → r ≡ g → code_at m at type_row ≡ g
typed m at w r g h e q = sym (e ∙ row-window m at w type_row (lit< tt) (window-holds m at w type_row (lit≤ tt) h)) ∙ q

-- the operand of an opcode o starts inside the map, or at its end, and stands in the window
near : (m : List ℕ) (pos op at w o : ℕ) → length m ≤ limit → code_at m pos type_row ≡ Value op at → Holds (operand_row op) m at w → op ≡ o
    → (length m ≤ limit) × (at < 2 ^ 34) × Holds (operand_row o) m at w
near m pos op at w o l t h e = (l, omega (arith, (value_at m pos type_row _ _ (lit< tt) t).inside), subst (λ (x : ℕ). Holds (operand_row x) m at w) e h)

-- the arm of an opcode o is the act
arm : (m : List ℕ) (p : Previous) (bits d t pos op at o : ℕ) (b : Bool) → b ≡ past_top d t pos → b ≡ false → code_at m pos type_row ≡ Value op at → op ≡ o
    → on_operand m p bits d t o (code_at m at (operand_row o)) ≡ acts m p bits d t pos
unfolding refusing
arm m p bits d t pos op at o b h f k e = rw (sym h ∙ f, k, e)

-- an opcode is below 4
small : (m : List ℕ) (pos op at : ℕ) → code_at m pos type_row ≡ Value op at → op < 4
small m pos op at t = (value_at m pos type_row _ _ (lit< tt) t).below

pub returns-then-past : goal.returns-then-past
unfolding refusing
returns-then-past c = rw (sym c.past.ensures ∙ c.if-past.true)

pub returns-in_default : goal.returns-in_default
unfolding refusing
returns-in_default c =
    let read = typed c.args.map.now c.args.pos _ _ _ c.window-w.ensures c.type_in.ensures c.in_default.is in
    rw (sym c.past.ensures ∙ c.if-past.false, read)

pub operand_window-rest-requires : goal.operand_window-rest-requires
operand_window-rest-requires c = (c.window-w.ensures, typed c.args.map.now c.args.pos _ _ _ c.window-w.ensures c.type_in.ensures c.in-Some.is)

pub sanity_return-requires : goal.sanity_return-requires
sanity_return-requires c =
    let read = typed c.args.map.now c.args.pos _ _ _ c.window-w.ensures c.type_in.ensures c.in-Some.is in
    near c.args.map.now c.args.pos _ _ _ 0 c.requires.0 read c.operand_window-rest.ensures c.in-0.is

pub returns-in-0 : goal.returns-in-0
returns-in-0 c =
    let a = c.args in
    let read = typed a.map.now a.pos _ _ _ c.window-w.ensures c.type_in.ensures c.in-Some.is in
    c.sanity_return.ensures ∙ arm a.map.now a.previous a.bits a.depth a.top a.pos _ _ 0 _ c.past.ensures c.if-past.false read c.in-0.is

pub sanity_jump-requires : goal.sanity_jump-requires
sanity_jump-requires c =
    let read = typed c.args.map.now c.args.pos _ _ _ c.window-w.ensures c.type_in.ensures c.in-Some.is in
    near c.args.map.now c.args.pos _ _ _ 1 c.requires.0 read c.operand_window-rest.ensures c.in-1.is

pub returns-in-1 : goal.returns-in-1
returns-in-1 c =
    let a = c.args in
    let read = typed a.map.now a.pos _ _ _ c.window-w.ensures c.type_in.ensures c.in-Some.is in
    c.sanity_jump.ensures ∙ arm a.map.now a.previous a.bits a.depth a.top a.pos _ _ 1 _ c.past.ensures c.if-past.false read c.in-1.is

pub sanity_match-requires : goal.sanity_match-requires
sanity_match-requires c =
    let read = typed c.args.map.now c.args.pos _ _ _ c.window-w.ensures c.type_in.ensures c.in-Some.is in
    near c.args.map.now c.args.pos _ _ _ 2 c.requires.0 read c.operand_window-rest.ensures c.in-2.is

pub returns-in-2 : goal.returns-in-2
returns-in-2 c =
    let a = c.args in
    let read = typed a.map.now a.pos _ _ _ c.window-w.ensures c.type_in.ensures c.in-Some.is in
    c.sanity_match.ensures ∙ arm a.map.now a.previous a.bits a.depth a.top a.pos _ _ 2 _ c.past.ensures c.if-past.false read c.in-2.is

pub sanity_default-requires : goal.sanity_default-requires
sanity_default-requires c =
    let read = typed c.args.map.now c.args.pos _ _ _ c.window-w.ensures c.type_in.ensures c.in-Some.is in
    let b = small c.args.map.now c.args.pos _ _ read in
    let e : c.in-Some.opcode ≡ 3 = omega (arith, b) in
    near c.args.map.now c.args.pos _ _ _ 3 c.requires.0 read c.operand_window-rest.ensures e

pub returns-in_default-opcode : goal.returns-in_default-opcode
returns-in_default-opcode c =
    let a = c.args in
    let read = typed a.map.now a.pos _ _ _ c.window-w.ensures c.type_in.ensures c.in-Some.is in
    let b = small a.map.now a.pos _ _ read in
    let e : c.in-Some.opcode ≡ 3 = omega (arith, b) in
    c.sanity_default.ensures ∙ arm a.map.now a.previous a.bits a.depth a.top a.pos _ _ 3 _ c.past.ensures c.if-past.false read e
