-- The limit, the end, then the two codes, each by its two cases.
use Rattle.std.proofs.Common.{◌≡◌, ◌∙◌, ℕ, ◌*◌, List, length, drop, sym, lit<, arith, Option}
use lib.Dec.{lit≤}
use Rattle.asmap_codes.specs.Bits.{map_bits}
use Rattle.asmap_codes.specs.Row.{type_row, operand_row}
use Rattle.asmap_codes.specs.Code.{code_at}
use Rattle.asmap_codes.proofs.Inside.{value_at, past_end, long_operand}
use Rattle.asmap_codes.proofs.MapLaws.{laws, fetch-cut, fetch_operand, instruction_long, instruction_at_lem}
use Rattle.asmap_window.specs.models.Window.{Window}
use Rattle.asmap_row_decoder.specs.models.InWindow.{Holds, row_in}
use Rattle.asmap_row_decoder.proofs.WindowLaws.{row-window, window-holds}
use Rattle.asmap_decode.proofs.decode_instruction.Goals as goal
use Rattle.asmap_codes.specs.Reading.{Code}

-- the opcode and the operand that were read are those of the map
opcode : (m : List ℕ) (at w : ℕ) (r g : Option Code) → Window 57 w (drop at (map_bits m)) → r ≡ row_in type_row at (8 * length m) w → r ≡ g → code_at m at type_row ≡ g
opcode m at w r g h e q = sym (e ∙ row-window m at w type_row (lit< tt) (window-holds m at w type_row (lit≤ tt) h)) ∙ q

operand : (m : List ℕ) (o at w : ℕ) (r g : Option Code) → Holds (operand_row o) m at w → r ≡ row_in (operand_row o) at (8 * length m) w → r ≡ g → code_at m at (operand_row o) ≡ g
operand m o at w r g h e q = sym (e ∙ row-window m at w (operand_row o) (long_operand o) h) ∙ q

pub returns-then-map-gt-MAX_MAP_BYTES : goal.returns-then-map-gt-MAX_MAP_BYTES
returns-then-map-gt-MAX_MAP_BYTES c = sym (instruction_long c.args.map.now c.args.at (omega arith))

pub returns-then-bits-at : goal.returns-then-bits-at
returns-then-bits-at c =
    let a = c.args in
    sym (instruction_at_lem a.map.now a.at (omega arith) _ (fetch-cut a.map.now a.at (past_end a.map.now a.at type_row (lit< tt) (omega arith))))

pub returns-in_default : goal.returns-in_default
returns-in_default c =
    let a = c.args in
    let first = opcode a.map.now a.at _ _ _ c.window-w.ensures c.type_in-first.ensures c.in_default.is in
    sym (instruction_at_lem a.map.now a.at (omega arith) _ (fetch-cut a.map.now a.at first))

pub operand_window-rest-requires : goal.operand_window-rest-requires
operand_window-rest-requires c = (c.window-w.ensures, opcode c.args.map.now c.args.at _ _ _ c.window-w.ensures c.type_in-first.ensures c.in-Some.is)

pub operand_in-second-requires : goal.operand_in-second-requires
operand_in-second-requires c =
    let a = c.args in
    let first = opcode a.map.now a.at _ _ _ c.window-w.ensures c.type_in-first.ensures c.in-Some.is in
    omega (arith, (value_at a.map.now a.at type_row _ _ (lit< tt) first).inside)

pub returns-in_default-second : goal.returns-in_default-second
returns-in_default-second c =
    let a = c.args in
    let first = opcode a.map.now a.at _ _ _ c.window-w.ensures c.type_in-first.ensures c.in-Some.is in
    let second = operand a.map.now c.in-Some.opcode _ _ _ _ c.operand_window-rest.ensures c.operand_in-second.ensures c.in_default-second.is in
    sym (instruction_at_lem a.map.now a.at (omega arith) _ (fetch_operand a.map.now a.at _ _ first _ second))

pub overflow_sub-result : goal.overflow_sub-result
overflow_sub-result c =
    let a = c.args in
    let first = opcode a.map.now a.at _ _ _ c.window-w.ensures c.type_in-first.ensures c.in-Some.is in
    let second = operand a.map.now c.in-Some.opcode _ _ _ _ c.operand_window-rest.ensures c.operand_in-second.ensures c.in-Some-second.is in
    let s = (laws a.map.now).stands a.at _ (fetch_operand a.map.now a.at _ _ first _ second) in
    omega (arith, s.some)

pub returns : goal.returns
returns c =
    let a = c.args in
    let first = opcode a.map.now a.at _ _ _ c.window-w.ensures c.type_in-first.ensures c.in-Some.is in
    let second = operand a.map.now c.in-Some.opcode _ _ _ _ c.operand_window-rest.ensures c.operand_in-second.ensures c.in-Some-second.is in
    sym (instruction_at_lem a.map.now a.at (omega arith) _ (fetch_operand a.map.now a.at _ _ first _ second))
