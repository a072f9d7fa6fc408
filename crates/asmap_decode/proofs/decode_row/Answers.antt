-- The limit, the end, then the code, by its two cases.
use Rattle.std.proofs.Common.{◌≡◌, ◌∙◌, ℕ, ◌*◌, List, length, drop, sym, ap, arith, Err, Option}
use Rattle.asmap_codes.specs.Bits.{map_bits}
use Rattle.asmap_codes.specs.Row.{Row, Fit}
use Rattle.asmap_codes.specs.Code.{code_at}
use Rattle.asmap_codes.proofs.Inside.{past_end, read_at, read_cut}
use Rattle.asmap_window.specs.models.Window.{Window}
use Rattle.asmap_row_decoder.specs.models.InWindow.{row_in}
use Rattle.asmap_row_decoder.proofs.WindowLaws.{row-window, window-holds}
use Rattle.asmap_decode.proofs.decode_row.Goals as goal
use Rattle.asmap_codes.specs.Reading.{Code}

-- what was read is the code of the map
read : (m : List ℕ) (at w : ℕ) (row : Row) (r g : Option Code) → Fit row → Window 57 w (drop at (map_bits m)) → r ≡ row_in row at (8 * length m) w → r ≡ g → code_at m at row ≡ g
read m at w row r g f h e q = sym (e ∙ row-window m at w row f.many (window-holds m at w row f.short h)) ∙ q

pub returns-then-bytes-at : goal.returns-then-bytes-at
returns-then-bytes-at c =
    let a = c.args in
    let row : Row = record { least = a.least; sizes = a.sizes.now } in
    ap Err c.cut_reason.ensures
    ∙ sym (read_cut a.map.now a.at row (omega arith) (past_end a.map.now a.at row c.requires.0.many (omega arith)))

pub returns-in_default : goal.returns-in_default
returns-in_default c =
    let a = c.args in
    let row : Row = record { least = a.least; sizes = a.sizes.now } in
    ap Err c.cut_reason-in_default.ensures
    ∙ sym (read_cut a.map.now a.at row (omega arith) (read a.map.now a.at _ row _ _ c.requires.0 c.window-w.ensures c.decode_bits-got.ensures c.in_default.is))

pub returns : goal.returns
returns c =
    let a = c.args in
    let row : Row = record { least = a.least; sizes = a.sizes.now } in
    sym (read_at a.map.now a.at row (omega arith) _ _ (read a.map.now a.at _ row _ _ c.requires.0 c.window-w.ensures c.decode_bits-got.ensures c.in-Some.is))
