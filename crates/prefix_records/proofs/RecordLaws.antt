-- Laws of records of prefixes: a record written in four parts, and how long records are. Assumes nothing.
use Rattle.std.proofs.Common.{◌≡◌, ℕ, ◌+◌, ◌*◌, ◌/◌, ◌%◌, ◌^◌, ◌<◌, List, [], ◌∷◌, ◌++◌, length, sym, refl, ap, ◌∙◌, arith, length-append}
use lib.Seq.{sets}
use lib.Pow.{high, low}
use Rattle.byte_numbers.specs.Numbers.{big8, bytes4}
use Rattle.byte_numbers.proofs.NumberLaws.{small_bytes}
use Rattle.byte_numbers.proofs.Buffers.{sets-append_at}
use Rattle.prefix_records.specs.declared.Address.{Address}
use Rattle.prefix_records.specs.Tiling.{Piece, first_of}
use Rattle.prefix_records.specs.Record.{address_bytes, record_of, records_of}
use Rattle.prefix_records.specs.models.Cursor.{value_of, record_at}

pub length_records : (ps : List Piece) → length (records_of ps) ≡ 24 * length ps
length_records [] = refl
length_records (p ∷ ps) = omega (arith, length-append (record_of p) (records_of ps), length_records ps)

-- a record's four numbers, one after the other
pub record-sets : (o : List ℕ) (at l n : ℕ) (a : Address) → l < 256
    → sets (sets (sets (sets o at (big8 a.high)) (at + 8) (big8 a.low)) (at + 16) (bytes4 l)) (at + 20) (bytes4 n) ≡ sets o at (record_at a l n)
record-sets o at l n a h =
    let x = big8 a.high in
    let y = big8 a.low in
    let z : List ℕ = l ∷ 0 ∷ 0 ∷ 0 ∷ [] in
    ap (λ (v : List ℕ). sets (sets (sets (sets o at x) (at + 8) y) (at + 16) v) (at + 20) (bytes4 n)) (small_bytes l h)
    ∙ sym (sets-append_at o at (at + 8) x (y ++ z ++ bytes4 n) refl
    ∙ sets-append_at (sets o at x) (at + 8) (at + 16) y (z ++ bytes4 n) (omega arith)
    ∙ sets-append_at (sets (sets o at x) (at + 8) y) (at + 16) (at + 20) z (bytes4 n) (omega arith))

-- an address's bytes, from its halves
pub address_at_lem : (x : ℕ) (a : Address) → value_of a ≡ x → a.low < 2 ^ 64 → address_bytes x ≡ big8 a.high ++ big8 a.low
address_at_lem x a e h =
    let f : x / 2 ^ 64 ≡ a.high = ap (λ (v : ℕ). v / 2 ^ 64) (sym e) ∙ high a.high 64 h in
    let g : x % 2 ^ 64 ≡ a.low = ap (λ (v : ℕ). v % 2 ^ 64) (sym e) ∙ low a.high 64 h in
    ap (λ (v : ℕ). big8 v ++ big8 (x % 2 ^ 64)) f ∙ ap (λ (v : ℕ). big8 a.high ++ big8 v) g

-- the record of a piece, by the address at which it begins
pub record_at_lem : (p : Piece) (a : Address) → value_of a ≡ first_of 128 p → a.low < 2 ^ 64 → record_of p ≡ record_at a p.length p.number
record_at_lem p a e h = ap (λ (v : List ℕ). v ++ (p.length ∷ 0 ∷ 0 ∷ 0 ∷ []) ++ bytes4 p.number) (address_at_lem (first_of 128 p) a e h)
