-- A code that is read ends past its start and inside the map, and its value is in its row's range.
-- Assumes nothing.
use mathlib.Core.Path.{◌≡◌, refl}
use mathlib.Core.List.{List, [], ◌∷◌}
use Prim.Native.Nat.{ℕ, zero, suc, ◌+◌, ◌*◌, ◌^◌, ◌≤◌, ◌<◌}
use native.Mathlib.Omega.{arith}
use borrow.Author.Tests.{lt-ltb, le-ltb}
use lib.ListN.{length, drop, drop_of_length-le}
use Rattle.asmap_program.specs.Map.{cut_reason}
use Rattle.asmap_codes.specs.Bits.{map_bits}
use Rattle.asmap_codes.specs.Row.{Row, operand_row, span}
use Rattle.asmap_codes.specs.Code.{tail, code, code_at, part_from, read_code}
use Rattle.asmap_codes.proofs.BitLaws.{length-map_bits, bits-map, bits-drop, length_left}
use Rattle.asmap_codes.proofs.RowLaws.{operand_fit}
use Rattle.asmap_codes.proofs.RoundTrip.{tail_read, cut_no_value, was_read}
use Rattle.asmap_codes.specs.Reading.{Cut, Found, Value}
use Rattle.refusals.specs.declared.Fault.TheVariants as fault
use Rattle.std.specs.Prelude.{Err}

Ends : ℕ → ℕ → List ℕ → Type 0
Ends at n bs = (at ≤ n) × (n ≤ at + length bs)

ends_last : (s v at : ℕ) (bs : List ℕ) (y n : ℕ) → tail s v at bs ≡ Value y n → Ends at n bs
unfolding Ends
ends_last s v at bs y n e = let t = tail_read s v at bs y n e in omega arith

ends_stop : (s v at b : ℕ) (bs : List ℕ) (y n : ℕ) → tail s v (at + 1) bs ≡ Value y n → (at < n) × Ends at n (b ∷ bs)
unfolding Ends
ends_stop s v at b bs y n e = let t = tail_read s v (at + 1) bs y n e in omega arith

ends_more : (at b : ℕ) (bs : List ℕ) (n : ℕ) → Ends (at + 1) n bs → (at < n) × Ends at n (b ∷ bs)
unfolding Ends
ends_more at b bs n h = omega arith

ends : (ss : List ℕ) (v at : ℕ) (bs : List ℕ) (y n : ℕ) → code ss v at bs ≡ Value y n → Ends at n bs
ends [] v at bs y n e = cut_no_value y n e
ends (s ∷ []) v at bs y n e = ends_last s v at bs y n e
ends (s ∷ t ∷ ss) v at [] y n e = cut_no_value y n e
ends (s ∷ t ∷ ss) v at (zero ∷ bs) y n e = (ends_stop s v at 0 bs y n e).1
ends (s ∷ t ∷ ss) v at (suc b ∷ bs) y n e = (ends_more at (suc b) bs n (ends (t ∷ ss) (v + 2 ^ s) (at + 1) bs y n e)).1

ahead : (s t : ℕ) (ss : List ℕ) (v at : ℕ) (bs : List ℕ) (y n : ℕ) → code (s ∷ t ∷ ss) v at bs ≡ Value y n → at < n
ahead s t ss v at [] y n e = cut_no_value y n e
ahead s t ss v at (zero ∷ bs) y n e = (ends_stop s v at 0 bs y n e).0
ahead s t ss v at (suc b ∷ bs) y n e = (ends_more at (suc b) bs n (ends (t ∷ ss) (v + 2 ^ s) (at + 1) bs y n e)).0

ahead-row : (ss : List ℕ) (v at : ℕ) (bs : List ℕ) (y n : ℕ) → 1 < length ss → code ss v at bs ≡ Value y n → at < n
ahead-row [] v at bs y n h e = absurd (omega arith)
ahead-row (s ∷ []) v at bs y n h e = absurd (omega arith)
ahead-row (s ∷ t ∷ ss) v at bs y n h e = ahead s t ss v at bs y n e

-- what every law of a read code asks of its row: two sizes at least
pub long_operand : (op : ℕ) → 1 < length (operand_row op).sizes
long_operand op = (operand_fit op).many

pub record Inside (m : List ℕ) (at : ℕ) (row : Row) (v n : ℕ) : Type 0 where
  pub past : at < n
  pub inside : n ≤ 8 * length m
  pub above : row.least ≤ v
  pub below : v < row.least + span row.sizes

pub value_at : (m : List ℕ) (at : ℕ) (row : Row) (v n : ℕ) → 1 < length row.sizes → code_at m at row ≡ Value v n → Inside m at row v n
unfolding Ends
value_at m at row v n h e =
    let bs = drop at (map_bits m) in
    let x = ends row.sizes row.least at bs v n e in
    let r = was_read row.sizes row.least at bs v n (bits-drop at (map_bits m) (bits-map m)) e in
    let p = ahead-row row.sizes row.least at bs v n h e in
    record { past = p; inside = omega (arith, length_left m at); above = r.above; below = r.below }

-- at or past the map's end no code starts
pub past_end : (m : List ℕ) (at : ℕ) (row : Row) → 1 < length row.sizes → 8 * length m ≤ at → code_at m at row ≡ Cut
past_end m at row h k = rw (drop_of_length-le (map_bits m) {i = at} (omega (arith, length-map_bits m))) (none row.sizes h)
  where
    none : (ss : List ℕ) → 1 < length ss → code ss row.least at [] ≡ Cut
    none [] l = absurd (omega arith)
    none (s ∷ []) l = absurd (omega arith)
    none (s ∷ t ∷ ss) l = refl

-- what reading a code hands back: 1 before the number of its cut
module _ (m : List ℕ) (at : ℕ) (row : Row) where
  pub read_long : 16777216 < length m → read_code m at row ≡ Err fault.MapTooLong
  read_long h = rw (lt-ltb 16777216 (length m) h)

  pub read_at : length m ≤ 16777216 → (v n : ℕ) → code_at m at row ≡ Value v n → read_code m at row ≡ Found v n
  read_at h v n e = rw (le-ltb 16777216 (length m) h, e)

  pub read_cut : length m ≤ 16777216 → code_at m at row ≡ Cut → read_code m at row ≡ Err (cut_reason (part_from row.least))
  read_cut h e = rw (le-ltb 16777216 (length m) h, e)
