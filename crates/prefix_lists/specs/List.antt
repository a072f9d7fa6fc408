-- Lists of prefixes as records of 24 bytes, read (document 02, CR 8: "Input is CR 1's records, not overlapping, rising by address, and a number
-- for all other addresses"): the prefixes, the number of each address, and what is wrong with a list.
-- Assumes nothing.
use Rattle.std.specs.Prelude.{ℕ, zero, suc, ◌+◌, ◌-◌, ◌*◌, ◌/◌, ◌%◌, ◌^◌, Bool, true, false, cond, ◌&&◌, List, eqb, leb, length, get_or, Result, Err}
use Rattle.byte_numbers.specs.Numbers.{number4}
use Rattle.prefix_records.specs.Tiling.{Piece, past_of, holds}
use Rattle.prefix_lists.specs.Judged.{Listed}
use Rattle.refusals.specs.declared.Refusal.{Refusal}
use Rattle.refusals.specs.declared.Refusal.TheVariants as refusal

-- ---- the records

-- The number that n bytes make, from byte k on, the highest first.
unfoldable pub big : ℕ → List ℕ → ℕ → ℕ
big zero l k = 0
big (suc n) l k = big n l k * 256 + get_or l (k + n) 0

-- How many records there are.
abbrev pub count_of : List ℕ → ℕ
count_of l = length l / 24

-- Of record i: its address of 16 bytes as a number, and its prefix length.
abbrev pub address_at : List ℕ → ℕ → ℕ
address_at l i = big 16 l (24 * i)

abbrev pub length_at : List ℕ → ℕ → ℕ
length_at l i = get_or l (24 * i + 16) 0

-- The prefix of record i, with its number: the first bits of its address, as many as the length says.
unfoldable pub piece_at : List ℕ → ℕ → Piece
piece_at l i = record { prefix = address_at l i / 2 ^ (128 - length_at l i); length = length_at l i; number = number4 l (24 * i + 20) }

-- ---- the number of an address

-- The number of the one of the first n prefixes in which the address x of w bits lies, or the given one. Prefixes that do not overlap have it in
-- one at most.
unfoldable pub number_at : ℕ → (ℕ → Piece) → ℕ → ℕ → ℕ → ℕ
number_at w ps given zero x = given
number_at w ps given (suc n) x = cond (holds w x (ps n)) (ps n).number (number_at w ps given n x)

-- ---- what is wrong

-- "wrong zeros": the three bytes behind the length.
abbrev pub zeros_at : List ℕ → ℕ → Bool
zeros_at l i = eqb (get_or l (24 * i + 17) 0) 0 && eqb (get_or l (24 * i + 18) 0) 0 && eqb (get_or l (24 * i + 19) 0) 0

-- Where record i may begin at the earliest: behind the one before it.
abbrev pub earliest : List ℕ → ℕ → ℕ
earliest l zero = 0
earliest l (suc i) = past_of 128 (piece_at l i)

-- Record i has a prefix that may stand there: not "longer than the width", no "wrong zeros", no "ones past the prefix", not "out of order" and
-- not "overlapping" the one before it.
unfoldable pub fits : ℕ → List ℕ → ℕ → Bool
fits w l i = leb (length_at l i) w && zeros_at l i && eqb (address_at l i % 2 ^ (128 - length_at l i)) 0 && leb (earliest l i) (address_at l i)

-- A number that a RETURN can have, "1 to 33,521,664".
abbrev pub is_number : ℕ → Bool
is_number n = leb 1 n && leb n 33521664

-- Refused with n where the test does not hold, else what is said later.
unfoldable pub need : Bool → Refusal → Result (Unit {0}) Refusal → Result (Unit {0}) Refusal
need true n later = later
need false n later = Err n

-- n records from record i on, "21 before 22 in each record"; the first wrong one is refused.
unfoldable pub judge_from : ℕ → List ℕ → ℕ → ℕ → Result (Unit {0}) Refusal → Result (Unit {0}) Refusal
judge_from w l zero i later = later
judge_from w l (suc n) i later = need (fits w l i) refusal.Prefix (need (is_number (piece_at l i).number) refusal.Number (judge_from w l n (suc i) later))

-- A list at the width w, with the given number: "21 for record bytes no multiple of 24", "the length first", then the records, "the given number
-- after the records".
unfoldable pub judge : ℕ → List ℕ → ℕ → Result (Unit {0}) Refusal
judge w l given = need (eqb (length l % 24) 0) refusal.Prefix (judge_from w l (count_of l) 0 (need (is_number given) refusal.Number Listed))
