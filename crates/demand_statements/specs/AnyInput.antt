-- Demand 1 as a caller reads it: of each call which numbers it can answer and when, and that a refused call writes nothing. r is the
-- answer; what is lent stands at entry first, at exit second. 16,777,216 is the greatest length of a map.
-- Assumes nothing.
use Rattle.std.specs.Prelude.{ℕ, zero, suc, ◌+◌, ◌*◌, ◌/◌, ◌%◌, ◌≤◌, ◌<◌, min, ◌≡◌, ◌⊎◌, ◌≢◌, List, [], ◌∷◌, length, take, drop, get_or, Err}
use Rattle.asmap_program.specs.declared.Kind.TheVariants.{Returned, Differed, OpcodeCut, OperandCut, TooFewBits}
use Rattle.asmap_program.specs.Check.{StopsAt, stop_of}
use Rattle.asmap_program.specs.Walk.{Walked}
use Rattle.asmap_codes.specs.Instruction.{map_of}
use Rattle.asmap_check.specs.Check.{check_of}
use Rattle.asmap_walk_bits.specs.Walk.{walk_of}
use Rattle.asmap_program.specs.Verdict.{Accepted}
use Rattle.refusals.specs.declared.Fault.{Fault}
use Rattle.refusals.specs.Numbers.{fault_number}

-- refused, it leaves all as it was
abbrev pub Untouched : ℕ → List ℕ → List ℕ → Type 0
Untouched r entry exit = r ≢ 0 → exit ≡ entry

-- The numbers with which the check refuses a map: 1 to 10, and 19 for a cut operand (document 02, CR 5).
abbrev pub CheckNumber : ℕ → Type 0
CheckNumber n = ((1 ≤ n) × (n ≤ 10)) ⊎ (n ≡ 19)

-- The same with 100 more, for the new one of two maps.
abbrev pub NewMapNumber : ℕ → Type 0
NewMapNumber n = ((101 ≤ n) × (n ≤ 110)) ⊎ (n ≡ 119)

-- ---- codes and instructions

-- Reading a code from bit `at` of the map m: 1 exactly for a map that is too long; else `cut` for a code that the map's end cuts, 4 for an opcode
-- and 19 for an operand, also at the end and past it.
pub record Reads (cut : ℕ) (m : List ℕ) (at r : ℕ) (entry exit : List ℕ) : Type 0 where
  pub numbers : (r ≡ 0) ⊎ ((r ≡ 1) ⊎ (r ≡ cut))
  pub too_long : 16777216 < length m → r ≡ 1
  pub only_then : r ≡ 1 → 16777216 < length m
  pub past_the_end : length m ≤ 16777216 → 8 * length m ≤ at → r ≡ cut
  pub untouched : Untouched r entry exit

-- Reading an instruction: 1 as before; else 4 where its opcode is cut, as it is at the end and past it, or 19 where its operand is. Which of the two,
-- says `Cut`.
pub record ReadsInstruction (m : List ℕ) (at r : ℕ) (entry exit : List ℕ) : Type 0 where
  pub numbers : (r ≡ 0) ⊎ ((r ≡ 1) ⊎ ((r ≡ 4) ⊎ (r ≡ 19)))
  pub too_long : 16777216 < length m → r ≡ 1
  pub only_then : r ≡ 1 → 16777216 < length m
  pub past_the_end : length m ≤ 16777216 → 8 * length m ≤ at → r ≡ 4
  pub untouched : Untouched r entry exit

-- Writing the value v: 15 exactly where it is below the least or above the greatest of its kind.
pub record Writes (least greatest v r : ℕ) (entry exit : List ℕ) : Type 0 where
  pub in_range : least ≤ v → v ≤ greatest → r ≡ 0
  pub out_of_range : (v < least) ⊎ (greatest < v) → r ≡ 15
  pub untouched : Untouched r entry exit

-- The operands of RETURN 0, JUMP 1, MATCH 2 and DEFAULT 3.
abbrev pub least_operand : ℕ → ℕ
least_operand zero = 1
least_operand (suc zero) = 17
least_operand (suc (suc zero)) = 2
least_operand (suc (suc (suc n))) = 1

abbrev pub greatest_operand : ℕ → ℕ
greatest_operand zero = 33521664
greatest_operand (suc zero) = 2147483632
greatest_operand (suc (suc zero)) = 511
greatest_operand (suc (suc (suc n))) = 33521664

pub record WritesInstruction (opcode operand r : ℕ) (entry exit : List ℕ) : Type 0 where
  pub in_range : opcode ≤ 3 → least_operand opcode ≤ operand → operand ≤ greatest_operand opcode → r ≡ 0
  pub no_opcode : 3 < opcode → r ≡ 15
  pub out_of_range : (operand < least_operand opcode) ⊎ (greatest_operand opcode < operand) → r ≡ 15
  pub untouched : Untouched r entry exit

-- ---- check, walk, unpack, listing, pack; w: the address bits, which are 128 for a call that takes no width

-- The check: 0 or one of its numbers, as the defined check says, with its count and depth where it accepts; and 1 exactly for a map that is too long.
pub record Checks (m : List ℕ) (w r : ℕ) (entry exit : List ℕ) : Type 0 where
  pub numbers : (r ≡ 0) ⊎ CheckNumber r
  pub accepted : (c d : ℕ) → check_of m w ≡ Accepted c d → (r ≡ 0) × (exit ≡ c ∷ d ∷ [])
  pub refused : (f : Fault) → check_of m w ≡ Err f → r ≡ fault_number f
  pub too_long : 16777216 < length m → r ≡ 1
  pub only_then : r ≡ 1 → 16777216 < length m
  pub untouched : Untouched r entry exit

-- Where the check stops: 1 exactly for a map that is too long, else 0, with the reason, which is 0 where the defined check accepts and its
-- number where it refuses, and with the place. There the check stands in a state that it comes to from the map's start, and its next
-- step gives its verdict; so the place is in the map, or its end.
pub record Stops (m : List ℕ) (w r : ℕ) (entry : List ℕ) (reason place : ℕ) : Type 0 where
  pub too_long : 16777216 < length m → r ≡ 1
  pub answered : length m ≤ 16777216 → r ≡ 0
  pub accepted : (c d : ℕ) → r ≡ 0 → check_of m w ≡ Accepted c d → reason ≡ 0
  pub refused : (f : Fault) → r ≡ 0 → check_of m w ≡ Err f → reason ≡ fault_number f
  pub exact : r ≡ 0 → place ≡ stop_of (map_of m) w
  pub stands : r ≡ 0 → StopsAt (map_of m) w (check_of m w) place
  pub inside : r ≡ 0 → place ≤ 8 * length m
  pub untouched : Untouched r entry (reason ∷ place ∷ [])

-- The numbers of a walk: 1 for a RETURN, 2 for a difference; of an abort 3 for too few address bits, 4 for a cut opcode, 19 for a cut operand, and
-- in each of these three the number 0. Its number, the instructions read, the address bits read.
pub record Told (walk : Walked) (kind number count bits : ℕ) : Type 0 where
  pub returned : walk.kind ≡ Returned → kind ≡ 1
  pub differed : walk.kind ≡ Differed → kind ≡ 2
  pub too_few_bits : walk.kind ≡ TooFewBits → kind ≡ 3
  pub opcode_cut : walk.kind ≡ OpcodeCut → kind ≡ 4
  pub operand_cut : walk.kind ≡ OperandCut → kind ≡ 19
  pub abort_gives_0 : kind ≢ 1 → kind ≢ 2 → number ≡ 0
  pub same_number : number ≡ walk.number
  pub same_count : count ≡ length walk.read
  pub same_bits : bits ≡ walk.bits

-- The walk, of any map, accepted or not: 11 for an address that has not as many bytes as w bits are, 16 where w is 128, else 1 for a map that is
-- too long, else the defined walk.
pub record Walks (m a : List ℕ) (w r : ℕ) (entry : List ℕ) (kind number count bits : ℕ) : Type 0 where
  pub no_address : length a ≢ w / 8 → r ≡ 11
  pub too_long : length a ≡ w / 8 → 16777216 < length m → r ≡ 1
  pub answered : length a ≡ w / 8 → length m ≤ 16777216 → r ≡ 0
  pub told : r ≡ 0 → Told (walk_of m a w) kind number count bits
  pub untouched : Untouched r entry (kind ∷ number ∷ count ∷ bits ∷ [])

-- Unpack: the check's numbers, else 14 exactly where there is no room for 16 bytes for each of the c instructions.
pub record Unpacks (m : List ℕ) (w : ℕ) (o o' : List ℕ) (r written written' : ℕ) : Type 0 where
  pub numbers : (r ≡ 0) ⊎ (CheckNumber r ⊎ (r ≡ 14))
  pub refused : (f : Fault) → check_of m w ≡ Err f → r ≡ fault_number f
  pub answered : (c d : ℕ) → check_of m w ≡ Accepted c d → 16 * c ≤ length o → (r ≡ 0) × (written' ≡ 16 * c)
  pub no_room : (c d : ℕ) → check_of m w ≡ Accepted c d → length o < 16 * c → r ≡ 14
  pub past : r ≡ 0 → drop written' o' ≡ drop written' o
  pub untouched : r ≢ 0 → (o' ≡ o) × (written' ≡ written)

-- The listing: the check's numbers, else 14; with which room, says `Listed`.
pub record Lists (m : List ℕ) (w : ℕ) (o o' : List ℕ) (r written written' : ℕ) : Type 0 where
  pub numbers : (r ≡ 0) ⊎ (CheckNumber r ⊎ (r ≡ 14))
  pub refused : (f : Fault) → check_of m w ≡ Err f → r ≡ fault_number f
  pub past : r ≡ 0 → drop written' o' ≡ drop written' o
  pub untouched : r ≢ 0 → (o' ≡ o) × (written' ≡ written)

-- How many bytes a listing needs: 0 for every map that the check accepts, else the check's numbers.
pub record Needs (m : List ℕ) (w r : ℕ) (entry exit : List ℕ) : Type 0 where
  pub numbers : (r ≡ 0) ⊎ CheckNumber r
  pub accepted : (c d : ℕ) → check_of m w ≡ Accepted c d → r ≡ 0
  pub refused : (f : Fault) → check_of m w ≡ Err f → r ≡ fault_number f
  pub untouched : Untouched r entry exit

-- Two maps compared, m the old one and n the new one: the old map's numbers, the new one's with 100 more, else 14.
pub record Changes (m n : List ℕ) (w : ℕ) (o o' : List ℕ) (r written written' : ℕ) : Type 0 where
  pub numbers : (r ≡ 0) ⊎ (CheckNumber r ⊎ ((r ≡ 14) ⊎ NewMapNumber r))
  pub old_refused : (f : Fault) → check_of m w ≡ Err f → r ≡ fault_number f
  pub new_refused : (c d : ℕ) (f : Fault) → check_of m w ≡ Accepted c d → check_of n w ≡ Err f → r ≡ 100 + fault_number f
  pub past : r ≡ 0 → drop written' o' ≡ drop written' o
  pub untouched : r ≢ 0 → (o' ≡ o) × (written' ≡ written)

-- How many bytes that needs, with o lent for the first address that differs: the same numbers, and 14 exactly where fewer than 16 bytes are lent.
pub record FindsFirst (m n : List ℕ) (w : ℕ) (o o' : List ℕ) (r bytes bytes' : ℕ) : Type 0 where
  pub numbers : (r ≡ 0) ⊎ (CheckNumber r ⊎ ((r ≡ 14) ⊎ NewMapNumber r))
  pub old_refused : (f : Fault) → check_of m w ≡ Err f → r ≡ fault_number f
  pub new_refused : (c d : ℕ) (f : Fault) → check_of m w ≡ Accepted c d → check_of n w ≡ Err f → r ≡ 100 + fault_number f
  pub answered : (c d c' d' : ℕ) → check_of m w ≡ Accepted c d → check_of n w ≡ Accepted c' d' → 16 ≤ length o → r ≡ 0
  pub no_room : (c d c' d' : ℕ) → check_of m w ≡ Accepted c d → check_of n w ≡ Accepted c' d' → length o < 16 → r ≡ 14
  pub past : r ≡ 0 → drop 16 o' ≡ drop 16 o
  pub untouched : r ≢ 0 → (o' ≡ o) × (bytes' ≡ bytes)

-- Pack: 16 for bytes that are no whole records, and no other numbers than these.
pub record Packs (records o o' : List ℕ) (r written written' : ℕ) : Type 0 where
  pub numbers : (r ≡ 0) ⊎ ((r ≡ 1) ⊎ ((r ≡ 14) ⊎ ((r ≡ 15) ⊎ (r ≡ 16))))
  pub no_records : length records % 16 ≢ 0 → r ≡ 16
  pub past : r ≡ 0 → drop written' o' ≡ drop written' o
  pub untouched : r ≢ 0 → (o' ≡ o) × (written' ≡ written)

-- ---- at a width

-- A call at the width w (document 02, CR 3), r being its answer: "18, first of all, for a width that is neither", and then it leaves all as it was.
-- At 32 and at 128 the call has what is said above with that w.
pub record AtWidth (w r : ℕ) (Has Left : Type 0) : Type 0 where
  pub no_width : w ≢ 32 → w ≢ 128 → r ≡ 18
  pub untouched : w ≢ 32 → w ≢ 128 → Left
  pub a_width : (w ≡ 32) ⊎ (w ≡ 128) → Has

-- What the check accepts at 32 it accepts at 128 too, with the same count and depth: it cannot tell for which width a map was made. r is the answer
-- of a caller who checks at 32 and then at 128, exit the numbers handed out there.
abbrev pub AlsoAt128 : List ℕ → ℕ → List ℕ → Type 0
AlsoAt128 m r exit = (c d : ℕ) → check_of m 32 ≡ Accepted c d → (r ≡ 0) × (exit ≡ c ∷ d ∷ [])

-- ---- groups, picks and pages; `has` is 0 without a map

-- The candidate at place i of a row is one: a zero after its family, which is 6, or 4 with an address in the mapped form.
pub record Candidate (candidates : List ℕ) (i : ℕ) : Type 0 where
  pub blank : get_or candidates (20 * i + 1) 0 ≡ 0
  pub family : (get_or candidates (20 * i) 0 ≡ 6) ⊎ ((get_or candidates (20 * i) 0 ≡ 4) × (take 12 (drop (20 * i + 2) candidates) ≡ 0 ∷ 0 ∷ 0 ∷ 0 ∷ 0 ∷ 0 ∷ 0 ∷ 0 ∷ 0 ∷ 0 ∷ 255 ∷ 255 ∷ []))

-- The map, where there is one, is one that the check accepts.
abbrev pub Usable : ℕ → List ℕ → Type 0
Usable has m = has ≢ 0 → (c : ℕ) × (d : ℕ) × (check_of m 128 ≡ Accepted c d)

-- A group: 13, and always for what has not 20 bytes; then with a map the check's numbers; and 0 where nothing is wrong.
pub record Groups (has : ℕ) (m candidate : List ℕ) (r : ℕ) (entry exit : List ℕ) : Type 0 where
  pub numbers : (r ≡ 0) ⊎ ((r ≡ 13) ⊎ ((has ≢ 0) × CheckNumber r))
  pub no_candidate : length candidate ≢ 20 → r ≡ 13
  pub answered : length candidate ≡ 20 → Candidate candidate 0 → Usable has m → r ≡ 0
  pub untouched : Untouched r entry exit

-- The same by a map that the caller checks first: the check's numbers come before 13.
pub record LoadedGroups (r : ℕ) (entry exit : List ℕ) : Type 0 where
  pub numbers : (r ≡ 0) ⊎ ((r ≡ 13) ⊎ CheckNumber r)
  pub untouched : Untouched r entry exit

-- The occupied scan for the group g: 12 exactly for more than 4,096 groups. What it says is so: at `place` stands the group and at no
-- place in front of it, and the groups up to there were read; or it stands nowhere, and all were read.
pub record Scans (g : ℕ) (occupied : List ℕ) (r : ℕ) (entry : List ℕ) (found place read : ℕ) : Type 0 where
  pub too_many : 4096 < length occupied → r ≡ 12
  pub answered : length occupied ≤ 4096 → r ≡ 0
  pub yes_or_no : r ≡ 0 → (found ≡ 0) ⊎ (found ≡ 1)
  pub hit : r ≡ 0 → found ≡ 1 → (place < length occupied) × (get_or occupied place 0 ≡ g) × (read ≡ place + 1)
  pub first : r ≡ 0 → found ≡ 1 → (q : ℕ) → q < place → get_or occupied q 0 ≢ g
  pub none : r ≡ 0 → found ≡ 0 → (place ≡ 0) × (read ≡ length occupied)
  pub nowhere : r ≡ 0 → found ≡ 0 → (q : ℕ) → q < length occupied → get_or occupied q 0 ≢ g
  pub untouched : Untouched r entry (found ∷ place ∷ read ∷ [])

-- A pick: 13 for bytes that are no whole candidates, then 12 for more than 4,096 of them or of occupied groups; 14 where an output has
-- less than min(max, candidates) places, so 0 only where both have; and 0 where nothing is wrong.
pub record Picks (has : ℕ) (m candidates occupied : List ℕ) (max r : ℕ) (entry exit picks picks' groups groups' : List ℕ) : Type 0 where
  pub numbers : (r ≡ 0) ⊎ ((r ≡ 12) ⊎ ((r ≡ 13) ⊎ ((r ≡ 14) ⊎ ((has ≢ 0) × CheckNumber r))))
  pub no_candidates : length candidates % 20 ≢ 0 → r ≡ 13
  pub too_many : length candidates % 20 ≡ 0 → 4096 < length candidates / 20 → r ≡ 12
  pub too_occupied : length candidates % 20 ≡ 0 → length candidates / 20 ≤ 4096 → 4096 < length occupied → r ≡ 12
  pub room : r ≡ 0 → (min max (length candidates / 20) ≤ length picks) × (min max (length candidates / 20) ≤ length groups)
  pub answered : length candidates % 20 ≡ 0 → length candidates / 20 ≤ 4096 → length occupied ≤ 4096
      → ((i : ℕ) → i < length candidates / 20 → Candidate candidates i) → Usable has m
      → min max (length candidates / 20) ≤ length picks → min max (length candidates / 20) ≤ length groups → r ≡ 0
  pub untouched : Untouched r entry exit
  pub picks_untouched : Untouched r picks picks'
  pub groups_untouched : Untouched r groups groups'

-- The same by a map that the caller checks first.
pub record LoadedPicks (r : ℕ) (entry exit picks picks' groups groups' : List ℕ) : Type 0 where
  pub numbers : (r ≡ 0) ⊎ ((r ≡ 12) ⊎ ((r ≡ 13) ⊎ ((r ≡ 14) ⊎ CheckNumber r)))
  pub untouched : Untouched r entry exit
  pub picks_untouched : Untouched r picks picks'
  pub groups_untouched : Untouched r groups groups'

-- A page: 13 for bytes that are no whole candidates, then 12 for more than 4,096 of them; and 0 where nothing is wrong and the output has 25 bytes
-- for each candidate, which is enough for any groups.
pub record Pages (has : ℕ) (m candidates o o' : List ℕ) (r written written' : ℕ) : Type 0 where
  pub numbers : (r ≡ 0) ⊎ ((r ≡ 12) ⊎ ((r ≡ 13) ⊎ ((r ≡ 14) ⊎ ((has ≢ 0) × CheckNumber r))))
  pub no_candidates : length candidates % 20 ≢ 0 → r ≡ 13
  pub too_many : length candidates % 20 ≡ 0 → 4096 < length candidates / 20 → r ≡ 12
  pub answered : length candidates % 20 ≡ 0 → length candidates / 20 ≤ 4096 → ((i : ℕ) → i < length candidates / 20 → Candidate candidates i) → Usable has m
      → 25 * (length candidates / 20) ≤ length o → r ≡ 0
  pub past : r ≡ 0 → drop written' o' ≡ drop written' o
  pub untouched : r ≢ 0 → (o' ≡ o) × (written' ≡ written)

-- The same by a map that the caller checks first.
pub record LoadedPages (o o' : List ℕ) (r written written' : ℕ) : Type 0 where
  pub numbers : (r ≡ 0) ⊎ ((r ≡ 12) ⊎ ((r ≡ 13) ⊎ ((r ≡ 14) ⊎ CheckNumber r)))
  pub past : r ≡ 0 → drop written' o' ≡ drop written' o
  pub untouched : r ≢ 0 → (o' ≡ o) × (written' ≡ written)

-- ---- filters

-- The filter: 11 exactly for an address that has not 16 bytes; it says 0 or 1.
pub record Filters (a : List ℕ) (r entry said : ℕ) : Type 0 where
  pub no_address : length a ≢ 16 → r ≡ 11
  pub answered : length a ≡ 16 → r ≡ 0
  pub yes_or_no : r ≡ 0 → (said ≡ 0) ⊎ (said ≡ 1)
  pub untouched : r ≢ 0 → said ≡ entry

-- The bytes of an address by its BIP155 network id: 4, 16, 10, 32, 32 and 16 for 1 to 6, and at most 512 for any other.
pub record Sized (id n : ℕ) : Type 0 where
  pub known : 1 ≤ id → id ≤ 6 → n ≡ get_or (0 ∷ 4 ∷ 16 ∷ 10 ∷ 32 ∷ 32 ∷ 16 ∷ []) id 0
  pub others : (id ≡ 0) ⊎ (6 < id) → n ≤ 512

-- The relay's filter: 17 exactly for another length; it says 0 or 1.
pub record Relays (id : ℕ) (a : List ℕ) (r entry said : ℕ) : Type 0 where
  pub numbers : (r ≡ 0) ⊎ (r ≡ 17)
  pub answered : Sized id (length a) → r ≡ 0
  pub only_then : r ≡ 0 → Sized id (length a)
  pub yes_or_no : r ≡ 0 → (said ≡ 0) ⊎ (said ≡ 1)
  pub untouched : r ≢ 0 → said ≡ entry
