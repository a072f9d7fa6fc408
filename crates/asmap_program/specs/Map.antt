-- A map as the check and the walk see it (document 01, Codes and Walk): what can be read at each place. How bits make a code is
-- told elsewhere; here only what the laws of check and walk need of it.
-- Assumes nothing.
use Rattle.std.specs.Prelude.{ℕ, zero, suc, ◌+◌, ◌-◌, ◌/◌, ◌%◌, ◌^◌, ◌≤◌, ◌<◌, Bool, cond, ◌≡◌, List, [], ◌∷◌, ◌++◌, leb, get_or}
use Rattle.refusals.specs.declared.Fault.{Fault}
use Rattle.refusals.specs.declared.Fault.TheVariants as fault
use Rattle.asmap_program.specs.declared.Instruction.{Instruction}

-- Document 01, "What a call hands back", row 1: the most bytes that a map may have.
abbrev pub limit : ℕ
limit = 16777216

-- Document 01, Codes, the line on opcodes: the number by which each instruction begins. RETURN gives its number as the answer,
-- JUMP chooses by one address bit, MATCH compares address bits, DEFAULT sets the answer for a difference.
abbrev pub RETURN : ℕ
RETURN = 0

abbrev pub JUMP : ℕ
JUMP = 1

abbrev pub MATCH : ℕ
MATCH = 2

abbrev pub DEFAULT : ℕ
DEFAULT = 3

-- Document 01, Walk: the place of the first bit after an instruction ("end").
abbrev pub end_of : Instruction → ℕ
end_of i = i.place + i.size

-- Document 01, Check: where a JUMP goes to, its end and its operand added ("target"). It is never counted from the opcode.
abbrev pub target_of : Instruction → ℕ
target_of i = end_of i + i.operand

-- Document 01, Codes: what can be read at a place. Either an instruction is there whole, or the map ends within its opcode, or it
-- ends within the operand of the opcode given. That opcode is kept since the check looks at it before it looks for the operand.
pub data Fetched : Type 0 where
  Whole : Instruction → Fetched
  CutOpcode : Fetched
  CutOperand : ℕ → Fetched

-- The two codes of an instruction.
pub data Part : Type 0 where
  Opcode Operand : Part

-- What is wrong with a map whose end cuts a code, by the part of an instruction that it is (document 02, CR 5: "19 where the operand is cut; 4
-- keeps the opcode"). This is the only place that says so: the check, an instruction read and a code read alone take it from here.
abbrev pub cut_reason : Part → Fault
cut_reason Opcode = fault.CutOpcode
cut_reason Operand = fault.CutOperand

-- A map. fetch: what can be read at a place. bits: how many bits the map has. padded: whether the bits from a place to the end may
-- follow the final RETURN, that is, whether they are at most 7 and all zeros (document 01, Check, RETURN).
pub record Map : Type 0 where
  pub fetch : ℕ → Fetched
  pub bits : ℕ
  pub padded : ℕ → Bool

-- All that the laws ask of an instruction read whole at p (document 01, Walk: the bit where it is read is its place; Codes: its opcode is
-- one of four, no row begins below 1, and the least MATCH operand is 2): it has a bit at least and ends within the map.
pub record Stands (m : Map) (p : ℕ) (i : Instruction) : Type 0 where
  pub here : i.place ≡ p
  pub some : 1 ≤ i.size
  pub fits : p + i.size ≤ m.bits
  pub known : i.opcode < 4
  pub from_one : 1 ≤ i.operand
  pub wide : i.opcode ≡ MATCH → 2 ≤ i.operand

-- A map of which every whole instruction says so, and in which from the end on the opcode is what is missing: there is no opcode whose operand
-- could be. The maps that bytes make have these laws.
pub record Laws (m : Map) : Type 0 where
  pub stands : (p : ℕ) (i : Instruction) → m.fetch p ≡ Whole i → Stands m p i
  pub ends : (p : ℕ) → m.bits ≤ p → m.fetch p ≡ CutOpcode

-- The bit of x whose weight is 2 ^ k.
abbrev pub bit_of : ℕ → ℕ → ℕ
bit_of x k = x / 2 ^ k % 2

-- How often x can be halved before it is below 2; f bounds the halvings.
unfoldable pub length_in : ℕ → ℕ → ℕ
length_in zero x = 0
length_in (suc f) x = cond (leb 2 x) (suc (length_in f (x / 2))) 0

-- Document 01, Check, MATCH: how many address bits a MATCH compares. Its operand's bits below the leading one, which is its bit width
-- less one; an operand has at most 32 bits.
unfoldable pub length_of : ℕ → ℕ
length_of x = length_in 32 x

-- Document 01, Forms: what `bit_width` answers for a number of 32 bits. 0 has no bits; any other number has r of them when it lies from
-- 2 ^ (r - 1) to below 2 ^ r, and a MATCH with that operand is one shorter.
pub record Width (x r : ℕ) : Type 0 where
  pub none : x ≡ 0 → r ≡ 0
  pub low : 0 < x → 2 ^ (r - 1) ≤ x
  pub high : x < 2 ^ r
  pub length : 0 < x → r ≡ length_of x + 1

-- Document 01, Codes: the address bit number u, each byte from its highest bit down.
abbrev pub address_bit : List ℕ → ℕ → ℕ
address_bit bytes u = bit_of (get_or bytes (u / 8) 0) (7 - u % 8)

-- Document 01, Walk, the last sentence: the 16 bytes for an IPv4 address of four bytes (the mapped form).
abbrev pub ipv4_mapped : List ℕ → List ℕ
ipv4_mapped four = (0 ∷ 0 ∷ 0 ∷ 0 ∷ 0 ∷ 0 ∷ 0 ∷ 0 ∷ 0 ∷ 0 ∷ 255 ∷ 255 ∷ []) ++ four
