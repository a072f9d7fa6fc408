-- Bitcoin Core's SanityCheckASMap and Interpret (util/asmap.cpp, as the paper core-asmap.md tells them): on Core's own decoders, with its own
-- padding loop and its tests in its own order. Only the theorems that join them to our check and walk speak of them.
-- Assumes nothing.
use Rattle.std.specs.Prelude.{ℕ, zero, suc, ◌+◌, ◌-◌, ◌≤◌, ◌<◌, Bool, true, false, not, ◌&&◌, cond, ◌≡◌, List, [], ◌∷◌, leb, ltb, eqb}
use Rattle.asmap_program.specs.Map.{Map, Fetched, Whole, CutOpcode, CutOperand, end_of, bit_of, length_of}
use Rattle.asmap_program.specs.Check.{Open}

-- DecodeBits: the answer for a code that the file's end cuts.
abbrev pub INVALID : ℕ
INVALID = 4294967295

-- DecodeBits: the value it answers, and where it leaves bitpos.
pub record Read : Type 0 where
  pub value : ℕ
  pub pos : ℕ

-- A file as Core's functions see it: how many bits it has, the bit at each place, and the four decoders, each from a bitpos.
pub record File : Type 0 where
  pub endpos : ℕ
  pub bit : ℕ → ℕ
  pub decode_type : ℕ → Read
  pub decode_asn : ℕ → Read
  pub decode_match : ℕ → Read
  pub decode_jump : ℕ → Read

-- ---- SanityCheckASMap

-- `prevopcode`: the opcode before.
pub data Op : Type 0 where
  RETURN JUMP MATCH DEFAULT : Op

abbrev pub is_op_default : Op → Bool
is_op_default RETURN = false
is_op_default JUMP = false
is_op_default MATCH = false
is_op_default DEFAULT = true

abbrev pub is_op_match : Op → Bool
is_op_match RETURN = false
is_op_match JUMP = false
is_op_match MATCH = true
is_op_match DEFAULT = false

-- Core's locals: `pos`, `bits` (address bits left), `prevopcode`, `had_incomplete_match`, and the stack of open jumps, its top first,
-- each with its target and the bits to restore.
pub record Sanity : Type 0 where
  pub pos : ℕ
  pub bits : ℕ
  pub prevopcode : Op
  pub had_incomplete_match : Bool
  pub jumps : List Open

-- The locals before the loop.
abbrev pub sanity_start : ℕ → Sanity
sanity_start w = record { pos = 0; bits = w; prevopcode = JUMP; had_incomplete_match = false; jumps = [] }

-- What a turn of the loop comes to: the next turn, or Core's answer.
pub data Passed : Type 0 where
  On : Sanity → Passed
  Says : Bool → Passed

-- `if (test) return false;`
unfoldable pub refuse_if : Bool → Passed → Passed
refuse_if true o = Says false
refuse_if false o = o

-- An operand is decoded: INVALID refuses, else it goes on with the value and the new pos.
abbrev pub or_refuse : Read → (ℕ → ℕ → Passed) → Passed
or_refuse r k = refuse_if (eqb r.value INVALID) (k r.value r.pos)

-- Core's answer after a turn, k being the answer from the locals on.
abbrev pub core_after : (Sanity → Bool) → Passed → Bool
core_after k (On c) = k c
core_after k (Says b) = b

-- A stack whose top target is at or before p; an empty stack has none.
abbrev pub top_reached : List Open → ℕ → Bool
top_reached [] p = false
top_reached (o ∷ jumps) p = leb o.target p

-- MATCH: `had_incomplete_match` as its test reads it. It is false first where the opcode before is no MATCH.
abbrev pub incomplete_before : Sanity → Bool
incomplete_before c = cond (is_op_match c.prevopcode) c.had_incomplete_match false

module _ (f : File) where
  -- The padding loop: n bits from p on, false at the first 1.
  unfoldable pub no_ones : ℕ → ℕ → Bool
  no_ones zero p = true
  no_ones (suc n) p = cond (eqb (f.bit p) 1) false (no_ones n (suc p))

  -- RETURN with an empty stack: refused where more than 7 bits follow, or a 1 among them; else accepted.
  unfoldable pub core_tail : ℕ → Bool
  core_tail p = cond (ltb 7 (f.endpos - p)) false (no_ones (f.endpos - p) p)

  -- RETURN, its number read up to p: with an empty stack the padding decides. Else p must be the top's target ("unreachable code"); the
  -- top's bits are restored, it is popped, and prevopcode becomes JUMP.
  abbrev pub core_return : Sanity → ℕ → List Open → Passed
  core_return c p [] = Says (core_tail p)
  core_return c p (o ∷ jumps) =
      refuse_if (not (eqb p o.target))
      (On (record { pos = p; bits = o.saved; prevopcode = JUMP; had_incomplete_match = c.had_incomplete_match; jumps = jumps }))

  -- JUMP, its operand v read up to p: refused where v is more than what is left of the file ("out of range"), where no bit is left, or
  -- where the target is not before the top's ("intersecting jumps"); else a bit is used and the jump is pushed.
  abbrev pub core_jump : Sanity → ℕ → ℕ → Passed
  core_jump c v p =
      refuse_if (ltb (f.endpos - p) v)
      (refuse_if (eqb c.bits 0)
      (refuse_if (top_reached c.jumps (p + v))
      (On (record {
        pos = p;
        bits = c.bits - 1;
        prevopcode = JUMP;
        had_incomplete_match = c.had_incomplete_match;
        jumps = record { target = p + v; saved = c.bits - 1 } ∷ c.jumps;
      }))))

  -- MATCH, its operand v read up to p: refused where it is short and the flag stands, or where it is longer than the bits left; else its
  -- length is used, and the flag says whether it was short.
  abbrev pub core_match : Sanity → ℕ → ℕ → Passed
  core_match c v p =
      refuse_if (ltb (length_of v) 8 && incomplete_before c)
      (refuse_if (ltb c.bits (length_of v))
      (On (record { pos = p; bits = c.bits - length_of v; prevopcode = MATCH; had_incomplete_match = ltb (length_of v) 8; jumps = c.jumps })))

  -- DEFAULT, its number read up to p.
  abbrev pub core_default : Sanity → ℕ → Passed
  core_default c p = On (record { pos = p; bits = c.bits; prevopcode = DEFAULT; had_incomplete_match = c.had_incomplete_match; jumps = c.jumps })

  -- By the opcode, its operand from bitpos q on. RETURN and DEFAULT after DEFAULT are refused before their number is read. Any other
  -- opcode, which is INVALID, is refused.
  abbrev pub core_opcode : Sanity → ℕ → ℕ → Passed
  core_opcode c zero q = refuse_if (is_op_default c.prevopcode) (or_refuse (f.decode_asn q) (λ (v p : ℕ). core_return c p c.jumps))
  core_opcode c (suc zero) q = or_refuse (f.decode_jump q) (λ (v p : ℕ). core_jump c v p)
  core_opcode c (suc (suc zero)) q = or_refuse (f.decode_match q) (λ (v p : ℕ). core_match c v p)
  core_opcode c (suc (suc (suc zero))) q = refuse_if (is_op_default c.prevopcode) (or_refuse (f.decode_asn q) (λ (v p : ℕ). core_default c p))
  core_opcode c (suc (suc (suc (suc n)))) q = Says false

  -- A turn: with pos at endpos the loop is over, which refuses ("end of file without a RETURN"). A top target that is not after pos
  -- refuses ("jump into the middle of an instruction"). Then the opcode is read.
  unfoldable pub core_step : Sanity → Passed
  core_step c =
      refuse_if (eqb c.pos f.endpos)
      (refuse_if (top_reached c.jumps c.pos) (core_opcode c (f.decode_type c.pos).value (f.decode_type c.pos).pos))

  -- The loop. Each turn moves pos, so a turn for each bit of the file is enough; then pos is endpos.
  unfoldable pub core_run : ℕ → Sanity → Bool
  core_run zero c = false
  core_run (suc n) c = core_after (λ (c' : Sanity). core_run n c') (core_step c)

  -- SanityCheckASMap(asmap, bits).
  unfoldable pub core_check : ℕ → Bool
  core_check w = core_run f.endpos (sanity_start w)

-- ---- Interpret

-- Core's locals: `pos`, `bits` (address bits not used yet), `default_asn`.
pub record Pointer : Type 0 where
  pub pos : ℕ
  pub bits : ℕ
  pub default : ℕ

-- What Interpret comes to: a number that it answers, or its loop left, which is a failed assertion (and 0 where assertions are off).
pub data CoreAnswer : Type 0 where
  Number : ℕ → CoreAnswer
  LeftLoop : CoreAnswer

-- What a turn of its loop comes to: the next turn, a number answered, or the loop left.
pub data Interpreted : Type 0 where
  Moves : Pointer → Interpreted
  Gives : ℕ → Interpreted
  Leaves : Interpreted

-- `if (test) break;`
abbrev pub break_if : Bool → Interpreted → Interpreted
break_if true t = Leaves
break_if false t = t

-- An operand is decoded: INVALID leaves the loop, else it goes on with the value and the new pos.
abbrev pub or_break : Read → (ℕ → ℕ → Interpreted) → Interpreted
or_break r k = break_if (eqb r.value INVALID) (k r.value r.pos)

-- Core's answer after a turn, k being the answer from the locals on.
abbrev pub core_go_on : (Pointer → CoreAnswer) → Interpreted → CoreAnswer
core_go_on k (Moves p) = k p
core_go_on k (Gives n) = Number n
core_go_on k Leaves = LeftLoop

-- a: the address, its bit at each place; w: the number of its bits
module _ (a : ℕ → ℕ) (w : ℕ) where
  -- MATCH, the loop over the n lowest bits of v, highest first, with b address bits not used yet: true where none differs.
  unfoldable pub core_compared : ℕ → ℕ → ℕ → Bool
  core_compared zero v b = true
  core_compared (suc n) v b = cond (eqb (a (w - b)) (bit_of v n)) (core_compared n v (b - 1)) false

  -- MATCH after that loop: on where no bit differed, else the default is the answer.
  abbrev pub core_matched : Pointer → ℕ → ℕ → Bool → Interpreted
  core_matched s v p true = Moves (record { pos = p; bits = s.bits - length_of v; default = s.default })
  core_matched s v p false = Gives s.default

  module _ (f : File) where
    -- By the opcode, its operand from bitpos q on. RETURN answers its number. JUMP leaves the loop with no bit left, or where its
    -- operand reaches the file's end ("jumping past the end"); else the next address bit says whether pos moves on by the operand.
    -- MATCH leaves the loop where fewer bits are left than its length. DEFAULT sets the default. Any other opcode leaves the loop.
    abbrev pub core_turn : Pointer → ℕ → ℕ → Interpreted
    core_turn s zero q = or_break (f.decode_asn q) (λ (v p : ℕ). Gives v)
    core_turn s (suc zero) q =
        or_break (f.decode_jump q)
        (λ (v p : ℕ).
        break_if (eqb s.bits 0)
        (break_if (leb (f.endpos - p) v)
        (Moves (record { pos = cond (eqb (a (w - s.bits)) 1) (p + v) p; bits = s.bits - 1; default = s.default }))))
    core_turn s (suc (suc zero)) q =
        or_break (f.decode_match q)
        (λ (v p : ℕ). break_if (ltb s.bits (length_of v)) (core_matched s v p (core_compared (length_of v) v s.bits)))
    core_turn s (suc (suc (suc zero))) q = or_break (f.decode_asn q) (λ (v p : ℕ). Moves (record { pos = p; bits = s.bits; default = v }))
    core_turn s (suc (suc (suc (suc n)))) q = Leaves

    -- The loop, while pos is not endpos. Each turn moves pos, so a turn for each bit of the file is enough.
    unfoldable pub core_walk : ℕ → Pointer → CoreAnswer
    core_walk zero s = LeftLoop
    core_walk (suc n) s =
        core_go_on (λ (s' : Pointer). core_walk n s')
        (break_if (eqb s.pos f.endpos) (core_turn s (f.decode_type s.pos).value (f.decode_type s.pos).pos))

    -- Interpret(asmap, ip): from pos 0, all address bits and default 0.
    unfoldable pub core_interpret : CoreAnswer
    core_interpret = core_walk f.endpos (record { pos = 0; bits = w; default = 0 })

-- ---- the same bits as our map and as Core's file

-- The decoder by which Core reads an opcode's operand.
abbrev pub decode_of : File → ℕ → ℕ → Read
decode_of f zero q = f.decode_asn q
decode_of f (suc zero) q = f.decode_jump q
decode_of f (suc (suc zero)) q = f.decode_match q
decode_of f (suc (suc (suc n))) q = f.decode_asn q

-- Core's decoders read at p what our fetch found there: both codes of a whole instruction, or INVALID for the code that is cut.
abbrev pub Reads : File → ℕ → Fetched → Type 0
Reads f p (Whole i) =
    (q : ℕ) × (f.decode_type p ≡ record { value = i.opcode; pos = q }) × (decode_of f i.opcode q ≡ record { value = i.operand; pos = end_of i }) × (i.operand < INVALID)
Reads f p CutOpcode = (f.decode_type p).value ≡ INVALID
Reads f p (CutOperand op) = (q : ℕ) × (f.decode_type p ≡ record { value = op; pos = q }) × (op < 4) × ((decode_of f op q).value ≡ INVALID)

-- A map and a file of the same bits: as many, read alike at each place, and with the same padding.
pub record Joined (m : Map) (f : File) : Type 0 where
  pub ends : f.endpos ≡ m.bits
  pub fetched : (p : ℕ) → p ≤ m.bits → Reads f p (m.fetch p)
  pub tail : (p : ℕ) → p ≤ m.bits → m.padded p ≡ core_tail f p
