-- The check (document 01, Check; `sanity_check`), over a width of w address bits: a step, with the tests in the paper's order and the
-- paper's reasons, and its repetition.
-- Assumes nothing.
use Rattle.std.specs.Prelude.{ℕ, zero, suc, ◌-◌, ◌<◌, max, Bool, true, false, not, ◌&&◌, ◌||◌, cond, ◌≡◌, List, [], ◌∷◌, leb, ltb, eqb, length, Result, Err, Ok}
use Rattle.refusals.specs.declared.Fault.{Fault}
use Rattle.refusals.specs.declared.Fault.TheVariants as fault
use Rattle.asmap_program.specs.declared.Accepted as struct
use Rattle.asmap_program.specs.declared.Instruction.{Instruction}
use Rattle.asmap_program.specs.declared.Previous.{Previous}
use Rattle.asmap_program.specs.declared.Previous.TheVariants.{Other, Short, Default}
use Rattle.asmap_program.specs.Map.{RETURN, DEFAULT, end_of, target_of, Fetched, Whole, CutOpcode, CutOperand, Opcode, Operand, cut_reason, Map, length_of}
use Rattle.asmap_program.specs.Verdict.{Accepted, Verdict}

-- Of the opcode before ("previous"), the check asks two things. Was it a DEFAULT?
abbrev pub is_default : Previous → Bool
is_default Default = true
is_default Short = false
is_default Other = false

-- Was it a MATCH shorter than 8?
abbrev pub is_short : Previous → Bool
is_short Short = true
is_short Default = false
is_short Other = false

-- What a MATCH of length n is remembered as. A full one, of 8, is like a JUMP: a short MATCH may follow it.
abbrev pub after_match : ℕ → Previous
after_match n = cond (ltb n 8) Short Other

-- An open jump: its target, and the address bits that are left for what stands there ("saved bits").
pub record Open : Type 0 where
  pub target : ℕ
  pub saved : ℕ

-- Where the check stands: the place, the address bits left, the opcode before, the open jumps (the innermost first), how many
-- instructions it has passed, and the most jumps that were open at once.
pub record State : Type 0 where
  pub at : ℕ
  pub left : ℕ
  pub before : Previous
  pub opens : List Open
  pub count : ℕ
  pub deepest : ℕ

-- The first sentence of Check, over the width: all w bits are left, the opcode before counts as a JUMP, and no jump is open.
abbrev pub start : ℕ → State
start w = record { at = 0; left = w; before = Other; opens = []; count = 0; deepest = 0 }

-- What a step comes to: behind an instruction, on; at an instruction, accepted, with count and greatest depth; or refused.
pub data Outcome : Type 0 where
  Next : Instruction → State → Outcome
  Done : Instruction → ℕ → ℕ → Outcome
  Refuse : Fault → Outcome

-- Where the test holds, refused for this; else what comes after.
unfoldable pub guard : Bool → Fault → Outcome → Outcome
guard true n o = Refuse n
guard false n o = o

-- A place that is not before the innermost open target. With no open jump there is none.
abbrev pub past : List Open → ℕ → Bool
past [] p = false
past (o ∷ opens) p = leb o.target p

-- Check, RETURN, once it is read whole. With no open jump it is the last: 6 where what is left over is no padding, else accepted. With
-- one, it must end where the innermost jump lands, else 7; that jump closes, and its target is read with the bits that it saved.
abbrev pub closing : Map → State → Instruction → List Open → Outcome
closing m s i [] = guard (not (m.padded (end_of i))) fault.Padding (Done i (suc s.count) s.deepest)
closing m s i (o ∷ opens) =
    guard (not (eqb (end_of i) o.target)) fault.NotAtTarget
    (Next i (record { at = end_of i; left = o.saved; before = Other; opens = opens; count = suc s.count; deepest = s.deepest }))

-- Check, JUMP: 8 with no address bit left, 9 where its target is not before the innermost open one; else it opens. It uses one bit, and
-- the bits left after that are both those of its first half and those that it saves for its target.
abbrev pub opening : State → Instruction → Outcome
opening s i =
    guard (eqb s.left 0) fault.NoBits
    (guard (past s.opens (target_of i)) fault.TargetsCross
    (Next i (record {
      at = end_of i;
      left = s.left - 1;
      before = Other;
      opens = record { target = target_of i; saved = s.left - 1 } ∷ s.opens;
      count = suc s.count;
      deepest = max s.deepest (suc (length s.opens));
    })))

-- Check, MATCH: 10 where it and the MATCH straight before it are both shorter than 8, then 8 where it is longer than the bits left; else
-- it uses as many bits as it is long.
abbrev pub matching : State → Instruction → Outcome
matching s i =
    guard (ltb (length_of i.operand) 8 && is_short s.before) fault.ShortMatches
    (guard (ltb s.left (length_of i.operand)) fault.NoBits
    (Next i (record {
      at = end_of i;
      left = s.left - length_of i.operand;
      before = after_match (length_of i.operand);
      opens = s.opens;
      count = suc s.count;
      deepest = s.deepest;
    })))

-- Check, DEFAULT, once it is known not to follow one: it uses no bit.
abbrev pub defaulting : State → Instruction → Outcome
defaulting s i = Next i (record { at = end_of i; left = s.left; before = Default; opens = s.opens; count = suc s.count; deepest = s.deepest })

-- Check, at an instruction read whole, by its opcode: RETURN, JUMP, MATCH, DEFAULT. RETURN and DEFAULT are 5 after a DEFAULT.
abbrev pub step_whole : Map → State → Instruction → ℕ → Outcome
step_whole m s i zero = guard (is_default s.before) fault.AfterDefault (closing m s i s.opens)
step_whole m s i (suc zero) = opening s i
step_whole m s i (suc (suc zero)) = matching s i
step_whole m s i (suc (suc (suc n))) = guard (is_default s.before) fault.AfterDefault (defaulting s i)

-- Check, by what can be read here. A cut opcode, or a cut operand, is refused with the number of its cut; but where a RETURN or a DEFAULT
-- stands after a DEFAULT, 5 comes first, since the opcode alone shows it.
abbrev pub step_on : Map → State → Fetched → Outcome
step_on m s (Whole i) = step_whole m s i i.opcode
step_on m s CutOpcode = Refuse (cut_reason Opcode)
step_on m s (CutOperand op) = guard (is_default s.before && (eqb op RETURN || eqb op DEFAULT)) fault.AfterDefault (Refuse (cut_reason Operand))

-- Check, one step: 2 at the map's end, 3 where the place is not before the innermost open target, else by what can be read here.
unfoldable pub step : Map → State → Outcome
step m s = guard (leb m.bits s.at) fault.MapEnds (guard (past s.opens s.at) fault.PastTarget (step_on m s (m.fetch s.at)))

-- The answer after a step, k being the answer from a state on.
abbrev pub after : (State → Verdict) → Outcome → Verdict
after k (Next i s) = k s
after k (Done i c d) = Accepted c d
after k (Refuse n) = Err n

-- Steps until one accepts or refuses. Each uses up a bit of the map at least, so with a step for each bit none is wanting: when they are
-- used up the place is the map's end, and that is 2.
unfoldable pub run : Map → ℕ → State → Verdict
run m zero s = Err fault.MapEnds
run m (suc f) s = after (λ (s' : State). run m f s') (step m s)

-- The check of a map over w address bits: accepted, with the count of instructions and the greatest depth, or refused with a number.
unfoldable pub check : Map → ℕ → Verdict
check m w = run m m.bits (start w)

-- The place at which the check stops after a step from p, k being that place from a state on: p itself, where the step accepts or refuses.
abbrev pub stopping : ℕ → (State → ℕ) → Outcome → ℕ
stopping p k (Next i s) = k s
stopping p k (Done i c d) = p
stopping p k (Refuse n) = p

-- The place at which the steps of `run` stop: the first bit of the instruction at which they accept or refuse, and where the map ends before
-- an instruction, its end.
unfoldable pub stops : Map → ℕ → State → ℕ
stops m zero s = s.at
stops m (suc f) s = stopping s.at (λ (s' : State). stops m f s') (step m s)

-- The place at which the check of a map over w address bits stops.
unfoldable pub stop_of : Map → ℕ → ℕ
stop_of m w = stops m m.bits (start w)

-- Whether a verdict is an acceptance: all that Core's check answers.
abbrev pub accepted : {E : Type 0} → Result struct.Accepted E → Bool
accepted (Ok got) = true
accepted (Err n) = false

-- The states that the check of a map over w address bits comes to.
pub data Reached (m : Map) (w : ℕ) : State → Type 0 where
  begins : Reached m w (start w)
  goes : {s s' : State} {i : Instruction} → Reached m w s → step m s ≡ Next i s' → Reached m w s'

-- A step that gives the verdict v, and does not go on.
abbrev pub Gives : Verdict → Outcome → Type 0
Gives v (Next i s) = ⊥
Gives v (Done i c d) = v ≡ Accepted c d
Gives v (Refuse n) = v ≡ Err n

-- The check comes to a state with the place p, and there gives the verdict v.
pub record StopsAt (m : Map) (w : ℕ) (v : Verdict) (p : ℕ) : Type 0 where
  pub state : State
  pub reached : Reached m w state
  pub here : state.at ≡ p
  pub gives : Gives v (step m state)

-- A place before the innermost open target, where there is one.
abbrev pub Before : ℕ → List Open → Type 0
Before t [] = Unit {0}
Before t (o ∷ opens) = t < o.target

-- Open jumps that do not intersect: each target lies before that of the jump outside it.
abbrev pub Nested : List Open → Type 0
Nested [] = Unit {0}
Nested (o ∷ opens) = Before o.target opens × Nested opens

-- The instructions passed by a step and after it, k being the list from a state on.
abbrev pub listed : (State → List Instruction) → Outcome → List Instruction
listed k (Next i s) = i ∷ k s
listed k (Done i c d) = i ∷ []
listed k (Refuse n) = []

-- The instructions that the check passes, in the order in which it reads them.
unfoldable pub reads : Map → ℕ → State → List Instruction
reads m zero s = []
reads m (suc f) s = listed (λ (s' : State). reads m f s') (step m s)

-- Document 01, Unpack: the list that an accepted map is unpacked to.
unfoldable pub unpacked : Map → ℕ → List Instruction
unpacked m w = reads m m.bits (start w)
