-- A call that writes to a lent output: what it makes, hands back and leaves (document 01, "What a call hands back"). Assumes nothing.
use Rattle.std.specs.Prelude.{ℕ, Bool, true, false, ◌≡◌, List, ◌++◌, ltb, length, drop, Result, Ok, Err}
use Rattle.refusals.specs.declared.Refusal.{Refusal}
use Rattle.refusals.specs.declared.Refusal.TheVariants as refusal

-- What is made: bytes (or, on the way, bits); or nothing, for that reason.
pub data Making : Type 0 where
  Made : List ℕ → Making
  No : Refusal → Making

-- Refused for this where the test holds.
unfoldable pub refuse : Bool → Refusal → Making → Making
refuse true n r = No n
refuse false n r = r

-- Goes on with what was made; a refusal stays as it is.
abbrev pub on : (List ℕ → Making) → Making → Making
on k (Made l) = k l
on k (No n) = No n

-- Refused 14 where a lent output of k bytes is too short.
abbrev pub within : ℕ → Making → Making
within k r = on (λ (bs : List ℕ). refuse (ltb k (length bs)) refusal.OutputTooShort (Made bs)) r

-- What is handed back: how many bytes were written, or the reason.
abbrev pub answer_of : Making → Result ℕ Refusal
answer_of (Made bs) = Ok (length bs)
answer_of (No n) = Err n

-- What the output o holds at exit: the bytes made and after them its old ones; after a refusal its old ones, all of them.
abbrev pub leaves : Making → List ℕ → List ℕ
leaves (Made bs) o = bs ++ drop (length bs) o
leaves (No n) o = o

-- What a call hands back (r) and the output at exit (o'), as equations, from what is made and the output at entry (o).
pub record Hands (made : Making) (o o' : List ℕ) (r : Result ℕ Refusal) : Type 0 where
  pub answer : r ≡ answer_of (within (length o) made)
  pub output : o' ≡ leaves (within (length o) made) o
