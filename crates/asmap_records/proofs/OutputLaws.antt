-- What a call hands back and leaves, from what is made and the output's length. Assumes nothing.
use mathlib.Core.Path.{◌≡◌, ◌∙◌, refl, sym, ap, subst}
use mathlib.Core.Bool.{Bool, true, false}
use mathlib.Core.List.{List}
use Prim.Native.Nat.{ℕ, ◌≤◌, ◌<◌}
use native.Mathlib.Omega.{arith}
use borrow.Author.Tests.{lt-ltb, le-ltb}
use lib.ListN.{length}
use lib.Seq.{sets}
use Rattle.asmap_program.specs.Widths.{is_width, at_width}
use Rattle.asmap_program.proofs.Widths.{at_width_lem, no_width}
use Rattle.asmap_records.specs.Output.{Making, Made, No, refuse, within, leaves, answer_of, Hands}
use Rattle.asmap_records.proofs.RecordLaws.{sets_front}
use Rattle.refusals.specs.declared.Refusal.{Refusal}
use Rattle.refusals.specs.declared.Refusal.TheVariants as refusal
use Rattle.std.specs.Prelude.{Result, Ok, Err}

-- what no test refused was made
pub passed : (b : Bool) (n : Refusal) (r : Making) (bs : List ℕ) → refuse b n r ≡ Made bs → (b ≡ false) × (r ≡ Made bs)
unfolding refuse
passed true n r bs e = let z : ◌≡◌ {A = ℕ} 0 1 = cc in absurd (omega arith)
passed false n r bs e = (refl, e)

pub made_same : {a b : List ℕ} → Made a ≡ Made b → b ≡ a
made_same e = cc

hands : (made r : Making) (o : List ℕ) → within (length o) made ≡ r → Hands made o (leaves r o) (answer_of r)
hands made r o q = record { answer = sym (ap answer_of q); output = sym (ap (λ (x : Making). leaves x o) q) }

module _ (made : Making) (o : List ℕ) where
  -- refused before the output is looked at
  pub hands_no : (n : Refusal) → made ≡ No n → Hands made o o (Err n)
  hands_no n e = hands made (No n) o (ap (within (length o)) e)

  -- the output is too short
  pub hands_short : (bs : List ℕ) → made ≡ Made bs → length o < length bs → Hands made o o (Err refusal.OutputTooShort)
  unfolding refuse
  hands_short bs e h =
      hands made (No refusal.OutputTooShort) o (ap (within (length o)) e ∙ ap (λ (b : Bool). refuse b refusal.OutputTooShort (Made bs)) (lt-ltb (length o) (length bs) h))

  -- it was written to
  pub hands_made : (bs o' : List ℕ) (n : ℕ) → made ≡ Made bs → n ≡ length bs → length bs ≤ length o → o' ≡ sets o 0 bs → Hands made o o' (Ok n)
  unfolding refuse
  hands_made bs o' n e k h q =
      let r : within (length o) made ≡ Made bs = ap (within (length o)) e ∙ ap (λ (b : Bool). refuse b refusal.OutputTooShort (Made bs)) (le-ltb (length o) (length bs) h) in
      let v = hands made (Made bs) o r in
      record { answer = ap Ok k ∙ v.answer; output = q ∙ sets_front o bs h ∙ v.output }

-- ---- at a width

-- what is made at a width is what is made over its bits
pub hands_at : (w : ℕ) (made : Making) (o o' : List ℕ) (r : Result ℕ Refusal) → is_width w ≡ true → Hands made o o' r → Hands (at_width w No made) o o' r
hands_at w made o o' r t h = subst (λ (x : Making). Hands x o o' r) (sym (at_width_lem w No made t)) h

-- at any other number nothing is
pub hands_no_width : (w : ℕ) (made : Making) (o : List ℕ) → is_width w ≡ false → Hands (at_width w No made) o o (Err refusal.Width)
hands_no_width w made o t = hands_no (at_width w No made) o refusal.Width (no_width w No made t)
