-- Bytes written into a buffer one after the other. Assumes nothing.
use mathlib.Core.Path.{◌≡◌, ◌∙◌, ap, sym}
use mathlib.Core.List.{List, [], ◌∷◌, ◌++◌, append_assoc}
use Prim.Native.Nat.{ℕ, suc, ◌+◌, ◌-◌, ◌≤◌}
use native.Mathlib.Omega.{arith}
use lib.ListN.{length, set}
use lib.Seq.{sets, drop-drop}
use borrow.Rule.Slice.PartMut.{put_mid}
use Rattle.std.proofs.lemmas.List.Edits.{sets-eq}

-- bytes written after bytes
pub sets-append : (o : List ℕ) (k : ℕ) (a b : List ℕ) → sets o k (a ++ b) ≡ sets (sets o k a) (k + length a) b
sets-append o k [] b = let e : k + 0 ≡ k = omega arith in rw e
sets-append o k (x ∷ xs) b = let e : k + suc (length xs) ≡ suc k + length xs = omega arith in rw e (sets-append (set o k x) (suc k) xs b)

pub sets-append_at : (o : List ℕ) (k j : ℕ) (a b : List ℕ) → k + length a ≡ j → sets o k (a ++ b) ≡ sets (sets o k a) j b
sets-append_at o k j a b e = sets-append o k a b ∙ ap (λ (i : ℕ). sets (sets o k a) i b) e

-- bytes copied into a part of it
pub sets_part : (o : List ℕ) (k n : ℕ) (a now : List ℕ) → now ≡ a → length a ≡ n → k + n ≤ length o → put_mid k (k + n - k) o now ≡ sets o k a
sets_part o k n a now e l h =
    let d : k + n - k ≡ length a = omega (arith, l) in
    rw (e, d, drop-drop (length a) k o, ← append_assoc) (sym (sets-eq a o k (omega (arith, l, h))))
