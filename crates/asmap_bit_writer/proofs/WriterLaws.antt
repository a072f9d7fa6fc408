-- Laws of the writer: a word shifted past the bits held, bytes that go out, the last ones. Assumes nothing.
use mathlib.Core.Path.{◌≡◌, ◌∙◌, refl, sym, ap, ap₂, subst}
use mathlib.Core.List.{List, [], ◌∷◌, ◌++◌, append_assoc, append-nil}
use Prim.Native.Nat.{ℕ, zero, suc, ◌+◌, ◌-◌, ◌*◌, ◌/◌, ◌%◌, ◌^◌, ◌≤◌, ◌<◌}
use native.Mathlib.Nat.{add-zero, mul-mod_left, mod-lt}
use native.Mathlib.Omega.{arith}
use lib.Pow as pow
use lib.Pow.{pow_mono}
use lib.ListN.{length, set, length-set}
use lib.Seq.{sets, length-sets}
use Rattle.std.specs.Int.{w64, to_le_bytes}
use Rattle.asmap_codes.specs.Bits.{low}
use Rattle.asmap_codes.proofs.BitLaws.{length-low}
use Rattle.asmap_encode.proofs.WordLaws.{window_lt}
use Rattle.asmap_bit_writer.specs.Bytes.{bytes_of}
use Rattle.asmap_bit_writer.specs.models.Stream.{stream, put_bytes, Moved}
use Rattle.asmap_bit_writer.specs.declared.BitWriter.{BitWriter}
use Rattle.asmap_bit_writer.proofs.ByteLaws.{low-append, bytes_low, bytes_last, word_low}

-- what is written from place p on when a word was put above the bits held
pub stream-push : (o : List ℕ) (p n k a w : ℕ) (rest : List ℕ) → a < 2 ^ n
    → sets o p (bytes_of (low n a ++ (low k w ++ rest))) ≡ sets o p (bytes_of (low (n + k) (a + w * 2 ^ n) ++ rest))
stream-push o p n k a w rest h =
    ap (λ (l : List ℕ). sets o p (bytes_of l)) (sym (append_assoc (low n a) (low k w) rest) ∙ ap (λ (l : List ℕ). l ++ rest) (sym (low-append n k a w h)))

-- the output stays as long as it was
pub length-stream : (o : List ℕ) (w : BitWriter) (rest : List ℕ) → length (stream o w rest) ≡ length o
unfolding stream
length-stream o w rest = length-sets o w.place (bytes_of (low w.held w.bits ++ rest))

-- the bits pushed, as other bits that they are
pub moved_as : {o o' bs cs : List ℕ} {w w' : BitWriter} → Moved o w bs o' w' → bs ≡ cs → Moved o w cs o' w'
moved_as {o} {o'} {w} {w'} m e = subst (λ (l : List ℕ). Moved o w l o' w') e m

-- bytes go out
pub length-put : (n : ℕ) (o : List ℕ) (p a : ℕ) → length (put_bytes n o p a) ≡ length o
length-put zero o p a = refl
length-put (suc n) o p a = length-put n (set o p (a % 256)) (p + 1) (a / 256) ∙ length-set o p (a % 256)

-- eight bytes go out as one part
abbrev parts : ℕ → ℕ → List ℕ
parts zero a = []
parts (suc n) a = a % 256 ∷ parts n (a / 256)

put_parts : (n : ℕ) (o : List ℕ) (p a : ℕ) → put_bytes n o p a ≡ sets o p (parts n a)
put_parts zero o p a = refl
put_parts (suc n) o p a = let e : p + 1 ≡ suc p = omega arith in put_parts n (set o p (a % 256)) (p + 1) (a / 256) ∙ ap (λ (k : ℕ). sets (set o p (a % 256)) k (parts n (a / 256))) e

eight_parts : (a : ℕ) → to_le_bytes w64 a ≡ parts 8 a
eight_parts a =
    let b = a / 256 in
    let c = b / 256 in
    let d = c / 256 in
    let e = d / 256 in
    let f = e / 256 in
    let g = f / 256 in
    let c' : a / 65536 ≡ c = omega arith in
    let d' : a / 16777216 ≡ d = omega arith in
    let e' : a / 4294967296 ≡ e = omega arith in
    let f' : a / 1099511627776 ≡ f = omega arith in
    let g' : a / 281474976710656 ≡ g = omega arith in
    let h' : a / 72057594037927936 ≡ g / 256 = omega arith in
    rw (c', d', e', f', g', h')

pub put_eight : (o : List ℕ) (p a : ℕ) → sets o p (to_le_bytes w64 a) ≡ put_bytes 8 o p a
put_eight o p a = ap (sets o p) (eight_parts a) ∙ sym (put_parts 8 o p a)

pub stream-bytes : (n : ℕ) (o : List ℕ) (p a : ℕ) (rest : List ℕ)
    → sets o p (bytes_of (low (8 * n) a ++ rest)) ≡ sets (put_bytes n o p a) (p + n) (bytes_of rest)
stream-bytes zero o p a rest = let e : p ≡ p + 0 = omega arith in ap (λ (k : ℕ). sets o k (bytes_of rest)) e
stream-bytes (suc n) o p a rest =
    let e : 8 * suc n ≡ 8 + 8 * n = omega arith in
    let q : suc p ≡ p + 1 = omega arith in
    let s : p + 1 + n ≡ p + suc n = omega arith in
    ap (λ (k : ℕ). sets o p (bytes_of (low k a ++ rest))) e
    ∙ ap (sets o p) (bytes_low (8 * n) a rest)
    ∙ ap (λ (k : ℕ). sets (set o p (a % 256)) k (bytes_of (low (8 * n) (a / 256) ++ rest))) q
    ∙ stream-bytes n (set o p (a % 256)) (p + 1) (a / 256) rest
    ∙ ap (λ (k : ℕ). sets (put_bytes n (set o p (a % 256)) (p + 1) (a / 256)) k (bytes_of rest)) s

-- a word shifted past n bits of 64, with what they have no room for left out
module _ (w n : ℕ) (f : n ≤ 64) where
  all : 64 - n + n ≡ 64
  all = omega arith

  pub shifted-low : w * 2 ^ n % 2 ^ 64 ≡ w % 2 ^ (64 - n) * 2 ^ n
  shifted-low =
      ap (λ (k : ℕ). w * 2 ^ n % 2 ^ k) (sym all)
      ∙ pow.mod-pow-add (w * 2 ^ n) (64 - n) n
      ∙ ap₂ (λ (i j : ℕ). i % 2 ^ (64 - n) * 2 ^ n + j) (pow.shl-shr w n) (mul-mod_left w (2 ^ n))
      ∙ add-zero (w % 2 ^ (64 - n) * 2 ^ n)

  pub shifted_fits : (a : ℕ) → a < 2 ^ n → a + w * 2 ^ n % 2 ^ 64 < 2 ^ 64
  shifted_fits a h =
      let e : n + (64 - n) ≡ 64 = omega arith in
      rw shifted-low (rw e at (window_lt a n (w % 2 ^ (64 - n)) (64 - n) h (mod-lt w (pow.pow_pos (64 - n)))))

  -- 64 bits are held: their eight bytes go out, and the rest of the word is held
  pub stream_full : (o : List ℕ) (p k a : ℕ) (rest : List ℕ) → a < 2 ^ n → 64 ≤ n + k
      → sets o p (bytes_of (low n a ++ (low k w ++ rest)))
      ≡ sets (put_bytes 8 o p (a + w * 2 ^ n % 2 ^ 64)) (p + 8) (bytes_of (low (n + k - 64) (w / 2 ^ (64 - n)) ++ rest))
  stream_full o p k a rest h g =
      let i = 64 - n in
      let j = n + k - 64 in
      let l = w % 2 ^ i in
      let u = w / 2 ^ i in
      let b = a + w * 2 ^ n % 2 ^ 64 in
      let e : k ≡ i + j = omega arith in
      let s : w ≡ l + u * 2 ^ i = omega (arith, pow.split w i) in
      let c : n + i ≡ 64 = omega arith in
      let t : low k w ≡ low i l ++ low j u = ap₂ low e s ∙ low-append i j l u (mod-lt w (pow.pow_pos i)) in
      let d : low n a ++ low i l ≡ low 64 b = sym (low-append n i a l h) ∙ ap₂ low c (ap (λ (y : ℕ). a + y) (sym shifted-low)) in
      let r : low n a ++ (low k w ++ rest) ≡ low 64 b ++ (low j u ++ rest)
      = ap (λ (y : List ℕ). low n a ++ (y ++ rest)) t
      ∙ ap (λ (y : List ℕ). low n a ++ y) (append_assoc (low i l) (low j u) rest)
      ∙ sym (append_assoc (low n a) (low i l) (low j u ++ rest))
      ∙ ap (λ (y : List ℕ). y ++ (low j u ++ rest)) d in
      ap (λ (y : List ℕ). sets o p (bytes_of y)) r ∙ stream-bytes 8 o p b (low j u ++ rest)

  pub rest_lt : (k : ℕ) → w < 2 ^ k → 64 ≤ n + k → w / 2 ^ (64 - n) < 2 ^ (n + k - 64)
  rest_lt k h g =
      let e : k ≡ n + k - 64 + (64 - n) = omega arith in
      let l : w < 2 ^ (n + k - 64 + (64 - n)) = rw e at h in
      pow.shr_lt (n + k - 64) (64 - n) l

-- the bits held go out as the bytes of their number, zeros above them
held_out : (n : ℕ) (o : List ℕ) (p h a : ℕ) → h ≤ 8 * n → 8 * n < h + 8 → a < 2 ^ h → sets o p (bytes_of (low h a ++ [])) ≡ put_bytes n o p a
unfolding bytes_of
held_out zero o p h a i j l = let z : h ≡ 0 = omega arith in ap (λ (k : ℕ). sets o p (bytes_of (low k a ++ []))) z
held_out (suc zero) o p h a i j l =
    let e : a ≡ a % 256 = omega (arith, pow_mono {i = h} {j = 8} i) in
    let k = length-low h a in
    ap (sets o p) (ap bytes_of (append-nil (low h a)) ∙ bytes_last (low h a) (omega arith) (omega arith) ∙ ap (λ (x : ℕ). x ∷ []) (word_low h a l ∙ e))
held_out (suc (suc n)) o p h a i j l =
    let q : h ≡ 8 + (h - 8) = omega arith in
    let c : h ≡ h - 8 + 8 = omega arith in
    let m : a < 2 ^ (h - 8 + 8) = rw c at l in
    let s : suc p ≡ p + 1 = omega arith in
    let o' = set o p (a % 256) in
    ap (λ (k : ℕ). sets o p (bytes_of (low k a ++ []))) q
    ∙ ap (sets o p) (bytes_low (h - 8) a [])
    ∙ ap (λ (k : ℕ). sets o' k (bytes_of (low (h - 8) (a / 256) ++ []))) s
    ∙ held_out (suc n) o' (p + 1) (h - 8) (a / 256) (omega arith) (omega arith) (pow.shr_lt (h - 8) 8 m)

pub stream_finished : (o : List ℕ) (w : BitWriter) → w.bits < 2 ^ w.held → stream o w [] ≡ put_bytes ((w.held + 7) / 8) o w.place w.bits
unfolding stream
stream_finished o w l = held_out ((w.held + 7) / 8) o w.place w.held w.bits (omega arith) (omega arith) l
