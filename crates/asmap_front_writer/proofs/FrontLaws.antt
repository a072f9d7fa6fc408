-- Bits put before others: whole bytes before others, a byte that goes out before those that did, a word below the bits held, and what a loop over
-- the bytes keeps. Assumes nothing.
use Prim.Native.Nat.{ℕ, zero, suc, ◌+◌, ◌-◌, ◌*◌, ◌/◌, ◌%◌, ◌^◌, ◌≤◌, ◌<◌}
use mathlib.Core.Path.{◌≡◌, refl, sym, ap, ◌∙◌}
use mathlib.Core.List.{List, [], ◌∷◌, ◌++◌, append_assoc, append-nil}
use native.Mathlib.Nat.{mod-lt, one-mul}
use native.Mathlib.Omega.{arith}
use lib.Pow as pow
use lib.ListN.{length, set, take, drop, length-set, length-append, length-drop, take-append-drop}
use lib.Seq.{sets, set_comm, length-take-le}
use Rattle.asmap_codes.specs.Bits.{low, word}
use Rattle.asmap_codes.proofs.BitLaws.{length-low}
use Rattle.asmap_encode.specs.declared.Word.{Word}
use Rattle.asmap_encode.proofs.WordLaws.{shifted}
use Rattle.asmap_bit_writer.specs.Bytes.{bytes_of}
use Rattle.asmap_bit_writer.proofs.ByteLaws.{bytes-eight, bytes_last, length-bytes_of, low-append}
use Rattle.asmap_front_writer.specs.declared.Front.{Front}
use Rattle.asmap_front_writer.specs.models.Front.{filled, Room, Moved}

-- whole bytes before others
bytes-before : (n : ℕ) (a c : List ℕ) → length a ≡ 8 * n → bytes_of (a ++ c) ≡ bytes_of a ++ bytes_of c
unfolding bytes_of
bytes-before zero [] c h = refl
bytes-before zero (x ∷ a) c h = absurd (omega arith)
bytes-before (suc n) a c h =
    let t = take 8 a in
    let d = drop 8 a in
    let e : t ++ d ≡ a = take-append-drop 8 a in
    let l : length t ≡ 8 = length-take-le 8 a (omega arith) in
    let i = bytes-before n d c (omega (arith, length-drop 8 a)) in
    ap (λ (x : List ℕ). bytes_of (x ++ c)) (sym e)
    ∙ ap bytes_of (append_assoc t d c)
    ∙ bytes-eight t (d ++ c) l
    ∙ ap (◌∷◌ (word t)) i
    ∙ ap (λ (x : List ℕ). x ++ bytes_of c) (sym (bytes-eight t d l) ∙ ap bytes_of e)

-- stores, and then one more behind them
sets_last : (o : List ℕ) (k : ℕ) (a : List ℕ) (y : ℕ) → sets o k (a ++ (y ∷ [])) ≡ set (sets o k a) (k + length a) y
sets_last o k [] y = let e : k + 0 ≡ k = omega arith in rw e
sets_last o k (x ∷ xs) y = let e : k + suc (length xs) ≡ suc k + length xs = omega arith in rw e (sets_last (set o k x) (suc k) xs y)

-- a store behind those that come later
store_late : (xs o : List ℕ) (i k y : ℕ) → i + length xs ≤ k → set (sets o i xs) k y ≡ sets (set o k y) i xs
store_late [] o i k y h = refl
store_late (x ∷ xs) o i k y h =
    store_late xs (set o i x) (suc i) k y (omega arith)
    ∙ ap (λ (l : List ℕ). sets l (suc i) xs) (set_comm o i k x y (λ e. omega arith))

-- a byte goes out: it is the last of what was to come
byte_out : (o before eight : List ℕ) (n : ℕ) → length before ≡ 8 * n → length eight ≡ 8
    → sets o 0 (bytes_of (before ++ eight)) ≡ sets (set o n (word eight)) 0 (bytes_of before)
byte_out o before eight n h l =
    let m : length (bytes_of before) ≡ n = length-bytes_of before ∙ omega (arith, h) in
    let z : 0 + length (bytes_of before) ≡ n = omega (arith, m) in
    ap (sets o 0) (bytes-before n before eight h ∙ ap (λ (x : List ℕ). bytes_of before ++ x) (bytes_last eight (omega (arith, l)) (omega (arith, l))))
    ∙ sets_last o 0 (bytes_of before) (word eight)
    ∙ ap (λ (k : ℕ). set (sets o 0 (bytes_of before)) k (word eight)) z
    ∙ store_late (bytes_of before) o 0 n (word eight) (omega (arith, m))

-- a word of k bits put before n bits of a window
window_front : (before : List ℕ) (k n u a : ℕ) → u < 2 ^ k → (before ++ low k u) ++ low n a ≡ before ++ low (k + n) (u + a * 2 ^ k)
window_front before k n u a h = append_assoc before (low k u) (low n a) ∙ ap (λ (x : List ℕ). before ++ x) (sym (low-append k n u a h))

-- the bits of a number, as those of its rest and above them those of its quotient
low_parts : (n k x : ℕ) → low (n + k) x ≡ low n (x % 2 ^ n) ++ low k (x / 2 ^ n)
low_parts n k x =
    let e : x ≡ x % 2 ^ n + x / 2 ^ n * 2 ^ n = omega (arith, pow.split x n) in
    ap (low (n + k)) e ∙ low-append n k (x % 2 ^ n) (x / 2 ^ n) (mod-lt x (pow.pow_pos n))

-- bits above the lowest n do not matter to those
low_rest : (n x : ℕ) → low n x ≡ low n (x % 2 ^ n)
low_rest n x =
    let e : n ≡ n + 0 = omega arith in
    ap (λ (k : ℕ). low k x) e ∙ low_parts n 0 x ∙ append-nil (low n (x % 2 ^ n))

-- the lowest n bits of a number and the k above them
low-split : (n k x : ℕ) → low (n + k) x ≡ low n x ++ low k (x / 2 ^ n)
low-split n k x = low_parts n k x ∙ ap (λ (l : List ℕ). l ++ low k (x / 2 ^ n)) (sym (low_rest n x))

-- eight bits as a byte
word-eight : (x : ℕ) → word (low 8 x) ≡ x % 256
word-eight x = omega arith

-- the highest byte of a window of h + 8 bits goes out before the byte n that did
window_out : (o before : List ℕ) (h a n : ℕ) → length before + h ≡ 8 * n
    → sets o 0 (bytes_of (before ++ low (h + 8) a)) ≡ sets (set o n (a / 2 ^ h % 256)) 0 (bytes_of (before ++ low h a))
window_out o before h a n e =
    let x = a / 2 ^ h in
    let b = before ++ low h a in
    let l : length b ≡ 8 * n = omega (arith, length-append before (low h a), length-low h a) in
    ap (λ (y : List ℕ). sets o 0 (bytes_of (before ++ y))) (low-split h 8 a)
    ∙ ap (λ (y : List ℕ). sets o 0 (bytes_of y)) (sym (append_assoc before (low h a) (low 8 x)))
    ∙ byte_out o b (low 8 x) n l (length-low 8 x)
    ∙ ap (λ (y : ℕ). sets (set o n y) 0 (bytes_of b)) (word-eight x)

-- the number above h bits
pub shifted_one : (h : ℕ) → h < 8 → 1 * 2 ^ h % 2 ^ 64 ≡ 2 ^ h
shifted_one h l = shifted 1 1 h (omega arith) (omega arith) ∙ one-mul (2 ^ h)

-- ---- the loop: of a window a, a word's bits and above them those held, h bits are not yet out

pub record Going (o : List ℕ) (w : Front) (u : Word) (a : ℕ) (o' : List ℕ) (h p : ℕ) : Type 0 where
  pub most : h ≤ 64
  pub free : h ≤ 8 * p
  pub inside : p ≤ length o'
  pub kept : length o' ≡ length o
  pub placed : 8 * p + w.held + u.len ≡ 8 * w.place + h
  pub fills : (before : List ℕ) → length before + h ≡ 8 * p → filled o w (before ++ low u.len u.bits) ≡ sets o' 0 (bytes_of (before ++ low h a))

-- nothing is out yet
pub going_start : (o : List ℕ) (w : Front) (u : Word) → Room o w u.len → u.bits < 2 ^ u.len → u.len ≤ 57
    → Going o w u (u.bits + w.bits * 2 ^ u.len) o (u.len + w.held) w.place
unfolding filled
going_start o w u r s l = record {
  most = omega (arith, r.short);
  free = r.free;
  inside = r.inside;
  kept = refl;
  placed = omega arith;
  fills = λ before e. ap (λ (y : List ℕ). sets o 0 (bytes_of y)) (window_front before u.len w.held u.bits w.bits s);
}

module _ (o : List ℕ) (w : Front) (u : Word) (a : ℕ) (o' : List ℕ) (h p : ℕ) (g : Going o w u a o' h p) where
  -- a byte more is out
  pub going_on : 8 ≤ h → Going o w u a (set o' (p - 1) (a / 2 ^ (h - 8) % 256)) (h - 8) (p - 1)
  going_on l =
      let k = length-set o' (p - 1) (a / 2 ^ (h - 8) % 256) in
      let e : h ≡ h - 8 + 8 = omega arith in
      record {
        most = omega (arith, g.most);
        free = omega (arith, g.free);
        inside = omega (arith, k, g.inside);
        kept = k ∙ g.kept;
        placed = omega (arith, g.placed, g.free);
        fills = λ before q.
            g.fills before (omega (arith, q, g.free))
            ∙ ap (λ (i : ℕ). sets o' 0 (bytes_of (before ++ low i a))) e
            ∙ window_out o' before (h - 8) a (p - 1) q;
      }

  -- no whole byte is left
  pub going_stop : h < 8 → (d : ℕ) → Moved o w (low u.len u.bits) o' record { done = d; bits = a % 2 ^ h; held = h; place = p }
  unfolding filled
  going_stop l d = record {
    small = mod-lt a (pow.pow_pos h);
    short = l;
    placed = omega (arith, g.placed, length-low u.len u.bits);
    fills = λ before q. g.fills before q ∙ ap (λ (y : List ℕ). sets o' 0 (bytes_of (before ++ y))) (low_rest h a);
  }
