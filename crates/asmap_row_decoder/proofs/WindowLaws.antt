-- A code read from a window of the map is the code of the map: the decoder's one law, over least value and sizes.
-- Assumes nothing.
use mathlib.Core.Path.{◌≡◌, ◌∙◌, refl, sym, ap}
use mathlib.Core.List.{List, [], ◌∷◌}
use Prim.Native.Nat.{ℕ, zero, suc, ◌+◌, ◌-◌, ◌*◌, ◌/◌, ◌%◌, ◌^◌, ◌≤◌, ◌<◌}
use native.Mathlib.Nat.{div-div-eq-div-mul, pow-succ', div-one}
use native.Mathlib.Decide.{dec_le}
use native.Mathlib.Omega.{arith}
use borrow.Author.Tests.{eq-eqb, ne_eqb, le-leb, lt-leb}
use lib.ListN.{length, get_or, take, drop, drop_of_length-le}
use Rattle.asmap_codes.specs.Bits.{low, map_bits}
use Rattle.asmap_codes.specs.Row.{Row, longest}
use Rattle.asmap_codes.specs.Code.{tail, code, code_at}
use Rattle.asmap_window.specs.models.Window.{Window}
use Rattle.asmap_row_decoder.specs.models.InWindow.{Holds, tail_in, code_in, row_in}
use Rattle.asmap_codes.proofs.BitLaws.{length_left}
use Rattle.asmap_codes.proofs.CodeLaws.{heads}
use Rattle.asmap_codes.specs.Reading.{Cut}

-- one bit on
pub window_tail : (n w b : ℕ) (bs : List ℕ) → Window (suc n) w (b ∷ bs) → Window n (w / 2) bs
window_tail n w b bs h i l =
    ap (λ (k : ℕ). k % 2) (div-div-eq-div-mul w 2 (2 ^ i) ∙ ap (λ (k : ℕ). w / k) (sym (pow-succ' 2 i))) ∙ h (suc i) (omega arith)

window_head : (n w : ℕ) (bs : List ℕ) → Window (suc n) w bs → w % 2 ≡ get_or bs 0 0
window_head n w bs h = ap (λ (k : ℕ). k % 2) (sym (div-one w)) ∙ h 0 (omega arith)

window_less : (n k w : ℕ) (bs : List ℕ) → k ≤ n → Window n w bs → Window k w bs
window_less n k w bs l h i q = h i (omega arith)

low-window : (n w : ℕ) (bs : List ℕ) → n ≤ length bs → Window n w bs → low n w ≡ take n bs
low-window zero w bs l h = refl
low-window (suc n) w [] l h = absurd (omega arith)
low-window (suc n) w (b ∷ bs) l h = rw (window_head n w (b ∷ bs) h) (ap (◌∷◌ b) (low-window n (w / 2) bs (omega arith) (window_tail n w b bs h)))

tail-window : (s v at end w : ℕ) (bs : List ℕ) → length bs ≡ end - at → at ≤ end → Window s w bs → tail_in s v at end w ≡ tail s v at bs
tail-window s v at end w bs e l h = go (dec_le s (length bs))
  where
    go : Dec (s ≤ length bs) → tail_in s v at end w ≡ tail s v at bs
    go (yes k) = rw (le-leb s (length bs) k, le-leb (at + s) end (omega arith), low-window s w bs k h)
    go (no k) = rw (lt-leb s (length bs) (omega arith), lt-leb (at + s) end (omega arith))

tail_past : (s v at end w : ℕ) → end < at → tail_in s v at end w ≡ Cut
tail_past s v at end w h = rw (lt-leb (at + s) end (omega arith))

code-window_last : (s v at end w n : ℕ) (bs : List ℕ) → length bs ≡ end - at → at ≤ end → s ≤ n → Window n w bs
    → tail_in s v at end w ≡ tail s v at bs
code-window_last s v at end w n bs e l r h = tail-window s v at end w bs e l (window_less n s w bs r h)

-- at the end of the map, or past it, the window's zero stops the code at once, and its end lies past the map's
code-window_end : (s t : ℕ) (ss : List ℕ) (v at end w n : ℕ) → end ≤ at → Window (suc n) w [] → code_in (s ∷ t ∷ ss) v at end w ≡ Cut
unfolding code_in
code-window_end s t ss v at end w n e h =
    rw (eq-eqb (w % 2) 0 (window_head n w [] h)) (tail_past s v (at + 1) end (w / 2) (omega arith))

code-window_stop : (s t : ℕ) (ss : List ℕ) (v at end w n : ℕ) (bs : List ℕ) → suc (length bs) ≡ end - at → s ≤ n → Window (suc n) w (0 ∷ bs)
    → code_in (s ∷ t ∷ ss) v at end w ≡ tail s v (at + 1) bs
unfolding code_in
code-window_stop s t ss v at end w n bs e r h =
    rw (eq-eqb (w % 2) 0 (window_head n w (0 ∷ bs) h))
    (code-window_last s v (at + 1) end (w / 2) n bs (omega arith) (omega arith) r (window_tail n w 0 bs h))

code-window_more : (s t : ℕ) (ss : List ℕ) (v at end w n b : ℕ) (bs : List ℕ) → Window (suc n) w (suc b ∷ bs)
    → code_in (s ∷ t ∷ ss) v at end w ≡ code_in (t ∷ ss) (v + 2 ^ s) (at + 1) end (w / 2)
unfolding code_in
code-window_more s t ss v at end w n b bs h = rw (ne_eqb (w % 2) 0 (omega (arith, window_head n w (suc b ∷ bs) h)))

code_in_none : (v at end w : ℕ) → code_in [] v at end w ≡ Cut
unfolding code_in
code_in_none v at end w = refl

code_in_last : (s v at end w : ℕ) → code_in (s ∷ []) v at end w ≡ tail_in s v at end w
unfolding code_in
code_in_last s v at end w = refl

-- inside the map: from a place at or before its end
inside : (ss : List ℕ) (v at end w n : ℕ) (bs : List ℕ) → length bs ≡ end - at → at ≤ end → longest ss ≤ n → Window n w bs
    → code_in ss v at end w ≡ code ss v at bs
inside [] v at end w n bs e l r h = code_in_none v at end w
inside (s ∷ []) v at end w n bs e l r h = code_in_last s v at end w ∙ code-window_last s v at end w n bs e l r h
inside (s ∷ t ∷ ss) v at end w zero bs e l r h = absurd (omega arith)
inside (s ∷ t ∷ ss) v at end w (suc n) [] e l r h = code-window_end s t ss v at end w n (omega arith) h
inside (s ∷ t ∷ ss) v at end w (suc n) (zero ∷ bs) e l r h = code-window_stop s t ss v at end w n bs e (omega arith) h
inside (s ∷ t ∷ ss) v at end w (suc n) (suc b ∷ bs) e l r h =
    code-window_more s t ss v at end w n b bs h
    ∙ inside (t ∷ ss) (v + 2 ^ s) (at + 1) end (w / 2) n bs (omega arith) (omega arith) (omega arith) (window_tail n w (suc b) bs h)

-- anywhere, for a row of two sizes at least
pub code-window : (ss : List ℕ) (v at end w n : ℕ) (bs : List ℕ) → length bs ≡ end - at → 1 < length ss → longest ss ≤ n → Window n w bs
    → code_in ss v at end w ≡ code ss v at bs
code-window ss v at end w n bs e k r h = go (dec_le at end)
  where
    beyond : (l : List ℕ) → 1 < length l → longest l ≤ n → (cs : List ℕ) → length cs ≡ 0 → Window n w cs → end < at → code_in l v at end w ≡ code l v at cs
    beyond [] x y cs z q u = absurd (omega arith)
    beyond (s ∷ []) x y cs z q u = absurd (omega arith)
    beyond (s ∷ t ∷ l) x y (c ∷ cs) z q u = absurd (omega arith)
    beyond (s ∷ t ∷ l) x y [] z q u = code-window_end s t l v at end w (n - 1) (omega arith) (λ i o. q i (omega arith))

    go : Dec (at ≤ end) → code_in ss v at end w ≡ code ss v at bs
    go (yes l) = inside ss v at end w n bs e l r h
    go (no l) = beyond ss k r bs (omega arith) h (omega arith)

-- a window of a map that holds the row's code
pub row-window : (m : List ℕ) (at w : ℕ) (row : Row) → 1 < length row.sizes → Holds row m at w
    → row_in row at (8 * length m) w ≡ code_at m at row
row-window m at w row k h =
    code-window row.sizes row.least at (8 * length m) w (longest row.sizes) (drop at (map_bits m)) (length_left m at) k (omega arith) h

-- a window of 57 bits holds the code of each row
pub window-holds : (m : List ℕ) (at w : ℕ) (row : Row) → longest row.sizes ≤ 55 → Window 57 w (drop at (map_bits m)) → Holds row m at w
window-holds m at w row l h = window_less 57 (longest row.sizes) w (drop at (map_bits m)) (omega arith) h

-- ---- the decoder's turns

pub turn_more : (ss : List ℕ) (v at end w i : ℕ) → i + 1 < length ss → w % 2 ≡ 1
    → code_in (drop i ss) v at end w ≡ code_in (drop (i + 1) ss) (v + 2 ^ get_or ss i 0) (at + 1) end (w / 2)
unfolding code_in
turn_more ss v at end w i h e =
    rw (heads ss i (omega arith), heads ss (i + 1) h, ne_eqb (w % 2) 0 (omega arith))

pub turn_stop : (ss : List ℕ) (v at end w i : ℕ) → i + 1 < length ss → w % 2 ≡ 0
    → code_in (drop i ss) v at end w ≡ tail_in (get_or ss i 0) v (at + 1) end (w / 2)
unfolding code_in
turn_stop ss v at end w i h e = rw (heads ss i (omega arith), heads ss (i + 1) h, eq-eqb (w % 2) 0 e)

pub turn_last : (ss : List ℕ) (v at end w i : ℕ) → i + 1 ≡ length ss → code_in (drop i ss) v at end w ≡ tail_in (get_or ss i 0) v at end w
unfolding code_in
turn_last ss v at end w i h = rw (heads ss i (omega arith), drop_of_length-le ss {i = i + 1} (omega arith))
