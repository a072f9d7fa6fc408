-- An output whose first places are written one after the other.
-- Assumes nothing.
use mathlib.Core.Path.{◌≡◌, ◌∙◌, sym, ap}
use mathlib.Core.List.{List, [], ◌∷◌, ◌++◌}
use Prim.Native.Nat.{ℕ, ◌+◌, ◌-◌, ◌≤◌, ◌<◌}
use native.Mathlib.Omega.{arith}
use native.Mathlib.Numerals.{add-one}
use lib.ListN.{length, take, drop, set, length-append, length-drop, take-append-drop}
use lib.Seq.{take-suc-set, drop-set-lt, drop-drop, drop-append-add, take-append_seam, length-take-le}
use Rattle.pick_passes.specs.Output.{written}

-- one place more
pub front_snoc : (xs : List ℕ) (n v : ℕ) → n < length xs → take (n + 1) (set xs n v) ≡ take n xs ++ (v ∷ [])
front_snoc xs n v h = rw (add-one n) (take-suc-set xs n v h)

-- what lies past it is kept
pub past-kept : (xs ys : List ℕ) (n v : ℕ) → drop n xs ≡ drop n ys → drop (n + 1) (set xs n v) ≡ drop (n + 1) ys
past-kept xs ys n v e =
    drop-set-lt (n + 1) xs n v (omega arith) ∙ sym (drop-drop 1 n xs) ∙ ap (λ (l : List ℕ). drop 1 l) e ∙ drop-drop 1 n ys

-- so the output is its front, written
pub front_written : (xs ys : List ℕ) (n : ℕ) → n ≤ length xs → drop n xs ≡ drop n ys → xs ≡ written (take n xs) ys
front_written xs ys n h e =
    sym (take-append-drop n xs) ∙ ap (λ (l : List ℕ). take n xs ++ l) (e ∙ ap (λ (k : ℕ). drop k ys) (sym (length-take-le n xs h)))

pub take_written : (xs ys : List ℕ) → take (length xs) (written xs ys) ≡ xs
take_written xs ys = take-append_seam xs (drop (length xs) ys)

-- a longer list written over a shorter
pub written_over : (xs zs ys : List ℕ) → length xs ≤ length zs → written zs (written xs ys) ≡ written zs ys
written_over xs zs ys h =
    let k = length zs - length xs in
    let e : length zs ≡ length xs + k = omega arith in
    let d : drop (length xs + k) (written xs ys) ≡ drop (length xs + k) ys = drop-append-add xs (drop (length xs) ys) k ∙ drop-drop k (length xs) ys in
    ap (λ (l : List ℕ). zs ++ l) (ap (λ (n : ℕ). drop n (written xs ys)) e ∙ d ∙ ap (λ (n : ℕ). drop n ys) (sym e))

pub length_written_lem : (xs ys : List ℕ) → length xs ≤ length ys → length (written xs ys) ≡ length ys
length_written_lem xs ys h = omega (arith, length-append xs (drop (length xs) ys), length-drop (length xs) ys)
