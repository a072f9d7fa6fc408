-- Laws of the generator: the seeded start, draws one after the other, and that no draw is 0. Assumes nothing.
use mathlib.Core.Path.{◌≡◌, ◌∙◌, refl, sym, ap}
use Prim.Native.Nat.{ℕ, zero, suc, ◌+◌, ◌*◌, ◌/◌, ◌%◌, ◌^◌, ◌<◌}
use mathlib.Core.Logic.{◌≢◌}
use native.Mathlib.Decide.{ℕ_discrete}
use native.Mathlib.Omega.{arith}
use native.Mathlib.Nat.{mul_assoc, mod-lt, pow-suc, pow-succ'}
use lib.Dec.{lit<}
use lib.Arith.{mod-mul}
use lib.Pow.{pow_pos}
use borrow.Author.Tests.{eq-eqb, ne_eqb}
use lib.Bits.{bit_xor, xor_add_and, and_le_l, and_le_r, xor_lt}
use Rattle.load_draws.specs.Draw.{up, down, next, draw, seeded_by, drawn_after}
use Rattle.load_draws.specs.declared.Generator.{Generator}
use Rattle.refusals.specs.declared.Refusal.{Refusal}
use Rattle.refusals.specs.declared.Refusal.TheVariants as refusal
use Rattle.std.specs.Prelude.{Ok, Err}

-- ---- the seeded start

pub seeded-zero : (s : ℕ) → s ≡ 0 → seeded_by s ≡ Err refusal.Load
unfolding seeded_by
seeded-zero s h = rw (eq-eqb s 0 h)

pub seeded-some : (s : ℕ) → s ≢ 0 → seeded_by s ≡ Ok (record { state = s })
unfolding seeded_by
seeded-some s h = rw (ne_eqb s 0 h)

-- what a start says of its seed, and what a refusal does
pub started : (s : ℕ) (g : Generator) → seeded_by s ≡ Ok g → (s ≢ 0) × (g.state ≡ s)
started s g e = go (ℕ_discrete s 0)
  where
    go : Dec (s ≡ 0) → (s ≢ 0) × (g.state ≡ s)
    go (yes z) = let q = sym (seeded-zero s z) ∙ e in cc
    go (no z) = let q = sym (seeded-some s z) ∙ e in (z, cc)

pub not_started : (s : ℕ) (r : Refusal) → seeded_by s ≡ Err r → (s ≡ 0) × (r ≡ refusal.Load)
not_started s r e = go (ℕ_discrete s 0)
  where
    go : Dec (s ≡ 0) → (s ≡ 0) × (r ≡ refusal.Load)
    go (yes z) = let q = sym (seeded-zero s z) ∙ e in (z, cc)
    go (no z) = let q = sym (seeded-some s z) ∙ e in cc

-- a draw from a plain number
pub drawn-zero : (s : ℕ) → s ≡ 0 → drawn_after s ≡ Err refusal.Load
unfolding drawn_after
drawn-zero s h = rw (eq-eqb s 0 h)

pub drawn-some : (s : ℕ) → s ≢ 0 → drawn_after s ≡ Ok (next s)
unfolding drawn_after
drawn-some s h = rw (ne_eqb s 0 h)

-- ---- draws one after the other

-- the draw after draw number i is number i + 1
pub draw-next : (i s : ℕ) → draw (suc i) s ≡ next (draw i s)
unfolding draw
draw-next zero s = refl
draw-next (suc i) s = draw-next i (next s)

-- ---- no draw is 0

-- only equal numbers xor to 0: what is left of their sum is twice the digits that they share, and they share no more than either has
xor-zero : (a b : ℕ) → bit_xor a b ≡ 0 → a ≡ b
xor-zero a b e = omega (arith, xor_add_and a b, and_le_l a b, and_le_r a b)

-- A number of j bits that stays as it is when it is moved up is 0: it is even, and half of it has one bit less and stays as it is.
up-zero : (j k s : ℕ) → s < 2 ^ j → s * 2 ^ suc k % 2 ^ j ≡ s → s ≡ 0
up-zero zero k s h e = omega arith
up-zero (suc j) k s h e =
    let twice : (x : ℕ) → x * 2 ^ suc k ≡ x * 2 ^ k * 2 = λ x. ap (λ (p : ℕ). x * p) (pow-suc 2 k) ∙ sym (mul_assoc x (2 ^ k) 2) in
    let parts : s * 2 ^ suc k % (2 ^ j * 2) ≡ s * 2 ^ suc k / 2 % 2 ^ j * 2 + s * 2 ^ suc k % 2 = mod-mul (s * 2 ^ suc k) (pow_pos j) (lit< tt) in
    let whole : s * 2 ^ suc k % (2 ^ j * 2) ≡ s = ap (λ (p : ℕ). s * 2 ^ suc k % p) (sym (pow-suc 2 j)) ∙ e in
    let even : s * 2 ^ suc k % 2 ≡ 0 = omega (arith, twice s) in
    let half : s * 2 ^ suc k / 2 ≡ s * 2 ^ k = omega (arith, twice s) in
    let double : s ≡ s / 2 * 2 = omega (arith, parts, whole, even) in
    let again : s * 2 ^ k ≡ s / 2 * 2 ^ suc k = ap (λ (x : ℕ). x * 2 ^ k) double ∙ mul_assoc (s / 2) 2 (2 ^ k) ∙ ap (λ (p : ℕ). s / 2 * p) (sym (pow-succ' 2 k)) in
    let stays : s / 2 * 2 ^ suc k % 2 ^ j ≡ s / 2 = ap (λ (x : ℕ). x % 2 ^ j) (sym again ∙ sym half) ∙ omega (arith, parts, whole, even, double) in
    let small : s / 2 < 2 ^ j = omega (arith, pow-suc 2 j) in
    omega (arith, double, up-zero j k (s / 2) small stays)

up-some : (k s : ℕ) → s < 2 ^ 64 → s ≢ 0 → up (suc k) s ≢ 0
unfolding up
up-some k s h z e = z (up-zero 64 k s h (sym (xor-zero s (s * 2 ^ suc k % 2 ^ 64) e)))

down-some : (s : ℕ) → s ≢ 0 → down 7 s ≢ 0
unfolding down
down-some s z e = z (omega (arith, xor-zero s (s / 2 ^ 7) e))

-- numbers of 64 bits stay so
up_lt : (k s : ℕ) → s < 2 ^ 64 → up k s < 2 ^ 64
unfolding up
up_lt k s h = xor_lt 64 s (s * 2 ^ k % 2 ^ 64) h (mod-lt (s * 2 ^ k) (pow_pos 64))

down_lt : (s : ℕ) → s < 2 ^ 64 → down 7 s < 2 ^ 64
unfolding down
down_lt s h = xor_lt 64 s (s / 2 ^ 7) h (omega arith)

pub next_lt : (s : ℕ) → s < 2 ^ 64 → next s < 2 ^ 64
unfolding next
next_lt s h = up_lt 17 (down 7 (up 13 s)) (down_lt (up 13 s) (up_lt 13 s h))

pub next-some : (s : ℕ) → s < 2 ^ 64 → s ≢ 0 → next s ≢ 0
unfolding next
next-some s h z = up-some 16 (down 7 (up 13 s)) (down_lt (up 13 s) (up_lt 13 s h)) (down-some (up 13 s) (up-some 12 s h z))

-- document 02, CR 6, wanted too: from a seed that is not 0 the generator never comes to 0
pub never-zero : (i s : ℕ) → s < 2 ^ 64 → s ≢ 0 → draw i s ≢ 0
unfolding draw
never-zero zero s h z = z
never-zero (suc i) s h z = never-zero i (next s) (next_lt s h) (next-some s h z)
