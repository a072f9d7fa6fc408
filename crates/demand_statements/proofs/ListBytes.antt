-- The records of pieces, read back from their bytes; and an address as a number, by its bits and by its bytes.
-- Assumes nothing.
use Prim.Native.Nat.{ℕ, zero, suc, ◌+◌, ◌-◌, ◌*◌, ◌/◌, ◌%◌, ◌^◌, ◌≤◌, ◌<◌}
use mathlib.Core.Path.{◌≡◌, refl, sym, ap, subst, ◌∙◌}
use mathlib.Core.List.{List, [], ◌∷◌, ◌++◌}
use native.Mathlib.Nat.{zero-add, div-add-mod', div-one, mod-lt, div-lt_iff_lt-mul}
use native.Mathlib.Omega.{arith}
use lib.ListN.{take, get_or}
use lib.Seq.{get_or-take, get_or-drop}
use Rattle.asmap_program.specs.Map.{address_bit, bit_of}
use Rattle.byte_numbers.specs.Numbers.{bytes4}
use Rattle.byte_numbers.proofs.NumberLaws.{AllBytes, number_of-bytes, number4-drop}
use Rattle.prefix_records.specs.Tiling.{Piece, first_of, number_of}
use Rattle.prefix_records.specs.Record.{address_bytes, record_of, records_of}
use Rattle.prefix_records.proofs.PlaceLaws.{At}
use Rattle.demand_statements.specs.Walked.{little}
use Rattle.demand_statements.specs.Listed.{eight, address, first, prefix, number}

-- ---- eight bytes

by-eight : (x x₀ a a₀ b b₀ c c₀ d d₀ e e₀ f f₀ g : ℕ) → x ≡ 256 * a + x₀ → a ≡ 256 * b + a₀ → b ≡ 256 * c + b₀ → c ≡ 256 * d + c₀ → d ≡ 256 * e + d₀ → e ≡ 256 * f + e₀ → f ≡ 256 * g + f₀
    → 72057594037927936 * g + 281474976710656 * f₀ + 1099511627776 * e₀ + 4294967296 * d₀ + 16777216 * c₀ + 65536 * b₀ + 256 * a₀ + x₀ ≡ x
by-eight x x₀ a a₀ b b₀ c c₀ d d₀ e e₀ f f₀ g p q r s t u v = omega arith

-- the number that eight bytes of a number are
eight_of : (x : ℕ) → x < 18446744073709551616
    → 72057594037927936 * (x / 72057594037927936 % 256) + 281474976710656 * (x / 281474976710656 % 256) + 1099511627776 * (x / 1099511627776 % 256) + 4294967296 * (x / 4294967296 % 256)
    + 16777216 * (x / 16777216 % 256) + 65536 * (x / 65536 % 256) + 256 * (x / 256 % 256) + x % 256 ≡ x
eight_of x h =
    let a : x ≡ 256 * (x / 256) + x % 256 = omega arith in
    let b : x / 256 ≡ 256 * (x / 65536) + x / 256 % 256 = let e : x / 65536 ≡ x / 256 / 256 = omega arith in rw e (omega arith) in
    let c : x / 65536 ≡ 256 * (x / 16777216) + x / 65536 % 256 = let e : x / 16777216 ≡ x / 65536 / 256 = omega arith in rw e (omega arith) in
    let d : x / 16777216 ≡ 256 * (x / 4294967296) + x / 16777216 % 256 = let e : x / 4294967296 ≡ x / 16777216 / 256 = omega arith in rw e (omega arith) in
    let f : x / 4294967296 ≡ 256 * (x / 1099511627776) + x / 4294967296 % 256 = let e : x / 1099511627776 ≡ x / 4294967296 / 256 = omega arith in rw e (omega arith) in
    let g : x / 1099511627776 ≡ 256 * (x / 281474976710656) + x / 1099511627776 % 256 = let e : x / 281474976710656 ≡ x / 1099511627776 / 256 = omega arith in rw e (omega arith) in
    let i : x / 281474976710656 ≡ 256 * (x / 72057594037927936) + x / 281474976710656 % 256 = let e : x / 72057594037927936 ≡ x / 281474976710656 / 256 = omega arith in rw e (omega arith) in
    let j : x / 72057594037927936 % 256 ≡ x / 72057594037927936 = omega arith in
    ap (λ (n : ℕ). 72057594037927936 * n + 281474976710656 * (x / 281474976710656 % 256) + 1099511627776 * (x / 1099511627776 % 256) + 4294967296 * (x / 4294967296 % 256) + 16777216 * (x / 16777216 % 256) + 65536 * (x / 65536 % 256) + 256 * (x / 256 % 256) + x % 256) j
    ∙ by-eight x (x % 256) (x / 256) (x / 256 % 256) (x / 65536) (x / 65536 % 256) (x / 16777216) (x / 16777216 % 256) (x / 4294967296) (x / 4294967296 % 256) (x / 1099511627776) (x / 1099511627776 % 256) (x / 281474976710656) (x / 281474976710656 % 256) (x / 72057594037927936) a b c d f g i

-- ---- the record of a piece

-- Record number j of the bytes o is that of a piece. Its number is read back where it has 32 bits.
pub record Reads (o : List ℕ) (j : ℕ) (p : Piece) : Type 0 where
  pub from : first o j ≡ first_of 128 p
  pub length : prefix o j ≡ p.length
  pub number : p.number < 4294967296 → number o j ≡ p.number

address_of : (x : ℕ) (rest : List ℕ) → x < 2 ^ 64 * 2 ^ 64 → address (address_bytes x ++ rest) 0 ≡ x
address_of x rest h =
    let a : x / 2 ^ 64 < 18446744073709551616 = (div-lt_iff_lt-mul {k = 2 ^ 64} {x = x} {y = 2 ^ 64} (omega arith)).1 h in
    let b : x % 2 ^ 64 < 18446744073709551616 = mod-lt x (omega arith) in
    ap (λ (n : ℕ). n * 2 ^ 64 + eight (address_bytes x ++ rest) 8) (eight_of (x / 2 ^ 64) a)
    ∙ ap (λ (n : ℕ). x / 2 ^ 64 * 2 ^ 64 + n) (eight_of (x % 2 ^ 64) b)
    ∙ div-add-mod' x (2 ^ 64)

here : (p : Piece) (rest : List ℕ) → first_of 128 p < 2 ^ 64 * 2 ^ 64 → Reads (record_of p ++ rest) 0 p
here p rest h = record { from = address_of (first_of 128 p) ((p.length ∷ 0 ∷ 0 ∷ 0 ∷ []) ++ bytes4 p.number ++ rest) h; length = refl; number = λ l. number_of-bytes p.number l }

there : (x p : Piece) (rest : List ℕ) (j : ℕ) → Reads rest j p → Reads (record_of x ++ rest) (suc j) p
there x p rest j r =
    let l = record_of x ++ rest in
    let at : (k : ℕ) → get_or l (24 * suc j + k) 0 ≡ get_or rest (24 * j + k) 0
    = λ k. let e : 24 * suc j + k ≡ 24 + (24 * j + k) = omega arith in ap (λ (n : ℕ). get_or l n 0) e ∙ sym (get_or-drop 24 l (24 * j + k) 0) in
    let z : get_or l (24 * suc j) 0 ≡ get_or rest (24 * j) 0 = let e : 24 * suc j ≡ 24 + 24 * j = omega arith in ap (λ (n : ℕ). get_or l n 0) e ∙ sym (get_or-drop 24 l (24 * j) 0) in
    let f : eight l (24 * suc j) ≡ eight rest (24 * j) = rw (z, at 1, at 2, at 3, at 4, at 5, at 6, at 7) in
    let up : (k i : ℕ) → get_or l (24 * suc j + 8 + i) 0 ≡ get_or rest (24 * j + 8 + i) 0
    = λ k i. let e : 24 * suc j + 8 + i ≡ 24 + (24 * j + 8 + i) = omega arith in ap (λ (n : ℕ). get_or l n 0) e ∙ sym (get_or-drop 24 l (24 * j + 8 + i) 0) in
    let g : eight l (24 * suc j + 8) ≡ eight rest (24 * j + 8) = rw (at 8, up 0 1, up 0 2, up 0 3, up 0 4, up 0 5, up 0 6, up 0 7) in
    let n : little l (24 * suc j + 20) ≡ little rest (24 * j + 20)
    = let e : 24 * suc j + 20 ≡ 24 + (24 * j + 20) = omega arith in ap (little l) e ∙ sym (number4-drop l 24 (24 * j + 20)) in
    record {
      from = ap (λ (y : ℕ). y * 2 ^ 64 + eight l (24 * suc j + 8)) f ∙ ap (λ (y : ℕ). eight rest (24 * j) * 2 ^ 64 + y) g ∙ r.from;
      length = at 16 ∙ r.length;
      number = λ h. n ∙ r.number h;
    }

pub reads : (ps : List Piece) → ((j : ℕ) (q : Piece) → At ps j q → first_of 128 q < 2 ^ 64 * 2 ^ 64) → (j : ℕ) (p : Piece) → At ps j p → Reads (records_of ps) j p
reads [] h j p a = absurd a
reads (x ∷ ps) h zero p a = subst (λ (q : Piece). Reads (records_of (x ∷ ps)) 0 q) a (here x (records_of ps) (h 0 x refl))
reads (x ∷ ps) h (suc j) p a = there x p (records_of ps) j (reads ps (λ k q b. h (suc k) q b) j p a)

-- ---- the bytes that were written

pub in_front : (n : ℕ) (o : List ℕ) (j : ℕ) (p : Piece) → 24 * j + 24 ≤ n → Reads (take n o) j p → Reads o j p
in_front n o j p h r =
    let at : (k : ℕ) → k < 24 → get_or (take n o) (24 * j + k) 0 ≡ get_or o (24 * j + k) 0 = λ k l. get_or-take n o (24 * j + k) 0 (omega arith) in
    let up : (b k : ℕ) → b + k < 24 → get_or (take n o) (24 * j + b + k) 0 ≡ get_or o (24 * j + b + k) 0 = λ b k l. get_or-take n o (24 * j + b + k) 0 (omega arith) in
    let z = get_or-take n o (24 * j) 0 (omega arith) in
    let f : eight (take n o) (24 * j) ≡ eight o (24 * j)
    = rw (z, at 1 (omega arith), at 2 (omega arith), at 3 (omega arith), at 4 (omega arith), at 5 (omega arith), at 6 (omega arith), at 7 (omega arith)) in
    let g : eight (take n o) (24 * j + 8) ≡ eight o (24 * j + 8)
    = rw (at 8 (omega arith), up 8 1 (omega arith), up 8 2 (omega arith), up 8 3 (omega arith), up 8 4 (omega arith), up 8 5 (omega arith), up 8 6 (omega arith), up 8 7 (omega arith)) in
    let m : little (take n o) (24 * j + 20) ≡ little o (24 * j + 20)
    = rw (at 20 (omega arith), up 20 1 (omega arith), up 20 2 (omega arith), up 20 3 (omega arith)) in
    record {
      from = sym (ap (λ (y : ℕ). y * 2 ^ 64 + eight (take n o) (24 * j + 8)) f ∙ ap (λ (y : ℕ). eight o (24 * j) * 2 ^ 64 + y) g) ∙ r.from;
      length = sym (at 16 (omega arith)) ∙ r.length;
      number = λ l. sym m ∙ r.number l;
    }

-- ---- an address by its bits, and by its bytes

by_two : (b b₀ c c₀ d d₀ e e₀ f f₀ g g₀ h h₀ i : ℕ) → b ≡ 2 * c + b₀ → c ≡ 2 * d + c₀ → d ≡ 2 * e + d₀ → e ≡ 2 * f + e₀ → f ≡ 2 * g + f₀ → g ≡ 2 * h + g₀ → h ≡ 2 * i + h₀
    → 128 * i + 64 * h₀ + 32 * g₀ + 16 * f₀ + 8 * e₀ + 4 * d₀ + 2 * c₀ + b₀ ≡ b
by_two b b₀ c c₀ d d₀ e e₀ f f₀ g g₀ h h₀ i p q r s t u v = omega arith

-- a byte is its bits
bits_of : (b : ℕ) → b < 256
    → 128 * (b / 128 % 2) + 64 * (b / 64 % 2) + 32 * (b / 32 % 2) + 16 * (b / 16 % 2) + 8 * (b / 8 % 2) + 4 * (b / 4 % 2) + 2 * (b / 2 % 2) + b % 2 ≡ b
bits_of b h =
    let p : b ≡ 2 * (b / 2) + b % 2 = omega arith in
    let q : b / 2 ≡ 2 * (b / 4) + b / 2 % 2 = let e : b / 4 ≡ b / 2 / 2 = omega arith in rw e (omega arith) in
    let r : b / 4 ≡ 2 * (b / 8) + b / 4 % 2 = let e : b / 8 ≡ b / 4 / 2 = omega arith in rw e (omega arith) in
    let s : b / 8 ≡ 2 * (b / 16) + b / 8 % 2 = let e : b / 16 ≡ b / 8 / 2 = omega arith in rw e (omega arith) in
    let t : b / 16 ≡ 2 * (b / 32) + b / 16 % 2 = let e : b / 32 ≡ b / 16 / 2 = omega arith in rw e (omega arith) in
    let u : b / 32 ≡ 2 * (b / 64) + b / 32 % 2 = let e : b / 64 ≡ b / 32 / 2 = omega arith in rw e (omega arith) in
    let v : b / 64 ≡ 2 * (b / 128) + b / 64 % 2 = let e : b / 128 ≡ b / 64 / 2 = omega arith in rw e (omega arith) in
    let w : b / 128 % 2 ≡ b / 128 = omega arith in
    ap (λ (n : ℕ). 128 * n + 64 * (b / 64 % 2) + 32 * (b / 32 % 2) + 16 * (b / 16 % 2) + 8 * (b / 8 % 2) + 4 * (b / 4 % 2) + 2 * (b / 2 % 2) + b % 2) w
    ∙ by_two b (b % 2) (b / 2) (b / 2 % 2) (b / 4) (b / 4 % 2) (b / 8) (b / 8 % 2) (b / 16) (b / 16 % 2) (b / 32) (b / 32 % 2) (b / 64) (b / 64 % 2) (b / 128) p q r s t u v

eight_steps : (n₀ n₁ n₂ n₃ n₄ n₅ n₆ n₇ n₈ b₀ b₁ b₂ b₃ b₄ b₅ b₆ b₇ : ℕ)
    → n₁ ≡ 256 * n₀ + b₀ → n₂ ≡ 256 * n₁ + b₁ → n₃ ≡ 256 * n₂ + b₂ → n₄ ≡ 256 * n₃ + b₃ → n₅ ≡ 256 * n₄ + b₄ → n₆ ≡ 256 * n₅ + b₅ → n₇ ≡ 256 * n₆ + b₆ → n₈ ≡ 256 * n₇ + b₇
    → n₈ ≡ n₀ * 18446744073709551616 + (72057594037927936 * b₀ + 281474976710656 * b₁ + 1099511627776 * b₂ + 4294967296 * b₃ + 16777216 * b₄ + 65536 * b₅ + 256 * b₆ + b₇)
eight_steps n₀ n₁ n₂ n₃ n₄ n₅ n₆ n₇ n₈ b₀ b₁ b₂ b₃ b₄ b₅ b₆ b₇ p q r s t u v w = omega arith

module _ (a : List ℕ) (bytes : AllBytes a) where
  byte_bit : (k i u : ℕ) → i < 8 → u ≡ 8 * k + i → address_bit a u ≡ bit_of (get_or a k 0) (7 - i)
  byte_bit k i u h e =
      let p : u / 8 ≡ k = omega arith in
      let q : u % 8 ≡ i = omega arith in
      rw (p, q)

  -- the number that the bits of the first k bytes are
  abbrev N : ℕ → ℕ
  N k = number_of (address_bit a) (8 * k)

  doubled : (n b₇ b₆ b₅ b₄ b₃ b₂ b₁ b₀ : ℕ) → 2 * (2 * (2 * (2 * (2 * (2 * (2 * (2 * n + b₇) + b₆) + b₅) + b₄) + b₃) + b₂) + b₁) + b₀
      ≡ 256 * n + (128 * b₇ + 64 * b₆ + 32 * b₅ + 16 * b₄ + 8 * b₃ + 4 * b₂ + 2 * b₁ + b₀)
  doubled n b₇ b₆ b₅ b₄ b₃ b₂ b₁ b₀ = omega arith

  one_byte : (k u : ℕ) → u ≡ 8 * k → number_of (address_bit a) (suc (suc (suc (suc (suc (suc (suc (suc u)))))))) ≡ 256 * number_of (address_bit a) u + get_or a k 0
  unfolding number_of
  one_byte k u e =
      let b = get_or a k 0 in
      let z : b / 2 ^ 0 % 2 ≡ b % 2 = ap (λ (n : ℕ). n % 2) (div-one b) in
      rw (byte_bit k 0 u (omega arith) (omega arith), byte_bit k 1 (suc u) (omega arith) (omega arith), byte_bit k 2 (suc (suc u)) (omega arith) (omega arith), byte_bit k 3 (suc (suc (suc u))) (omega arith) (omega arith), byte_bit k 4 (suc (suc (suc (suc u)))) (omega arith) (omega arith), byte_bit k 5 (suc (suc (suc (suc (suc u))))) (omega arith) (omega arith), byte_bit k 6 (suc (suc (suc (suc (suc (suc u)))))) (omega arith) (omega arith), byte_bit k 7 (suc (suc (suc (suc (suc (suc (suc u))))))) (omega arith) (omega arith))
      (doubled (number_of (address_bit a) u) (b / 128 % 2) (b / 64 % 2) (b / 32 % 2) (b / 16 % 2) (b / 8 % 2) (b / 4 % 2) (b / 2 % 2) (b / 2 ^ 0 % 2)
      ∙ ap (λ (n : ℕ). 256 * number_of (address_bit a) u + n) (ap (λ (n : ℕ). 128 * (b / 128 % 2) + 64 * (b / 64 % 2) + 32 * (b / 32 % 2) + 16 * (b / 16 % 2) + 8 * (b / 8 % 2) + 4 * (b / 4 % 2) + 2 * (b / 2 % 2) + n) z ∙ bits_of b (bytes k)))

  next : (k : ℕ) → N (suc k) ≡ 256 * N k + get_or a k 0
  next k =
      let e : 8 * suc k ≡ suc (suc (suc (suc (suc (suc (suc (suc (8 * k)))))))) = omega arith in
      ap (number_of (address_bit a)) e ∙ one_byte k (8 * k) refl

  -- eight bytes more
  more : (k : ℕ) → N (suc (suc (suc (suc (suc (suc (suc (suc k)))))))) ≡ N k * 18446744073709551616 + (72057594037927936 * get_or a k 0 + 281474976710656 * get_or a (suc k) 0 + 1099511627776 * get_or a (suc (suc k)) 0 + 4294967296 * get_or a (suc (suc (suc k))) 0
      + 16777216 * get_or a (suc (suc (suc (suc k)))) 0 + 65536 * get_or a (suc (suc (suc (suc (suc k))))) 0 + 256 * get_or a (suc (suc (suc (suc (suc (suc k)))))) 0 + get_or a (suc (suc (suc (suc (suc (suc (suc k))))))) 0)
  more k = eight_steps _ _ _ _ _ _ _ _ _ _ _ _ _ _ _ _ _ (next k) (next (suc k)) (next (suc (suc k))) (next (suc (suc (suc k)))) (next (suc (suc (suc (suc k))))) (next (suc (suc (suc (suc (suc k)))))) (next (suc (suc (suc (suc (suc (suc k))))))) (next (suc (suc (suc (suc (suc (suc (suc k))))))))

  none : N 0 ≡ 0
  unfolding number_of
  none = refl

  first_eight : N 8 ≡ eight a 0
  first_eight = more 0 ∙ ap (λ (n : ℕ). n * 18446744073709551616 + eight a 0) none ∙ zero-add (eight a 0)

  pub address_number : number_of (address_bit a) 128 ≡ address a 0
  address_number = more 8 ∙ ap (λ (n : ℕ). n * 18446744073709551616 + eight a 8) first_eight
