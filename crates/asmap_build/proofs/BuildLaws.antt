-- What is built from a list that is not refused (document 02, CR 8): its bytes are accepted, every address walks to its number, and the listing says of
-- the addresses what the list says. Assumes nothing.
use Prim.Native.Nat.{ℕ, zero, suc, ◌+◌, ◌-◌, ◌*◌, ◌^◌, ◌≤◌, ◌<◌}
use mathlib.Core.Bool.{Bool, true, false, cond}
use mathlib.Core.Path.{◌≡◌, refl, ap, subst, ◌∙◌}
use mathlib.Core.List.{List}
use native.Mathlib.Omega.{arith}
use native.Mathlib.Nat.{mul-le-mul_right, add-mul, one-mul}
use lib.Pow as pow
use lib.Dec.{ltb}
use lib.ListN.{length}
use borrow.Author.Tests.{le-ltb, ltb-true, ltb-false}
use Rattle.asmap_program.specs.declared.Kind.TheVariants.{Returned}
use Rattle.asmap_program.specs.Map.{address_bit}
use Rattle.asmap_program.specs.Check.{check}
use Rattle.asmap_program.specs.Walk.{walk}
use Rattle.prefix_records.specs.Tiling.{Piece, first_of, past_of, holds, JustOne, number_of}
use Rattle.prefix_records.proofs.TilingLaws.{wider}
use Rattle.prefix_lists.specs.List.{count_of, piece_at, number_at}
use Rattle.prefix_lists.specs.models.Listed.{Number, Rising}
use Rattle.prefix_joins.proofs.JoinLaws.{Apart, joined_same}
use Rattle.asmap_listing.specs.Listing.{listing}
use Rattle.asmap_listing.proofs.ListingLaws.{listing-tiles, listing-walks}
use Rattle.asmap_listing.proofs.AddressLaws.{bits_of, bits_are, bytes_are, number_again}
use Rattle.asmap_codes.specs.Instruction.{map_of}
use Rattle.asmap_codes.proofs.MapLaws.{laws}
use Rattle.asmap_check.specs.Check.{check_of}
use Rattle.asmap_walk_bits.specs.Walk.{walk_of}
use Rattle.asmap_bit_writer.specs.Bytes.{bytes_of}
use Rattle.asmap_bit_writer.proofs.ByteLaws.{length-bytes_of}
use Rattle.asmap_shapes.proofs.MapLaws.{shape_accepted, shape-walks}
use Rattle.asmap_build.specs.Build.{number_in, tree_bits}
use Rattle.asmap_build.specs.Promise.{Builds}
use Rattle.asmap_program.specs.Verdict.{Accepted}

-- every number is one of the list's or the given one
pub number_at_lem : (w : ℕ) (ps : ℕ → Piece) (given n : ℕ) → ((i : ℕ) → i < n → Number (ps i).number) → Number given → (x : ℕ) → Number (number_at w ps given n x)
unfolding number_at
number_at_lem w ps given zero h g x = g
number_at_lem w ps given (suc n) h g x = go (holds w x (ps n)) (number_at_lem w ps given n (λ i l. h i (omega arith)) g x)
  where
    go : (b : Bool) → Number (number_at w ps given n x) → Number (cond b (ps n).number (number_at w ps given n x))
    go true k = h n (omega arith)
    go false k = k

-- ---- prefixes over fewer address bits lie apart as over more

unscaled : (x y j : ℕ) → x * 2 ^ j ≤ y * 2 ^ j → x ≤ y
unscaled x y j h = go (ltb y x) refl
  where
    go : (b : Bool) → ltb y x ≡ b → x ≤ y
    go true e =
        let l : y + 1 ≤ x = omega (arith, ltb-true y x e) in
        absurd (omega (arith, h, mul-le-mul_right (2 ^ j) l, add-mul y 1 (2 ^ j), one-mul (2 ^ j), pow.pow_pos j))
    go false e = ltb-false y x e

module _ (w v : ℕ) (narrow : w ≤ v) where
  past_scaled : (p : Piece) → p.length ≤ w → past_of v p ≡ past_of w p * 2 ^ (v - w)
  past_scaled p h = wider w v (p.prefix + 1) p.length h narrow

  inside_scaled : (p : Piece) → p.length ≤ w → past_of v p ≤ 2 ^ v → past_of w p ≤ 2 ^ w
  inside_scaled p h k =
      let e : v ≡ w + (v - w) = omega arith in
      let q : 2 ^ v ≡ 2 ^ w * 2 ^ (v - w) = ap (λ (i : ℕ). 2 ^ i) e ∙ pow.pow-add 2 w (v - w) in
      unscaled (past_of w p) (2 ^ w) (v - w) (subst (λ (x : ℕ). x ≤ 2 ^ w * 2 ^ (v - w)) (past_scaled p h) (subst (λ (y : ℕ). past_of v p ≤ y) q k))

  rising_scaled : (p r : Piece) → p.length ≤ w → r.length ≤ w → past_of v p ≤ first_of v r → past_of w p ≤ first_of w r
  rising_scaled p r h g k =
      unscaled (past_of w p) (first_of w r) (v - w)
      (subst (λ (x : ℕ). x ≤ first_of w r * 2 ^ (v - w)) (past_scaled p h) (subst (λ (y : ℕ). past_of v p ≤ y) (wider w v r.prefix r.length g narrow) k))

module _ (l : List ℕ) (given w : ℕ) (narrow : w ≤ 128) (rising : Rising w l) (number : Number given) where
  apart : Apart w (piece_at l) (count_of l)
  apart = record {
    inside = λ i h. inside_scaled w 128 narrow (piece_at l i) (rising.short i h) (rising.inside i h);
    rising = λ i j h k. rising_scaled w 128 narrow (piece_at l i) (piece_at l j) (rising.short i (omega (arith, h, k))) (rising.short j k) (rising.rising i j h k);
  }

  numbers : (x : ℕ) → Number (number_in l given w x)
  numbers = number_at_lem w (piece_at l) given (count_of l) rising.numbers number

  module _ (short : length (tree_bits l given w) ≤ 134217728) where
    abbrev m : List ℕ
    m = bytes_of (tree_bits l given w)

    checked : (c : ℕ) × (d : ℕ) × (check (map_of m) w ≡ Accepted c d)
    checked = shape_accepted (number_in l given w) numbers w short

    accepted : (c : ℕ) × (d : ℕ) × (check_of m w ≡ Accepted c d)
    accepted = (checked.0, checked.1, rw (le-ltb 16777216 (length m) (omega (arith, length-bytes_of (tree_bits l given w), short))) checked.2)

    walks : (a : List ℕ) → ((walk_of m a w).kind ≡ Returned) × ((walk_of m a w).number ≡ number_in l given w (number_of (address_bit a) w))
    unfolding walk_of
    walks a = shape-walks (number_in l given w) numbers w short (address_bit a) (bytes_are a)

    -- every address, as a number, lies in just one piece of the listing, and that one has its number
    listed : (x : ℕ) → x < 2 ^ w → JustOne w x (number_in l given w x) (listing (map_of m))
    listed x h =
        let e = number_again w x h in
        let q : (walk (bits_of w x) (map_of m) w).number ≡ number_in l given w x = (shape-walks (number_in l given w) numbers w short (bits_of w x) (bits_are w x)).1 ∙ ap (number_in l given w) e in
        subst (λ (n : ℕ). JustOne w x n (listing (map_of m))) q
        (subst (λ (y : ℕ). JustOne w y (walk (bits_of w x) (map_of m) w).number (listing (map_of m))) e (listing-walks (map_of m) (laws m) w checked.2 (bits_of w x) (bits_are w x)))

    pub builds : Builds l given w m
    builds = record {
      accepted = accepted;
      returns = λ a. (walks a).0;
      walks = λ a. (walks a).1;
      lists = joined_same w (listing (map_of m)) (piece_at l) given (count_of l) (listing-tiles (map_of m) (laws m) w checked.2) apart listed;
    }
