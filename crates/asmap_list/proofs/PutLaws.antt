-- What the loop that writes a listing knows, turn by turn, over numbers and lists alone. 2 ^ 128 is a variable where it is compared.
-- Assumes nothing.
use Prim.Native.Nat.{ℕ, suc, ◌+◌, ◌-◌, ◌*◌, ◌^◌, ◌≤◌, ◌<◌}
use mathlib.Core.Path.{◌≡◌, refl, sym, ap, subst, ◌∙◌}
use mathlib.Core.List.{List, [], ◌∷◌}
use native.Mathlib.Nat.{suc-mul}
use native.Mathlib.Omega.{arith}
use lib.ListN.{length}
use lib.Seq.{sets, length-sets}
use lib.Pow.{pow_pos}
use Rattle.asmap_codes.specs.Instruction.{map_of}
use Rattle.byte_numbers.proofs.Buffers.{sets-append}
use Rattle.prefix_records.specs.Tiling.{Piece, first_of, past_of, Tiles}
use Rattle.prefix_records.specs.Record.{record_of, records_of}
use Rattle.prefix_records.specs.declared.Address.{Address}
use Rattle.prefix_records.specs.models.Cursor.{value_of, Behind, record_at}
use Rattle.prefix_records.proofs.TilingLaws.{tiles_le}
use Rattle.prefix_records.proofs.RecordLaws.{record_at_lem}
use Rattle.asmap_listing.specs.Listing.{listing}
use Rattle.asmap_listing.specs.models.Scan.{Leaf, leaf, leaves}
use Rattle.asmap_list_step.specs.declared.Spot.{Spot}
use Rattle.asmap_list_step.specs.models.Step.{rest, Sane, Onward}
use Rattle.asmap_list_step.proofs.StepLaws.{start_spot, start_sane, start_rest}
use Rattle.asmap_list.specs.models.Listed.{Listed}

pub record Standing (map out₀ : List ℕ) (count : ℕ) (out bits numbers : List ℕ) (s : Spot) (a : Address) (k : ℕ) : Type 0 where
  pub pieces : List Piece
  pub cursor : ℕ
  pub sane : Sane map s bits numbers
  pub scans : leaves pieces ≡ rest map s bits numbers
  pub tiles : Tiles 128 cursor (2 ^ 128) pieces
  pub place : cursor < 2 ^ 128 → value_of a ≡ cursor
  pub half : a.low < 2 ^ 64
  pub counted : k + length pieces ≡ count
  pub stream : sets out₀ 0 (records_of (listing (map_of map))) ≡ sets out (24 * k) (records_of pieces)
  pub long : length out ≡ length out₀

pub start_standing : (map out bits numbers : List ℕ) (count : ℕ) (s : Spot) → Listed map count → 128 ≡ length bits → 128 ≡ length numbers
    → s ≡ start_spot → Standing map out count out bits numbers s (record { high = 0; low = 0 }) 0
start_standing map out bits numbers count s l b n e =
    rw e
    record {
      pieces = listing (map_of map);
      cursor = 0;
      sane = start_sane map bits numbers b n;
      scans = sym (start_rest map bits numbers ∙ l.scans);
      tiles = l.tiles;
      place = λ _. refl;
      half = omega arith;
      counted = omega (arith, l.count);
      stream = refl;
      long = refl;
    }

-- the pieces that leaves come from
pub first_piece : (ps : List Piece) (l n : ℕ) (ls : List Leaf) → leaves ps ≡ leaf l n ∷ ls
    → (p : Piece) × (qs : List Piece) × (ps ≡ p ∷ qs) × (p.length ≡ l) × (p.number ≡ n) × (leaves qs ≡ ls)
unfolding leaves
first_piece [] l n ls e = let z : ◌≡◌ {A = ℕ} 0 1 = cc in absurd (omega arith)
first_piece (p ∷ qs) l n ls e =
    let q : leaf p.length p.number ≡ leaf l n = cc in
    (p, qs, refl, ap (λ (x : Leaf). x.length) q, ap (λ (x : Leaf). x.number) q, cc)

pub no_piece : (ps : List Piece) → leaves ps ≡ [] → ps ≡ []
unfolding leaves
no_piece [] e = refl
no_piece (p ∷ qs) e = let z : ◌≡◌ {A = ℕ} 0 1 = cc in absurd (omega arith)

none_left : (ps : List Piece) → length ps ≡ 0 → ps ≡ []
none_left [] e = refl
none_left (p ∷ qs) e = absurd (omega arith)

pub past_size : (p : Piece) → past_of 128 p ≡ first_of 128 p + 2 ^ (128 - p.length)
past_size p = omega (arith, suc-mul p.prefix (2 ^ (128 - p.length)))

-- `top` stands for 2 ^ 128, which is past what omega reads
pub below_top : (first past size c top : ℕ) → first ≡ c → past ≡ first + size → 0 < size → past ≤ top → c < top
below_top first past size c top e p h l = omega arith

pub room_left : (v first size past top : ℕ) → v ≡ first → past ≡ first + size → past < top → v + size < top
room_left v first size past top e p h = omega arith

module _ {map out₀ : List ℕ} {count : ℕ} {out bits numbers : List ℕ} {s : Spot} {a : Address} {k : ℕ} (t : Standing map out₀ count out bits numbers s a k) where
  pub gives_length : (l n : ℕ) (ls : List Leaf) → rest map s bits numbers ≡ leaf l n ∷ ls → l ≤ 128
  gives_length l n ls e =
      let f = first_piece t.pieces l n ls (t.scans ∙ e) in
      let g : Tiles 128 t.cursor (2 ^ 128) (f.0 ∷ f.1) = subst (Tiles 128 t.cursor (2 ^ 128)) f.2 t.tiles in
      omega (arith, g.1, f.3)

  pub gives_standing : (l n : ℕ) (s' : Spot) (out' bits' numbers' : List ℕ) (a' : Address)
      → Onward map s s' bits' numbers' (rest map s bits numbers) (leaf l n ∷ rest map s' bits' numbers')
      → Behind a l a' → out' ≡ sets out (24 * k) (record_at a l n)
      → Standing map out₀ count out' bits' numbers' s' a' (k + 1)
  gives_standing l n s' out' bits' numbers' a' o b w =
      let f = first_piece t.pieces l n (rest map s' bits' numbers') (t.scans ∙ o.same) in
      let p = f.0 in
      let g : Tiles 128 t.cursor (2 ^ 128) (p ∷ f.1) = subst (Tiles 128 t.cursor (2 ^ 128)) f.2 t.tiles in
      let y = tiles_le 128 (past_of 128 p) (2 ^ 128) f.1 g.2 in
      let x : past_of 128 p ≡ first_of 128 p + 2 ^ (128 - l) = past_size p ∙ ap (λ (v : ℕ). first_of 128 p + 2 ^ (128 - v)) f.3 in
      let z : value_of a ≡ first_of 128 p = t.place (below_top (first_of 128 p) (past_of 128 p) (2 ^ (128 - l)) t.cursor (2 ^ 128) g.0 x (pow_pos (128 - l)) y) ∙ sym g.0 in
      let q : 24 * k + 24 ≡ 24 * (k + 1) = omega arith in
      let c : k + suc (length f.1) ≡ count = ap (λ (v : List Piece). k + length v) (sym f.2) ∙ t.counted in
      record {
        pieces = f.1;
        cursor = past_of 128 p;
        sane = o.sane;
        scans = f.5;
        tiles = g.2;
        place = λ h. b.0 (room_left (value_of a) (first_of 128 p) (2 ^ (128 - l)) (past_of 128 p) (2 ^ 128) z x h) ∙ ap (λ (v : ℕ). v + 2 ^ (128 - l)) z ∙ sym x;
        half = b.1;
        counted = omega (arith, c);
        stream = t.stream ∙ ap (λ (v : List Piece). sets out (24 * k) (records_of v)) f.2
            ∙ sets-append out (24 * k) (record_of p) (records_of f.1)
            ∙ ap (λ (v : ℕ). sets (sets out (24 * k) (record_of p)) v (records_of f.1)) q
            ∙ ap (λ (v : List ℕ). sets (sets out (24 * k) v) (24 * (k + 1)) (records_of f.1)) (record_at_lem p a z t.half ∙ ap (λ (v : ℕ). record_at a v p.number) f.3 ∙ ap (record_at a l) f.4)
            ∙ ap (λ (v : List ℕ). sets v (24 * (k + 1)) (records_of f.1)) (sym w);
        long = ap length w ∙ length-sets out (24 * k) (record_at a l n) ∙ t.long;
      }

  pub ends_standing : rest map s bits numbers ≡ [] → out ≡ sets out₀ 0 (records_of (listing (map_of map)))
  ends_standing e = sym (t.stream ∙ ap (λ (v : List Piece). sets out (24 * k) (records_of v)) (no_piece t.pieces (t.scans ∙ e)))

  pub done_standing : count ≤ k → out ≡ sets out₀ 0 (records_of (listing (map_of map)))
  done_standing h =
      let z : length t.pieces ≡ 0 = omega (arith, t.counted, h) in
      sym (t.stream ∙ ap (λ (v : List Piece). sets out (24 * k) (records_of v)) (none_left t.pieces z))
