-- What the loop over two listings knows, turn by turn, over numbers and lists alone: the foremost pieces of both, and what was found. 2 ^ 128 is a
-- variable where it is compared.
-- Assumes nothing.
use Prim.Native.Nat.{ℕ, zero, suc, ◌+◌, ◌-◌, ◌*◌, ◌^◌, ◌≤◌, ◌<◌}
use mathlib.Core.Bool.{Bool, true, false, ◌&&◌, not}
use mathlib.Core.Path.{◌≡◌, refl, sym, ap, subst, ◌∙◌}
use mathlib.Core.List.{List, [], ◌∷◌, ◌++◌}
use native.Mathlib.Omega.{arith}
use lib.Dec.{ltb, eqb}
use lib.ListN.{length}
use lib.Seq.{sets, length-sets}
use lib.Pow.{pow_pos}
use borrow.Author.Tests.{lt-ltb}
use Rattle.byte_numbers.specs.Numbers.{big8, bytes4}
use Rattle.byte_numbers.proofs.Buffers.{sets-append}
use Rattle.prefix_records.specs.Tiling.{Piece, first_of, past_of, Tiles}
use Rattle.prefix_records.specs.Record.{address_bytes}
use Rattle.prefix_records.specs.declared.Address.{Address}
use Rattle.prefix_records.specs.models.Cursor.{value_of, Behind, record_at}
use Rattle.prefix_records.proofs.TilingLaws.{tiles_le}
use Rattle.prefix_records.proofs.RecordLaws.{address_at_lem, record_at_lem}
use Rattle.prefix_changes.specs.Change.{Change, shared_if, shared, overlap, differ, adding}
use Rattle.prefix_changes.specs.Record.{change_record_of, change_records_of, first_changed}
use Rattle.prefix_changes.proofs.ChangeLaws.{test}
use Rattle.asmap_codes.specs.Instruction.{map_of}
use Rattle.asmap_listing.specs.Listing.{listing}
use Rattle.asmap_listing.specs.models.Scan.{leaf}
use Rattle.asmap_list_step.specs.declared.Spot.{Spot}
use Rattle.asmap_list_step.specs.models.Step.{rest, weight, Sane, Onward}
use Rattle.asmap_list_step.proofs.StepLaws.{start_spot, start_sane, start_rest}
use Rattle.asmap_list.proofs.PutLaws.{first_piece, no_piece, past_size, below_top}
use Rattle.asmap_changes.specs.declared.Front.{Front}
use Rattle.asmap_changes.specs.declared.Found.{Found}
use Rattle.asmap_changes.specs.models.Side.{Ready, Fore, Coming, Split, place_if, place_of, put_if, first_if, added, NotedIf, Noted, Whole}

-- ---- the next piece of one listing

pub start_coming : (map bits numbers : List ℕ) → Ready map → 128 ≡ length bits → 128 ≡ length numbers
    → Coming map start_spot (record { high = 0; low = 0 }) bits numbers 0 (listing (map_of map))
start_coming map bits numbers r b n =
    record {
      sane = start_sane map bits numbers b n;
      scans = sym (start_rest map bits numbers ∙ r.scans);
      tiles = r.tiles;
      stands = (λ h. refl, λ h. refl);
      half = omega arith;
    }

module _ {map : List ℕ} {s : Spot} {begin : Address} {bits numbers : List ℕ} {lo : ℕ} {ps : List Piece} (c : Coming map s begin bits numbers lo ps) where
  pub coming-length : {l n : ℕ} {s' : Spot} {bits' numbers' : List ℕ}
      → Onward map s s' bits' numbers' (rest map s bits numbers) (leaf l n ∷ rest map s' bits' numbers') → l ≤ 128
  coming-length {l} {n} {s'} {bits'} {numbers'} o =
      let f = first_piece ps l n (rest map s' bits' numbers') (c.scans ∙ o.same) in
      let g : Tiles 128 lo (2 ^ 128) (f.0 ∷ f.1) = subst (Tiles 128 lo (2 ^ 128)) f.2 c.tiles in
      omega (arith, g.1, f.3)

  pub coming_front : {l n : ℕ} {s' : Spot} {bits' numbers' : List ℕ} (f' : Front)
      → Onward map s s' bits' numbers' (rest map s bits numbers) (leaf l n ∷ rest map s' bits' numbers')
      → (f'.begin ≡ begin) × (f'.len ≡ l) × (f'.number ≡ n) × (f'.spot ≡ s') × Behind begin l f'.end
      → Split map s ps bits' numbers' f'
  coming_front {l} {n} {s'} {bits'} {numbers'} f' o e =
      let f = first_piece ps l n (rest map s' bits' numbers') (c.scans ∙ o.same) in
      let p = f.0 in
      let g : Tiles 128 lo (2 ^ 128) (p ∷ f.1) = subst (Tiles 128 lo (2 ^ 128)) f.2 c.tiles in
      let y = tiles_le 128 (past_of 128 p) (2 ^ 128) f.1 g.2 in
      let x : past_of 128 p ≡ first_of 128 p + 2 ^ (128 - l) = past_size p ∙ ap (λ (v : ℕ). first_of 128 p + 2 ^ (128 - v)) f.3 in
      let z : value_of begin ≡ first_of 128 p = c.stands.0 (below_top (first_of 128 p) (past_of 128 p) (2 ^ (128 - l)) lo (2 ^ 128) g.0 x (pow_pos (128 - l)) y) ∙ sym g.0 in
      let u : value_of begin + 2 ^ (128 - l) ≡ past_of 128 p = ap (λ (v : ℕ). v + 2 ^ (128 - l)) z ∙ sym x in
      record {
        piece = p;
        behind = f.1;
        parts = f.2;
        fore = record {
          sane = subst (λ (t : Spot). Sane map t bits' numbers') (sym e.3) o.sane;
          scans = f.5 ∙ ap (λ (t : Spot). rest map t bits' numbers') (sym e.3);
          tiles = (refl, g.1, g.2);
          begins = ap value_of e.0 ∙ z;
          half = subst (λ (a : Address). a.low < 2 ^ 64) (sym e.0) c.half;
          ends = (λ h. e.4.0 (subst (λ (v : ℕ). v < 2 ^ 128) (sym u) h) ∙ u, λ h. e.4.2 (u ∙ h));
          end_half = e.4.1;
          long = f.3 ∙ sym e.1;
          number = f.4 ∙ sym e.2;
        };
        less = subst (λ (t : Spot). weight map t < weight map s) (sym e.3) o.less;
      }

  pub coming_over : rest map s bits numbers ≡ [] → ps ≡ []
  coming_over e = no_piece ps (c.scans ∙ e)

-- what comes behind a foremost piece
pub behind_fore : {map : List ℕ} {f : Front} {bits numbers : List ℕ} {p : Piece} {ps : List Piece}
    → Fore map f bits numbers p ps → Coming map f.spot f.end bits numbers (past_of 128 p) ps
behind_fore a = record { sane = a.sane; scans = a.scans; tiles = a.tiles.2; stands = a.ends; half = a.end_half }

-- ---- what was found so far

-- where the first change begins, once there is one
abbrev Opening : ℕ → Address → List Change → List Change → Type 0
Opening zero a left all = (left ≡ all) × (a.high ≡ 0) × (a.low ≡ 0)
Opening (suc k) a left all = big8 a.high ++ big8 a.low ≡ first_changed all

-- what the output will hold in the end, or holds still
abbrev Stream : Bool → List ℕ → List ℕ → ℕ → List Change → List Change → Type 0
Stream true out₀ out k left all = sets out₀ 0 (change_records_of all) ≡ sets out (28 * k) (change_records_of left)
Stream false out₀ out k left all = out₀ ≡ out

pub record Tally (writes : Bool) (out₀ out : List ℕ) (f : Found) (left all : List Change) : Type 0 where
  pub stream : Stream writes out₀ out f.pieces left all
  pub count : f.pieces + length left ≡ length all
  pub opening : Opening f.pieces f.first left all
  pub long : length out ≡ length out₀

pub tally_start : (writes : Bool) (out : List ℕ) (all : List Change) → Tally writes out out (record { pieces = 0; first = record { high = 0; low = 0 } }) all all
tally_start writes out all = record { stream = go writes; count = omega arith; opening = (refl, refl, refl); long = refl }
  where
    go : (b : Bool) → Stream b out out 0 all all
    go true = refl
    go false = refl

open_next : (k : ℕ) (a b : Address) (c : Change) (left all : List Change) → Opening k b (c ∷ left) all
    → big8 a.high ++ big8 a.low ≡ address_bytes (first_of 128 c.was) → Opening (k + 1) (first_if k a b) left all
open_next zero a b c left all o e = e ∙ ap first_changed o.0
open_next (suc k) a b c left all o e =
    let j : suc (suc k) ≡ suc k + 1 = omega arith in
    subst (λ (i : ℕ). Opening i b left all) j o

stream_next : (writes : Bool) (out₀ out : List ℕ) (k : ℕ) (c : Change) (left all : List Change) → Stream writes out₀ out k (c ∷ left) all
    → Stream writes out₀ (put_if writes out (28 * k) (change_record_of c)) (k + 1) left all
stream_next true out₀ out k c left all s =
    let j : 28 * k + 28 ≡ 28 * (k + 1) = omega arith in
    s ∙ sets-append out (28 * k) (change_record_of c) (change_records_of left)
    ∙ ap (λ (i : ℕ). sets (sets out (28 * k) (change_record_of c)) i (change_records_of left)) j
stream_next false out₀ out k c left all s = s

put_length : (writes : Bool) (out : List ℕ) (k : ℕ) (bs : List ℕ) → length (put_if writes out k bs) ≡ length out
put_length true out k bs = length-sets out k bs
put_length false out k bs = refl

-- a change noted, which begins at a
tally_add : (writes : Bool) (out₀ out : List ℕ) (f : Found) (a : Address) (c : Change) (left all : List Change) → Tally writes out₀ out f (c ∷ left) all
    → value_of a ≡ first_of 128 c.was → a.low < 2 ^ 64
    → Tally writes out₀ (put_if writes out (28 * f.pieces) (change_record_of c)) (added f a) left all
tally_add writes out₀ out f a c left all t e h =
    record {
      stream = stream_next writes out₀ out f.pieces c left all t.stream;
      count = omega (arith, t.count);
      opening = open_next f.pieces a f.first c left all t.opening (sym (address_at_lem (first_of 128 c.was) a e h));
      long = put_length writes out (28 * f.pieces) (change_record_of c) ∙ t.long;
    }

-- nothing is left
pub tally_whole : {writes : Bool} {out₀ out : List ℕ} {f : Found} {left all : List Change} → Tally writes out₀ out f left all → left ≡ [] → Whole writes all out₀ out f
tally_whole {writes} {out₀} {out} {f} {left} {all} t e =
    record {
      pieces = omega (arith, t.count, ap length e);
      first = go f.pieces (subst (λ (l : List Change). Opening f.pieces f.first l all) e t.opening);
      output = put writes (subst (λ (l : List Change). Stream writes out₀ out f.pieces l all) e t.stream);
    }
  where
    go : (k : ℕ) → Opening k f.first [] all → big8 f.first.high ++ big8 f.first.low ≡ first_changed all
    go zero o = ap (λ (v : ℕ). big8 v ++ big8 f.first.low) o.1 ∙ ap (λ (v : ℕ). big8 0 ++ big8 v) o.2 ∙ ap first_changed o.0
    go (suc k) o = o

    put : (b : Bool) → Stream b out₀ out f.pieces [] all → out ≡ put_if b out₀ 0 (change_records_of all)
    put true s = sym s
    put false s = sym s

-- ---- a pair noted

-- what two foremost pieces share, by which prefix is longer: its record, and where it begins
share_record : (p q : Piece) (o n : Front) (t : Bool) → value_of o.begin ≡ first_of 128 p → o.begin.low < 2 ^ 64 → value_of n.begin ≡ first_of 128 q → n.begin.low < 2 ^ 64
    → p.length ≡ o.len → q.length ≡ n.len → p.number ≡ o.number → q.number ≡ n.number
    → (change_record_of (shared_if t p q) ≡ record_at (place_if t o n).begin (place_if t o n).len o.number ++ bytes4 n.number)
    × (value_of (place_if t o n).begin ≡ first_of 128 (shared_if t p q).was)
    × ((place_if t o n).begin.low < 2 ^ 64)
unfolding shared_if
share_record p q o n true e h f k l m i j = (
  ap (λ (v : List ℕ). v ++ bytes4 q.number) (record_at_lem (record { prefix = q.prefix; length = q.length; number = p.number }) n.begin f k)
      ∙ ap (λ (v : ℕ). record_at n.begin v p.number ++ bytes4 q.number) m
      ∙ ap (λ (v : ℕ). record_at n.begin n.len v ++ bytes4 q.number) i
      ∙ ap (λ (v : ℕ). record_at n.begin n.len o.number ++ bytes4 v) j,
  f,
  k,
)
share_record p q o n false e h f k l m i j = (
  ap (λ (v : List ℕ). v ++ bytes4 q.number) (record_at_lem p o.begin e h)
      ∙ ap (λ (v : ℕ). record_at o.begin v p.number ++ bytes4 q.number) l
      ∙ ap (λ (v : ℕ). record_at o.begin o.len v ++ bytes4 q.number) i
      ∙ ap (λ (v : ℕ). record_at o.begin o.len o.number ++ bytes4 v) j,
  e,
  h,
)

adding_one : (b : Bool) (c : Change) (cs : List Change) → b ≡ true → adding b c cs ≡ c ∷ cs
unfolding adding
adding_one b c cs e = rw e refl

adding_none : (b : Bool) (c : Change) (cs : List Change) → b ≡ false → adding b c cs ≡ cs
unfolding adding
adding_none b c cs e = rw e refl

-- the foremost pieces p and q of two listings, which overlap
pub record Pair (old new : List ℕ) (o n : Front) (old-bits old-numbers new-bits new-numbers : List ℕ) (p q : Piece) (ps qs : List Piece) : Type 0 where
  pub fore_old : Fore old o old-bits old-numbers p ps
  pub fore_new : Fore new n new-bits new-numbers q qs
  pub lap : (first_of 128 p < past_of 128 q) × (first_of 128 q < past_of 128 p)

module _ {old new : List ℕ} {o n : Front} {ob on nb nn : List ℕ} {p q : Piece} {ps qs : List Piece} (a : Pair old new o n ob on nb nn p q ps qs) where
  overlaps : overlap 128 p q ≡ true
  overlaps = rw (lt-ltb (first_of 128 p) (past_of 128 q) a.lap.0, lt-ltb (first_of 128 q) (past_of 128 p) a.lap.1) refl

  -- the pair is a change where the code finds that the numbers differ
  pub tested : test 128 p q ≡ not (eqb o.number n.number)
  tested =
      ap (λ (b : Bool). b && differ p q) overlaps
      ∙ ap (λ (v : ℕ). not (eqb v q.number)) a.fore_old.number
      ∙ ap (λ (v : ℕ). not (eqb o.number v)) a.fore_new.number

  placed : shared p q ≡ shared_if (ltb o.len n.len) p q
  placed =
      ap (λ (v : ℕ). shared_if (ltb v q.length) p q) a.fore_old.long
      ∙ ap (λ (v : ℕ). shared_if (ltb o.len v) p q) a.fore_new.long

  pub noted : (writes : Bool) (out₀ out out' : List ℕ) (f f' : Found) (left all : List Change)
      → Tally writes out₀ out f (adding (test 128 p q) (shared p q) left) all → Noted writes o n f f' out out' → Tally writes out₀ out' f' left all
  noted writes out₀ out out' f f' left all t h = go (eqb o.number n.number) refl h
    where
      r : (change_record_of (shared_if (ltb o.len n.len) p q) ≡ record_at (place_of o n).begin (place_of o n).len o.number ++ bytes4 n.number)
          × (value_of (place_of o n).begin ≡ first_of 128 (shared_if (ltb o.len n.len) p q).was)
          × ((place_of o n).begin.low < 2 ^ 64)
      r = share_record p q o n (ltb o.len n.len) a.fore_old.begins a.fore_old.half a.fore_new.begins a.fore_new.half a.fore_old.long a.fore_new.long a.fore_old.number a.fore_new.number

      go : (b : Bool) → eqb o.number n.number ≡ b → NotedIf b writes o n f f' out out' → Tally writes out₀ out' f' left all
      go true e k =
          let d : adding (test 128 p q) (shared p q) left ≡ left = adding_none (test 128 p q) (shared p q) left (tested ∙ ap not e) in
          subst (λ (x : Found). Tally writes out₀ out' x left all) (sym k.0)
          (subst (λ (x : List ℕ). Tally writes out₀ x f left all) (sym k.1) (subst (λ (l : List Change). Tally writes out₀ out f l all) d t))
      go false e k =
          let c = shared_if (ltb o.len n.len) p q in
          let d : adding (test 128 p q) (shared p q) left ≡ c ∷ left = adding_one (test 128 p q) (shared p q) left (tested ∙ ap not e) ∙ ap (λ (x : Change). x ∷ left) placed in
          let u = tally_add writes out₀ out f (place_of o n).begin c left all (subst (λ (l : List Change). Tally writes out₀ out f l all) d t) r.1 r.2 in
          subst (λ (x : Found). Tally writes out₀ out' x left all) (sym k.0)
          (subst (λ (x : List ℕ). Tally writes out₀ x (added f (place_of o n).begin) left all) (ap (put_if writes out (28 * f.pieces)) r.0 ∙ sym k.1) u)
