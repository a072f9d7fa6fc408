-- From what the listing's calls promise to what a caller reads off the bytes written.
-- Assumes nothing.
use Prim.Native.Nat.{ℕ, zero, suc, ◌+◌, ◌-◌, ◌*◌, ◌%◌, ◌^◌, ◌≤◌, ◌<◌}
use mathlib.Core.Path.{◌≡◌, refl, sym, ap, subst, ◌∙◌}
use mathlib.Core.List.{List, [], ◌∷◌}
use native.Mathlib.Nat.{suc-mul, mul-mod_left}
use native.Mathlib.Omega.{arith}
use lib.ListN.{length, take}
use lib.Pow.{pow_pos, pow-add}
use Rattle.asmap_program.specs.Map.{address_bit}
use Rattle.asmap_program.specs.Walk.{walk}
use Rattle.asmap_codes.specs.Instruction.{map_of}
use Rattle.asmap_codes.proofs.MapLaws.{map_fetch}
use Rattle.asmap_check.specs.Check.{check_of}
use Rattle.asmap_walk_bits.specs.Walk.{walk_of}
use Rattle.asmap_walk.specs.Interpret.{interpret_over}
use Rattle.asmap_records.specs.Output.{Making, Made, No}
use Rattle.asmap_records.proofs.OutputLaws.{made_same}
use Rattle.asmap_records.proofs.Reading.{stands}
use Rattle.byte_numbers.proofs.NumberLaws.{AllBytes}
use Rattle.prefix_records.specs.Tiling.{Piece, first_of, past_of, Tiles, holding, number_of}
use Rattle.prefix_records.specs.Record.{records_of}
use Rattle.prefix_records.proofs.TilingLaws.{tiles_le, tiles_all, wider, holding_wider}
use Rattle.prefix_records.proofs.RecordLaws.{length_records}
use Rattle.prefix_records.proofs.PlaceLaws.{At, at_place, first_at, next_at, last_at, short_at, Place, one_place, held_from, held_if}
use Rattle.asmap_listing.specs.Listing.{listing}
use Rattle.asmap_listing.proofs.NumberLaws.{number-below}
use Rattle.asmap_listing.proofs.AddressLaws.{number_wider}
use Rattle.asmap_list.specs.List.{list_as, list_of, bytes_of, needed_of}
use Rattle.asmap_list.specs.Promise.{Covers}
use Rattle.answer_outcome.specs.Outcome.{handed, Hands}
use Rattle.answer_maps.specs.Maps.{walk_made}
use Rattle.answer_bytes.specs.Bytes.{byte_count, Writes}
use Rattle.answers.specs.Promise.{Finished}
use Rattle.answers.proofs.NeverZeroMaps.{map-numbers, list-numbers, length-numbers}
use Rattle.demand_statements.specs.AnyInput.{CheckNumber, Lists, Needs}
use Rattle.demand_statements.specs.Listed.{address, first, past, Tiled, InOne, ListedWalk, ListedWithRoom}
use Rattle.demand_statements.proofs.AnswerLaws.{kept, numbered, refused_as, done_as}
use Rattle.demand_statements.proofs.TripLaws.{wrote, has_room, no_room}
use Rattle.demand_statements.proofs.WalkLaws.{has-bits, Ends}
use Rattle.demand_statements.proofs.MapAnswers.{reason-number, number_1, CheckOr14, by_check}
use Rattle.demand_statements.proofs.ListBytes.{Reads, reads, in_front, address_number}
use Rattle.asmap_program.specs.Verdict.{Accepted, Verdict}
use Rattle.refusals.specs.declared.Fault.{Fault}
use Rattle.refusals.specs.declared.Refusal.TheVariants as refusal
use Rattle.std.specs.Prelude.{Err, Ok}

-- ---- any input

not_made : (m : List ℕ) (w : ℕ) (f : Fault) → check_of m w ≡ Err f → list_of m w ≡ No (refusal.Map f)
unfolding list_of
not_made m w f e = ap (list_as m) e

made : (m : List ℕ) (w c d : ℕ) → check_of m w ≡ Accepted c d → list_of m w ≡ Made (records_of (listing (map_of m)))
unfolding list_of
made m w c d e = ap (list_as m) e

pub lists : (m : List ℕ) (w : ℕ) (o o' : List ℕ) {r written written' : ℕ} → Writes (list_of m w) o o' r (written ∷ []) (written' ∷ []) → Lists m w o o' r written written'
lists m w o o' h =
    let b = by_check m w o o' (list_of m w) (not_made m w) (list-numbers CheckOr14 (length o) m w) h in
    record { numbers = b.numbers; refused = b.refused; past = b.past; untouched = b.untouched }

pub needs : (m : List ℕ) (w : ℕ) {r : ℕ} {entry exit : List ℕ} → Hands (byte_count (needed_of m w)) r entry exit → Needs m w r entry exit
unfolding byte_count
needs m w h = record {
  numbers = numbered CheckNumber _ (length-numbers CheckNumber m w (map-numbers CheckNumber reason-number m w number_1)) h;
  accepted = λ c d e. done_as _ (ap (λ (x : Making). byte_count (bytes_of x)) (made m w c d e)) h;
  refused = λ f e. refused_as _ (ap (λ (x : Making). byte_count (bytes_of x)) (not_made m w f e)) h;
  untouched = kept _ h;
}

-- ---- room

-- what was asked for is the length of what is made
needed_is : (m : List ℕ) (w c d : ℕ) {q needed : ℕ} {entry : List ℕ} → check_of m w ≡ Accepted c d
    → Hands (byte_count (needed_of m w)) q entry (needed ∷ []) → needed ≡ length (records_of (listing (map_of m)))
unfolding handed byte_count
needed_is m w c d e h = let k = rw (made m w c d e) at h.numbers in cc

-- a map that was listed is accepted
accepts : (m : List ℕ) (w : ℕ) (bs : List ℕ) → list_of m w ≡ Made bs → (c : ℕ) × (d : ℕ) × (check_of m w ≡ Accepted c d)
unfolding list_of
accepts m w bs e = go (check_of m w) refl
  where
    go : (v : Verdict) → check_of m w ≡ v → (c : ℕ) × (d : ℕ) × (check_of m w ≡ Accepted c d)
    go (Ok got) h = (got.count, got.depth, h)
    go (Err n) h = let k = sym (ap (list_as m) h) ∙ e in absurd cc

-- the first call refused, and nothing was listed
pub unlisted : (m : List ℕ) (w : ℕ) (o : List ℕ) {r needed written : ℕ} {entry exit : List ℕ} → Hands (byte_count (needed_of m w)) r entry exit → (r ≡ 0 → ⊥) → ListedWithRoom m w o r needed written
unlisted m w o h n = record {
  exact = λ z. absurd (n z);
  answered = λ c d e l. (needs m w h).accepted c d e;
  no_room = λ c d e l. absurd (n ((needs m w h).accepted c d e));
}

pub with_room : (m : List ℕ) (w : ℕ) (o o' : List ℕ) {q r needed written : ℕ} {entry lent : List ℕ} → Hands (byte_count (needed_of m w)) q entry (needed ∷ [])
    → Writes (list_of m w) o o' r lent (written ∷ []) → ListedWithRoom m w o r needed written
with_room m w o o' h x = record {
  exact = λ z.
      let u = wrote (list_of m w) x z in
      let v = accepts m w u.bytes u.these in
      u.many ∙ ap length (made_same (sym (made m w v.0 v.1 v.2) ∙ u.these)) ∙ sym (needed_is m w v.0 v.1 v.2 h);
  answered = λ c d e l. has_room (list_of m w) _ o o' (made m w c d e) (omega (arith, needed_is m w c d e h)) x;
  no_room = λ c d e l. no_room (list_of m w) _ o o' (made m w c d e) (omega (arith, needed_is m w c d e h)) x;
}

-- ---- records that tile, off their bytes

-- over `top` for 2 ^ 128
below : (x y top : ℕ) → x < y → y ≤ top → x < top
below x y top h l = omega arith

some_address : (p : Piece) → first_of 128 p < past_of 128 p
some_address p = omega (arith, suc-mul p.prefix (2 ^ (128 - p.length)), pow_pos (128 - p.length))

first_below : (lo : ℕ) (ps : List Piece) (j : ℕ) (q : Piece) → Tiles 128 lo (2 ^ 128) ps → At ps j q → first_of 128 q < 2 ^ 64 * 2 ^ 64
first_below lo [] j q t a = absurd a
first_below lo (p ∷ ps) zero q t a =
    subst (λ (x : Piece). first_of 128 x < 2 ^ 64 * 2 ^ 64) a
    (subst (λ (n : ℕ). first_of 128 p < n) (pow-add 2 64 64) (below _ _ (2 ^ 128) (some_address p) (tiles_le 128 (past_of 128 p) (2 ^ 128) ps t.2)))
first_below lo (p ∷ ps) (suc j) q t a = first_below (past_of 128 p) ps j q t.2 a

-- ps tile the addresses of w bits, and with zeros behind those of 128
module _ (w : ℕ) (narrow : w ≤ 128) (o : List ℕ) (ps : List Piece) (n : ℕ) (tiling : Tiles w 0 (2 ^ w) ps) (long : length ps ≡ n) (bytes : take (24 * n) o ≡ records_of ps) where
  tiles : Tiles 128 0 (2 ^ 128) ps
  tiles = tiles_all w 128 narrow ps tiling

  -- the piece of a record
  read_at : (j : ℕ) (p : Piece) → j < n → At ps j p → Reads o j p
  read_at j p h a =
      in_front (24 * n) o j p (omega arith)
      (subst (λ (l : List ℕ). Reads l j p) (sym bytes) (reads ps (λ k q b. first_below 0 ps k q tiles b) j p a))

  past_is : (j : ℕ) (p : Piece) → Reads o j p → past o j ≡ past_of 128 p
  past_is j p r =
      ap (λ (x : ℕ). first o j + 2 ^ (128 - x)) r.length ∙ ap (λ (x : ℕ). x + 2 ^ (128 - p.length)) r.from
      ∙ omega (arith, suc-mul p.prefix (2 ^ (128 - p.length)))

  -- the piece at a place
  at : (j : ℕ) → j < n → (p : Piece) × At ps j p
  at j h = at_place ps j (omega arith)

  tiled : 1 ≤ n → Tiled w o n
  tiled h = record {
    some = h;
    start = let p = at 0 (omega arith) in (read_at 0 p.0 (omega arith) p.1).from ∙ first_at 128 0 (2 ^ 128) ps p.0 tiles p.1;
    next = λ j l.
        let p = at j (omega arith) in
        let q = at (suc j) (omega arith) in
        let e : j + 1 ≡ suc j = omega arith in
        ap (first o) e ∙ (read_at (suc j) q.0 (omega arith) q.1).from ∙ next_at 128 0 (2 ^ 128) ps j p.0 q.0 tiles p.1 q.1
        ∙ sym (past_is j p.0 (read_at j p.0 (omega arith) p.1));
    end =
        let p = at (n - 1) (omega arith) in
        past_is (n - 1) p.0 (read_at (n - 1) p.0 (omega arith) p.1) ∙ last_at 128 0 (2 ^ 128) ps (n - 1) p.0 tiles p.1 (omega arith);
    short = λ j l. let p = at j l in omega (arith, (read_at j p.0 l p.1).length, short_at w 0 (2 ^ w) ps j p.0 tiling p.1);
    zeros = λ j l.
        let p = at j l in
        let r = read_at j p.0 l p.1 in
        ap (λ (x : ℕ). first o j % 2 ^ (128 - x)) r.length ∙ ap (λ (x : ℕ). x % 2 ^ (128 - p.0.length)) r.from ∙ mul-mod_left p.0.prefix (2 ^ (128 - p.0.length));
    blank = λ j l.
        let p = at j l in
        let e = wider w 128 p.0.prefix p.0.length (short_at w 0 (2 ^ w) ps j p.0 tiling p.1) narrow in
        ap (λ (x : ℕ). x % 2 ^ (128 - w)) ((read_at j p.0 l p.1).from ∙ e) ∙ mul-mod_left (p.0.prefix * 2 ^ (w - p.0.length)) (2 ^ (128 - w));
  }

  -- the address x lies in just one piece p, whose number has 32 bits
  in_one : (a : List ℕ) (p : Piece) → Place 128 (address a 0) ps p → p.number < 4294967296 → InOne a o n p.number
  in_one a p k l =
      let i : k.place < n = omega (arith, k.inside) in
      let r = read_at k.place p i k.there in
      let h = held_from 128 (address a 0) p k.held in
      record {
        place = k.place;
        inside = i;
        from = subst (λ (x : ℕ). x ≤ address a 0) (sym r.from) h.0;
        below = subst (λ (x : ℕ). address a 0 < x) (sym (past_is k.place p r)) h.1;
        carries = r.number l;
        only = λ j g u v.
            let q = at j g in
            let s = read_at j q.0 g q.1 in
            k.only j q.0 q.1 (held_if 128 (address a 0) q.0 (subst (λ (x : ℕ). x ≤ address a 0) s.from u) (subst (λ (x : ℕ). address a 0 < x) (past_is j q.0 s) v));
      }

-- the number that the walk's call handed out is that of the defined walk
pub walk-number : (m a : List ℕ) (w : ℕ) {r kind x count bits : ℕ} → Finished m a w r kind x count bits → x ≡ (walk (address_bit a) (map_of m) w).number
unfolding walk_of
walk-number m a w f = let e = f.exact in cc

-- the numbers of a listing have 32 bits
small : (m : List ℕ) (j : ℕ) (p : Piece) → At (listing (map_of m)) j p → p.number < 4294967296
small m = number-below (map_of m) 4294967296 (λ p i f. (stands m p i (sym (map_fetch m p) ∙ f)).operand) (omega arith)

-- the listing answered q, 0, and wrote; r is the walk's answer
pub walk_in_list_lem : (m a : List ℕ) (w : ℕ) → w ≤ 128 → (o o' : List ℕ) {q r written kind x count bits : ℕ} {lent lent' left : List ℕ}
    → AllBytes a
    → Writes (list_of m w) o o' q lent (written ∷ []) → Covers m w → q ≡ 0
    → Hands (walk_made (interpret_over m a w)) r lent' left → Ends m a w r kind x count bits → r ≡ 0 → ListedWalk w a o' written x
walk_in_list_lem m a w narrow o o' {written = written} {x = x} bytes h covers z k d y =
    let u = wrote (list_of m w) h z in
    let v = accepts m w u.bytes u.these in
    let ps = listing (map_of m) in
    let s : u.bytes ≡ records_of ps = made_same (sym (made m w v.0 v.1 v.2) ∙ u.these) in
    let e : written ≡ 24 * length ps = u.many ∙ ap length s ∙ length_records ps in
    let all = covers v.0 v.1 v.2 in
    let b : take (24 * length ps) o' ≡ records_of ps = ap (λ (n : ℕ). take n o') (sym e) ∙ u.there ∙ s in
    let one = all.walks a in
    let bits = has-bits m a w k y in
    let g : one.piece.number ≡ x = one.number ∙ sym (walk-number m a w (d v.0 v.1 v.2 bits)) in
    let n = number_of (address_bit a) w in
    let f : holding 128 (n * 2 ^ (128 - w)) ps ≡ one.piece ∷ [] = sym (holding_wider w 128 n 0 (2 ^ w) narrow ps all.tiles) ∙ one.only in
    let i : n * 2 ^ (128 - w) ≡ address a 0 = sym (number_wider a w 128 narrow (omega arith)) ∙ address_number a bytes in
    let at = subst (λ (c : ℕ). Place 128 c ps one.piece) i (one_place 128 (n * 2 ^ (128 - w)) ps one.piece f) in
    record {
      records = length ps;
      whole = e;
      tiled = tiled w narrow o' ps (length ps) all.tiles refl b (omega (arith, at.inside));
      one = subst (InOne a o' (length ps)) g (in_one w narrow o' ps (length ps) all.tiles refl b a one.piece at (small m at.place one.piece at.there));
    }
