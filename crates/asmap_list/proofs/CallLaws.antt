-- What the check's count tells of a map's listing, and what the calls make of it; what a listing promises, over every width.
-- Assumes nothing.
use Prim.Native.Nat.{ℕ, ◌*◌, ◌≤◌}
use mathlib.Core.Path.{◌≡◌, refl, sym, ap, ◌∙◌}
use mathlib.Core.List.{List}
use native.Mathlib.Omega.{arith}
use lib.ListN.{length}
use Rattle.asmap_program.specs.Check.{unpacked}
use Rattle.asmap_program.specs.models.Pieces.{count_pieces}
use Rattle.asmap_codes.specs.Instruction.{map_of}
use Rattle.asmap_codes.proofs.MapLaws.{laws}
use Rattle.asmap_check.specs.Check.{check_of}
use Rattle.asmap_check.specs.models.Counted.{counted_as, counted_of}
use Rattle.asmap_check.proofs.Limit.{accepted_within}
use Rattle.asmap_records.specs.Output.{Made, No}
use Rattle.prefix_records.specs.Record.{records_of}
use Rattle.prefix_records.proofs.TilingLaws.{tiles_all}
use Rattle.prefix_records.proofs.RecordLaws.{length_records}
use Rattle.asmap_listing.specs.Listing.{listing}
use Rattle.asmap_listing.proofs.ListingLaws.{listing-tiles, listing-walks}
use Rattle.asmap_listing.proofs.AddressLaws.{bytes_are}
use Rattle.asmap_listing.proofs.ScanLaws.{listing_scanned}
use Rattle.asmap_listing.proofs.CountLaws.{listing_counted}
use Rattle.asmap_list.specs.List.{list_as, list_of}
use Rattle.asmap_list.specs.Promise.{Covers}
use Rattle.asmap_list.specs.models.Listed.{Listed}
use Rattle.asmap_program.specs.Verdict.{Accepted, Verdict}
use Rattle.refusals.specs.declared.Fault.{Fault}
use Rattle.refusals.specs.declared.Refusal.TheVariants as refusal
use Rattle.std.specs.Prelude.{Ok, Err}

-- what the calls learn where the check accepts with n pieces counted
pub record Counts (m : List ℕ) (w n : ℕ) : Type 0 where
  pub within : length m ≤ 16777216
  pub made : list_of m w ≡ Made (records_of (listing (map_of m)))
  pub long : length (records_of (listing (map_of m))) ≡ 24 * n
  pub listed : Listed m n

module _ (m : List ℕ) (w : ℕ) (narrow : w ≤ 128) where
  counts_by : (c d n : ℕ) → check_of m w ≡ Accepted c d → n ≡ count_pieces (unpacked (map_of m) w) → Counts m w n
  unfolding list_of
  counts_by c d n e q =
      let s = accepted_within m w c d e in
      let k = listing_counted (map_of m) (laws m) w s.1 ∙ sym q in
      record {
        within = s.0;
        made = ap (list_as m) e;
        long = length_records (listing (map_of m)) ∙ ap (λ (x : ℕ). 24 * x) k;
        listed = record {
          scans = listing_scanned (map_of m) (laws m) 128 w narrow s.1;
          tiles = tiles_all w 128 narrow (listing (map_of m)) (listing-tiles (map_of m) (laws m) w s.1);
          count = k;
        };
      }

  pub counts : (n : ℕ) → Ok n ≡ counted_of m w → Counts m w n
  counts n e = go (check_of m w) refl e
    where
      go : (v : Verdict) → check_of m w ≡ v → Ok n ≡ counted_as (count_pieces (unpacked (map_of m) w)) v → Counts m w n
      go (Ok got) h q = let z : n ≡ count_pieces (unpacked (map_of m) w) = cc in counts_by got.count got.depth n h z
      go (Err r) h q = let z : ◌≡◌ {A = ℕ} 0 1 = cc in absurd (omega arith)

  -- refused as the check says
  pub refuses : (f : Fault) → Err f ≡ counted_of m w → list_of m w ≡ No (refusal.Map f)
  unfolding list_of
  refuses f e = go (check_of m w) refl e
    where
      go : (v : Verdict) → check_of m w ≡ v → Err f ≡ counted_as (count_pieces (unpacked (map_of m) w)) v → list_as m (check_of m w) ≡ No (refusal.Map f)
      go (Ok got) h q = let z : ◌≡◌ {A = ℕ} 0 1 = cc in absurd (omega arith)
      go (Err n) h q = let z : f ≡ n = cc in ap (list_as m) h ∙ ap (λ (x : Fault). No (refusal.Map x)) (sym z)

-- every accepted map is listed whole
pub covered : (m : List ℕ) (w : ℕ) → Covers m w
covered m w c d e =
    let s = accepted_within m w c d e in
    record {
      tiles = listing-tiles (map_of m) (laws m) w s.1;
      walks = λ a. listing-walks (map_of m) (laws m) w s.1 _ (bytes_are a);
    }
