-- A comparison as code has it: the foremost piece of each listing, what was found so far, and what noting a pair does to that. The addresses have
-- 128 bits.
-- Assumes nothing.
use Rattle.std.specs.Prelude.{ℕ, zero, suc, ◌+◌, ◌*◌, ◌^◌, ◌≤◌, ◌<◌, Bool, true, false, ◌≡◌, List, [], ◌∷◌, ◌++◌, ltb, eqb, length, Option, Some, None}
use Rattle.std.proofs.lemmas.List.Edits.{sets}
use Rattle.byte_numbers.specs.Numbers.{big8, bytes4}
use Rattle.asmap_program.specs.Map.{limit}
use Rattle.asmap_codes.specs.Instruction.{map_of}
use Rattle.asmap_check_run.specs.models.State.{most}
use Rattle.prefix_records.specs.Tiling.{Piece, first_of, past_of, Tiles}
use Rattle.prefix_records.specs.declared.Address.{Address}
use Rattle.prefix_records.specs.models.Cursor.{value_of, record_at}
use Rattle.prefix_changes.specs.Change.{Change}
use Rattle.prefix_changes.specs.Record.{change_records_of, first_changed}
use Rattle.asmap_listing.specs.Listing.{listing}
use Rattle.asmap_listing.specs.models.Scan.{leaves, scan_start, scanned}
use Rattle.asmap_list_step.specs.declared.Spot.{Spot}
use Rattle.asmap_list_step.specs.models.Step.{rest, weight, Sane}
use Rattle.asmap_changes.specs.declared.Front.{Front}
use Rattle.asmap_changes.specs.declared.Found.{Found}
use Rattle.asmap_changes.specs.declared.Place.{Place}

-- what the loop is told of a map: it is within the limit, its listing comes out of one pass, tiles, and can be counted
pub record Ready (m : List ℕ) : Type 0 where
  pub within : length m ≤ limit
  pub scans : scanned (map_of m) 128 0 scan_start ≡ leaves (listing (map_of m))
  pub tiles : Tiles 128 0 (2 ^ 128) (listing (map_of m))
  pub few : length (listing (map_of m)) ≤ most

-- no two maps have more changes than so many
abbrev pub most_changes : ℕ
most_changes = 2 * most

-- v is the address x; 0 stands for the one behind all addresses
abbrev pub Stands : ℕ → ℕ → Type 0
Stands v x = (x < 2 ^ 128 → v ≡ x) × (x ≡ 2 ^ 128 → v ≡ 0)

-- a listing's foremost piece is p, and ps are those behind it
pub record Fore (map : List ℕ) (f : Front) (bits numbers : List ℕ) (p : Piece) (ps : List Piece) : Type 0 where
  pub sane : Sane map f.spot bits numbers
  pub scans : leaves ps ≡ rest map f.spot bits numbers
  pub tiles : Tiles 128 (first_of 128 p) (2 ^ 128) (p ∷ ps)
  pub begins : value_of f.begin ≡ first_of 128 p
  pub half : f.begin.low < 2 ^ 64
  pub ends : Stands (value_of f.end) (past_of 128 p)
  pub end_half : f.end.low < 2 ^ 64
  pub long : p.length ≡ f.len
  pub number : p.number ≡ f.number

-- the pieces ps are still to come from the state s on, the first of them at lo; `begin` is lo in halves
pub record Coming (map : List ℕ) (s : Spot) (begin : Address) (bits numbers : List ℕ) (lo : ℕ) (ps : List Piece) : Type 0 where
  pub sane : Sane map s bits numbers
  pub scans : leaves ps ≡ rest map s bits numbers
  pub tiles : Tiles 128 lo (2 ^ 128) ps
  pub stands : Stands (value_of begin) lo
  pub half : begin.low < 2 ^ 64

-- so it is of some pieces
pub record Comes (map : List ℕ) (s : Spot) (begin : Address) (bits numbers : List ℕ) : Type 0 where
  pub lo : ℕ
  pub pieces : List Piece
  pub coming : Coming map s begin bits numbers lo pieces

-- the foremost of the pieces ps that were to come from s on
pub record Split (map : List ℕ) (s : Spot) (ps : List Piece) (bits numbers : List ℕ) (f : Front) : Type 0 where
  pub piece : Piece
  pub behind : List Piece
  pub parts : ps ≡ piece ∷ behind
  pub fore : Fore map f bits numbers piece behind
  pub less : weight map f.spot < weight map s

abbrev pub Fronted : List ℕ → Spot → List Piece → List ℕ → List ℕ → Option Front → Type 0
Fronted map s ps bits numbers (Some f) = Split map s ps bits numbers f
Fronted map s ps bits numbers None = ps ≡ []

-- the foremost of all pieces of a list
pub record First (map : List ℕ) (ps : List Piece) (bits numbers : List ℕ) (f : Front) : Type 0 where
  pub piece : Piece
  pub behind : List Piece
  pub parts : ps ≡ piece ∷ behind
  pub fore : Fore map f bits numbers piece behind

-- the foremost pieces of two listings
pub record Paired (old new : List ℕ) (o n : Front) (old-bits old-numbers new-bits new-numbers : List ℕ) : Type 0 where
  pub old_split : First old (listing (map_of old)) old-bits old-numbers o
  pub new_split : First new (listing (map_of new)) new-bits new-numbers n

-- where two foremost pieces overlap: the place of the one with the longer prefix
abbrev pub place_if : Bool → Front → Front → Place
place_if true o n = record { begin = n.begin; len = n.len }
place_if false o n = record { begin = o.begin; len = o.len }

abbrev pub place_of : Front → Front → Place
place_of o n = place_if (ltb o.len n.len) o n

-- bytes written where they are wanted
abbrev pub put_if : Bool → List ℕ → ℕ → List ℕ → List ℕ
put_if true o k bs = sets o k bs
put_if false o k bs = o

-- one change more, which begins at a
abbrev pub first_if : ℕ → Address → Address → Address
first_if zero a b = a
first_if (suc k) a b = b

abbrev pub added : Found → Address → Found
added f a = record { pieces = f.pieces + 1; first = first_if f.pieces a f.first }

-- a pair noted, by whether its numbers are the same
abbrev pub NotedIf : Bool → Bool → Front → Front → Found → Found → List ℕ → List ℕ → Type 0
NotedIf true writes o n f f' out out' = (f' ≡ f) × (out' ≡ out)
NotedIf false writes o n f f' out out' =
    (f' ≡ added f (place_of o n).begin)
    × (out' ≡ put_if writes out (28 * f.pieces) (record_at (place_of o n).begin (place_of o n).len o.number ++ bytes4 n.number))

abbrev pub Noted : Bool → Front → Front → Found → Found → List ℕ → List ℕ → Type 0
Noted writes o n f f' out out' = NotedIf (eqb o.number n.number) writes o n f f' out out'

-- there is room for one change more, where it is written
abbrev pub Roomy : Bool → ℕ → List ℕ → Type 0
Roomy true k out = 28 * k + 28 ≤ length out
Roomy false k out = Unit {0}

-- and for so many in all
abbrev pub RoomFor : Bool → ℕ → List ℕ → Type 0
RoomFor true n out = 28 * n ≤ length out
RoomFor false n out = Unit {0}

-- what a comparison found in all, and what it left in the output
pub record Whole (writes : Bool) (cs : List Change) (out out' : List ℕ) (r : Found) : Type 0 where
  pub pieces : r.pieces ≡ length cs
  pub first : big8 r.first.high ++ big8 r.first.low ≡ first_changed cs
  pub output : out' ≡ put_if writes out 0 (change_records_of cs)
