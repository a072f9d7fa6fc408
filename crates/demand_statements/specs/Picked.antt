-- Demand 3 for groups and picks, as a caller reads it off the numbers and slices handed out. Candidates are rows of 20 bytes: family, a
-- zero, 16 address bytes, port.
-- Assumes nothing.
use Rattle.std.specs.Prelude.{ℕ, zero, suc, ◌+◌, ◌*◌, ◌/◌, ◌<◌, ◌≡◌, ◌⊎◌, ◌≢◌, Bool, cond, ◌||◌, eqb, length, take, drop, get_or}
use mathlib.Core.List.{List, [], ◌∷◌, Memᴰ}
use Rattle.candidate_bytes.specs.Candidate.{same}
use Rattle.asmap_program.specs.declared.Instruction.{Instruction}
use Rattle.asmap_program.specs.declared.Kind.TheVariants.{Returned, Differed}
use Rattle.asmap_program.specs.Walk.{Walked}
use Rattle.asmap_walk_bits.specs.Walk.{walk_of}
use Rattle.pick_passes.specs.First.{Pass, first_pass}
use Rattle.pick_passes.specs.Ranked.{sum}

-- the numbers f 0, f 1, f 2, n of them
unfoldable pub each : ℕ → (ℕ → ℕ) → List ℕ
each zero f = []
each (suc n) f = f 0 ∷ each n (λ (i : ℕ). f (suc i))

-- the defined walk, through the map m, of the 16 address bytes of the candidate at place i
abbrev pub walk_at : List ℕ → List ℕ → ℕ → Walked
walk_at m candidates i = walk_of m (take 16 (drop (20 * i + 2) candidates)) 128

-- the candidate at place i is IPv4: of family 4, or mapped, with ten zero bytes and ff ff in front of the last four of its address
unfoldable pub ipv4_at : List ℕ → ℕ → Bool
ipv4_at candidates i = eqb (get_or candidates (20 * i + 0) 0) 4 || same (take 12 (drop (20 * i + 2) candidates)) (0 ∷ 0 ∷ 0 ∷ 0 ∷ 0 ∷ 0 ∷ 0 ∷ 0 ∷ 0 ∷ 0 ∷ 255 ∷ 255 ∷ [])

-- its prefix: the first two bytes of its IPv4 address, in a number range to themselves (document 02, CR 7); of IPv6 its first four address bytes
unfoldable pub prefix_at : List ℕ → ℕ → ℕ
prefix_at candidates i =
    let byte : ℕ → ℕ = λ (k : ℕ). get_or candidates (20 * i + k) 0 in
    cond (ipv4_at candidates i) (4294967296 + (256 * byte 14 + byte 15)) (16777216 * byte 2 + 65536 * byte 3 + 256 * byte 4 + byte 5)

-- "the old numbering": of family 4 the first two bytes of its IPv4 address, of family 6 its first four address bytes
unfoldable pub old_prefix_at : List ℕ → ℕ → ℕ
old_prefix_at candidates i =
    let byte : ℕ → ℕ = λ (k : ℕ). get_or candidates (20 * i + k) 0 in
    cond (eqb (byte 0) 4) (256 * byte 14 + byte 15) (16777216 * byte 2 + 65536 * byte 3 + 256 * byte 4 + byte 5)

-- That walk ended at a RETURN or at a MATCH that differs, so it did not abort; and its number is 0 only at a difference before any
-- DEFAULT, opcode 3, was read.
pub record Ends (w : Walked) : Type 0 where
  pub ended : (w.kind ≡ Returned) ⊎ (w.kind ≡ Differed)
  pub zero : w.number ≡ 0 → (w.kind ≡ Differed) × ((i : Instruction) → Memᴰ i w.read → i.opcode ≢ 3)

-- ---- a group

-- With a map (`has` not 0) the group is the defined walk's number, and that walk ended; without one it is the prefix.
pub record Grouped (has : ℕ) (m candidate : List ℕ) (group : ℕ) : Type 0 where
  pub by_map : has ≢ 0 → (group ≡ (walk_at m candidate 0).number) × Ends (walk_at m candidate 0)
  pub by_prefix : has ≡ 0 → group ≡ prefix_at candidate 0

-- ---- a pick

-- The first-pass picks, in order, with their groups, how many they are, and the candidates examined, are those of the defined pass.
pub record Passed (pass : Pass) (picks groups : List ℕ) (first examined : ℕ) : Type 0 where
  pub same_first : first ≡ length pass.places
  pub same_picks : take first picks ≡ pass.places
  pub same_groups : take first groups ≡ pass.groups
  pub same_examined : examined ≡ pass.examined

-- Without a map: the defined first pass goes over the prefixes, by the numbering of the call, and there are no instructions. prefix: of the
-- candidate at a place.
pub record ByPrefixes (prefix : ℕ → ℕ) (candidates occupied : List ℕ) (max : ℕ) (picks groups : List ℕ) (first examined instructions : ℕ) : Type 0 where
  pub passed : Passed (first_pass occupied max (each (length candidates / 20) prefix)) picks groups first examined
  pub counted : instructions ≡ 0

module _ (m candidates occupied : List ℕ) (max : ℕ) (picks groups : List ℕ) (first examined instructions : ℕ) where
  -- With a map: the defined first pass goes over the numbers of the defined walks; the instructions are the counts of the walks of the
  -- candidates examined, added up; none of those walks aborts.
  pub record ByMap : Type 0 where
    pub passed : Passed (first_pass occupied max (each (length candidates / 20) (λ (i : ℕ). (walk_at m candidates i).number))) picks groups first examined
    pub counted : instructions ≡ sum (take examined (each (length candidates / 20) (λ (i : ℕ). length (walk_at m candidates i).read)))
    pub ends : (i : ℕ) → i < examined → Ends (walk_at m candidates i)

  pub record Picked (has : ℕ) : Type 0 where
    pub by_map : has ≢ 0 → ByMap
    pub by_prefix : has ≡ 0 → ByPrefixes (prefix_at candidates) candidates occupied max picks groups first examined instructions
