-- Every group fits 10 columns: with a map a group is the number of a walk, which is an operand that was read, or 0; without one it is made of
-- bytes.
-- Assumes nothing.
use mathlib.Core.Bool.{Bool, true, false, cond}
use mathlib.Core.Path.{◌≡◌, refl}
use mathlib.Core.List.{List}
use Prim.Native.Nat.{ℕ, zero, suc, ◌+◌, ◌/◌, ◌≤◌, ◌<◌}
use native.Mathlib.Decide.{dec_lt}
use native.Mathlib.Omega.{arith}
use lib.Dec.{eqb}
use lib.ListN.{length, take, drop, get_or, length-take, get_or-eq_default}
use lib.Seq.{get_or-take, get_or-drop}
use Rattle.asmap_program.specs.declared.Instruction.{Instruction}
use Rattle.asmap_program.specs.declared.Walker.{Walker}
use Rattle.asmap_program.specs.Map.{Map, Fetched, Whole, CutOpcode, CutOperand, length_of, address_bit}
use Rattle.asmap_program.specs.Walk.{Walked, Turn, Goes, Stops, Compared, Equal, Different, enough, meeting, compared, go_on, turn_whole, turn_on, walk_from, walk}
use Rattle.asmap_codes.specs.Instruction.{map_of}
use Rattle.asmap_walk_bits.specs.Walk.{walk_of}
use Rattle.asmap_records.proofs.Reading.{stands}
use Rattle.candidate_bytes.specs.Candidate.{family, address}
use Rattle.peer_lists.specs.Candidates.{cut, candidates_of}
use Rattle.netgroup.specs.Group.{Numbering, by_map, by_prefixes, by_old_prefixes, prefix4, prefix6, ipv4, prefix_group, old_prefix_group, group_of}
use Rattle.netgroup.proofs.PrefixLaws.{Bytes, prefix4-below, prefix6-below}
use Rattle.pick_passes.specs.Ranked.{groups_of}
use Rattle.group_shares.specs.models.Sorted.{Below}

-- ---- the number of a walk

-- what a turn hands on: a default, or the number at the end
abbrev Small : Turn → Type 0
Small (Goes i s) = s.default < 4294967296
Small (Stops r) = r.number < 4294967296

small-enough : (b : Bool) (s : Walker) (i : Instruction) (t : Turn) → Small t → Small (enough b s i t)
unfolding enough
small-enough true s i t h = h
small-enough false s i t h = omega arith

small_meeting : (s : Walker) (i : Instruction) (c : Compared) → s.default < 4294967296 → Small (meeting s i c)
small_meeting s i Equal h = h
small_meeting s i (Different u) h = h

small_on : (k : Walker → Walked) → ((s : Walker) → s.default < 4294967296 → (k s).number < 4294967296) → (t : Turn) → Small t → (go_on k t).number < 4294967296
small_on k ih (Goes i s) h = ih s h
small_on k ih (Stops r) h = h

module _ (a : ℕ → ℕ) (m : Map) (law : (p : ℕ) (i : Instruction) → m.fetch p ≡ Whole i → i.operand < 4294967296) where
  small-whole : (s : Walker) (i : Instruction) → i.operand < 4294967296 → s.default < 4294967296 → (k : ℕ) → Small (turn_whole a m s i k)
  small-whole s i h d zero = h
  small-whole s i h d (suc zero) = small-enough _ s i _ d
  small-whole s i h d (suc (suc zero)) = small-enough _ s i _ (small_meeting s i (compared a (length_of i.operand) i.operand s.used) d)
  small-whole s i h d (suc (suc (suc n))) = h

  small_turn : (s : Walker) (r : Fetched) → m.fetch s.at ≡ r → s.default < 4294967296 → Small (turn_on a m s r)
  small_turn s (Whole i) f d = small-whole s i (law s.at i f) d i.opcode
  small_turn s CutOpcode f d = omega arith
  small_turn s (CutOperand op) f d = omega arith

  small_walk : (f : ℕ) (s : Walker) → s.default < 4294967296 → (walk_from a m f s).number < 4294967296
  unfolding walk_from
  small_walk zero s d = omega arith
  small_walk (suc f) s d = small_on _ (λ s' e. small_walk f s' e) (turn_on a m s (m.fetch s.at)) (small_turn s (m.fetch s.at) refl d)

walk-number : (m a : List ℕ) (w : ℕ) → (walk_of m a w).number < 4294967296
unfolding walk_of walk map_of
walk-number m a w = small_walk (address_bit a) (map_of m) (λ p i f. (stands m p i f).operand) (map_of m).bits _ (omega arith)

-- ---- a group

-- by prefixes, of IPv4 or not
prefix-number : (t : Bool) (c : List ℕ) → Bytes c → cond t (4294967296 + prefix4 c) (prefix6 c) ≤ 4295032831
prefix-number true c b = omega (arith, prefix4-below c b)
prefix-number false c b = omega (arith, prefix6-below c b)

old-prefix-number : (t : Bool) (c : List ℕ) → Bytes c → cond t (prefix4 c) (prefix6 c) ≤ 4295032831
old-prefix-number true c b = omega (arith, prefix4-below c b)
old-prefix-number false c b = omega (arith, prefix6-below c b)

-- of any map, accepted or not; and of any family
group-number : (n : Numbering) (c : List ℕ) → Bytes c → group_of n c ≤ 4295032831
unfolding prefix_group old_prefix_group
group-number (by_map m) c b = omega (arith, walk-number m (address c) 128)
group-number by_prefixes c b = prefix-number (ipv4 c) c b
group-number by_old_prefixes c b = old-prefix-number (eqb (family c) 4) c b

-- ---- the groups of a list of candidates

bytes_take : (n : ℕ) (bs : List ℕ) → Bytes bs → Bytes (take n bs)
bytes_take n bs b i = go (dec_lt i n)
  where
    go : Dec (i < n) → get_or (take n bs) i 0 < 256
    go (yes l) = rw (get_or-take n bs i 0 l) (b i)
    go (no l) = rw (get_or-eq_default (take n bs) 0 (le_of l)) (omega arith)
      where
        le_of : (i < n → ⊥) → length (take n bs) ≤ i
        le_of q = omega (arith, q, length-take n bs)

bytes_drop : (n : ℕ) (bs : List ℕ) → Bytes bs → Bytes (drop n bs)
bytes_drop n bs b i = rw (get_or-drop n bs i 0) (b (n + i))

cut_below : (n : Numbering) (k : ℕ) (bs : List ℕ) → Bytes bs → Below 4295032831 (groups_of n (cut k bs))
cut_below n zero bs b = tt
cut_below n (suc k) bs b = (group-number n (take 20 bs) (bytes_take 20 bs b), cut_below n k (drop 20 bs) (bytes_drop 20 bs b))

-- the greatest group is that of 255.255.0.0/16, in the number range of IPv4 prefixes
pub groups-below : (n : Numbering) (bs : List ℕ) → Bytes bs → Below 4295032831 (groups_of n (candidates_of bs))
groups-below n bs b = cut_below n (length bs / 20) bs b
