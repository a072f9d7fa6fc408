-- What the new numbering of prefixes keeps apart, and where it parts from the old one (document 02, CR 7).
-- Assumes nothing.
use mathlib.Core.Path.{◌≡◌, ◌∙◌, sym, ap, subst}
use mathlib.Core.Logic.{◌≢◌}
use mathlib.Core.List.{List}
use mathlib.Core.Bool.{Bool, true, false, ◌||◌, true≢false}
use Prim.Native.Nat.{ℕ, ◌+◌, ◌<◌}
use native.Mathlib.Decide.{ℕ_discrete}
use native.Mathlib.Omega.{arith}
use borrow.Author.Tests.{eq-eqb, ne_eqb}
use lib.ListN.{take, drop, get_or}
use lib.Seq.{get_or-take, get_or-drop}
use Rattle.candidate_bytes.specs.Candidate.{family, mapped, mapped_front}
use Rattle.candidate_bytes.proofs.Sames.{same_equal}
use Rattle.netgroup.specs.Group.{prefix4, prefix6, old_prefix_group, ipv4, prefix_group}

-- each place holds a byte; past the end stands 0
abbrev pub Bytes : List ℕ → Type 0
Bytes bs = (i : ℕ) → get_or bs i 0 < 256

pub prefix4-below : (c : List ℕ) → Bytes c → prefix4 c < 65536
prefix4-below c b = omega (arith, b 14, b 15)

pub prefix6-below : (c : List ℕ) → Bytes c → prefix6 c < 4294967296
prefix6-below c b = omega (arith, b 2, b 3, b 4, b 5)

pub of-ipv4 : (c : List ℕ) → ipv4 c ≡ true → prefix_group c ≡ 4294967296 + prefix4 c
unfolding prefix_group
of-ipv4 c e = rw e

pub of-ipv6 : (c : List ℕ) → ipv4 c ≡ false → prefix_group c ≡ prefix6 c
unfolding prefix_group
of-ipv6 c e = rw e

-- ---- two candidates

-- an IPv4 group is that of no IPv6 address that is not mapped
pub apart : (c d : List ℕ) → Bytes d → ipv4 c ≡ true → ipv4 d ≡ false → prefix_group c ≢ prefix_group d
apart c d b x y e = omega (arith, of-ipv4 c x, of-ipv6 d y, prefix6-below d b, e)

-- of two IPv4 addresses, mapped or not, the groups are one exactly where the first two bytes are the same
module _ (c d : List ℕ) (x : ipv4 c ≡ true) (y : ipv4 d ≡ true) where
  pub ipv4_shares : Bytes c → Bytes d → prefix_group c ≡ prefix_group d → (get_or c 14 0 ≡ get_or d 14 0) × (get_or c 15 0 ≡ get_or d 15 0)
  ipv4_shares b b' e =
      let p = of-ipv4 c x in
      let q = of-ipv4 d y in
      (omega (arith, p, q, e, b 15, b' 15), omega (arith, p, q, e, b 15, b' 15))

  pub ipv4-shared : get_or c 14 0 ≡ get_or d 14 0 → get_or c 15 0 ≡ get_or d 15 0 → prefix_group c ≡ prefix_group d
  ipv4-shared e f = omega (arith, of-ipv4 c x, of-ipv4 d y, e, f)

-- ---- one candidate, by both numberings

-- of family 4 the new number is the old one in the other range
pub family_4_moved : (c : List ℕ) → family c ≡ 4 → prefix_group c ≡ 4294967296 + old_prefix_group c
unfolding prefix_group old_prefix_group ipv4
family_4_moved c e = rw (eq-eqb (family c) 4 e)

-- an IPv6 address that is not mapped keeps its number
pub ipv6_stays : (c : List ℕ) → ipv4 c ≡ false → prefix_group c ≡ old_prefix_group c
unfolding old_prefix_group ipv4
ipv6_stays c e = go (ℕ_discrete (family c) 4)
  where
    go : Dec (family c ≡ 4) → prefix_group c ≡ old_prefix_group c
    go (yes f) = let z : true ≡ false = sym (rw (eq-eqb (family c) 4 f)) ∙ e in absurd (true≢false z)
    go (no n) = rw (ne_eqb (family c) 4 n) (of-ipv6 c e)

-- an IPv4 address that is not of family 4 is mapped
pub mapped-ipv4 : (c : List ℕ) → family c ≢ 4 → ipv4 c ≡ true → mapped c ≡ true
unfolding ipv4
mapped-ipv4 c n e = subst (λ (t : Bool). (t || mapped c) ≡ true) (ne_eqb (family c) 4 n) e

-- and had the number 0: its first ten bytes are zeros
pub mapped_was_0 : (c : List ℕ) → family c ≢ 4 → mapped c ≡ true → old_prefix_group c ≡ 0
unfolding old_prefix_group mapped
mapped_was_0 c n e =
    let front : take 12 (drop 2 c) ≡ mapped_front = same_equal (take 12 (drop 2 c)) mapped_front e in
    let at : (i : ℕ) → i < 12 → get_or c (2 + i) 0 ≡ get_or mapped_front i 0
    = λ i h. sym (get_or-take 12 (drop 2 c) i 0 h ∙ get_or-drop 2 c i 0) ∙ ap (λ (l : List ℕ). get_or l i 0) front in
    rw (ne_eqb (family c) 4 n) (omega (arith, at 0 (omega arith), at 1 (omega arith), at 2 (omega arith), at 3 (omega arith)))
