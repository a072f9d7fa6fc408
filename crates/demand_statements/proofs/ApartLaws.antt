-- Groups without a map, two side by side and one by both numberings (netgroup, `PrefixLaws`), by the candidates' bytes in their rows.
-- Assumes nothing.
use Prim.Native.Nat.{ℕ, ◌+◌}
use mathlib.Core.Path.{◌≡◌, ◌∙◌, sym, ap}
use mathlib.Core.Logic.{◌≢◌}
use mathlib.Core.List.{List}
use native.Mathlib.Omega.{arith}
use lib.ListN.{get_or}
use Rattle.netgroup.specs.Group.{prefix_group}
use Rattle.netgroup.proofs.PrefixLaws as law
use Rattle.demand_statements.specs.Picked.{prefix_at, old_prefix_at}
use Rattle.demand_statements.specs.Apart.{Apart, Renumbered}
use Rattle.demand_statements.proofs.CandidateLaws.{ipv4_of, prefix_of, old-prefix_of}

pub apart : (c d : List ℕ) (g h : ℕ) → law.Bytes c → law.Bytes d → g ≡ prefix_at c 0 → h ≡ prefix_at d 0 → Apart c d g h
apart c d g h b b' e f =
    let p : g ≡ prefix_group c = e ∙ sym (prefix_of c) in
    let q : h ≡ prefix_group d = f ∙ sym (prefix_of d) in
    record {
      never_shared = λ x y z. law.apart c d b' (ipv4_of c ∙ x) (ipv4_of d ∙ y) (sym p ∙ z ∙ q);
      shares = λ x y z. law.ipv4_shares c d (ipv4_of c ∙ x) (ipv4_of d ∙ y) b b' (sym p ∙ z ∙ q);
      shared = λ x y i j. p ∙ law.ipv4-shared c d (ipv4_of c ∙ x) (ipv4_of d ∙ y) i j ∙ sym q;
    }

pub renumbered : (c : List ℕ) (old new : ℕ) → old ≡ old_prefix_at c 0 → new ≡ prefix_at c 0 → Renumbered c old new
renumbered c old new e f =
    let p = e ∙ sym (old-prefix_of c) in
    let q = f ∙ sym (prefix_of c) in
    record {
      family_4 = λ x. q ∙ law.family_4_moved c x ∙ ap (λ (k : ℕ). 4294967296 + k) (sym p);
      mapped = λ x y.
          let n : get_or c 0 0 ≢ 4 = λ z. omega (arith, x, z) in
          let i = ipv4_of c ∙ y in
          (p ∙ law.mapped_was_0 c n (law.mapped-ipv4 c n i), q ∙ law.of-ipv4 c i);
      others = λ y. q ∙ law.ipv6_stays c (ipv4_of c ∙ y) ∙ sym p;
    }
