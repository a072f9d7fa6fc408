-- What a numbering that is not a map comes to, and a group by prefixes by the one rule for both numberings.
-- Assumes nothing.
use mathlib.Core.Path.{◌≡◌, ◌∙◌, refl, sym, ap}
use mathlib.Core.List.{List}
use mathlib.Core.Bool.{Bool, true, false, cond, not, ◌&&◌, ◌||◌, or-false}
use Prim.Native.Nat.{ℕ, ◌+◌}
use native.Mathlib.Omega.{arith}
use lib.Dec.{eqb}
use Rattle.candidate_bytes.specs.Candidate.{family, mapped}
use Rattle.netgroup.specs.Group.{Numbering, by_prefixes, by_old_prefixes, prefix4, prefix6, old_prefix_group, ipv4, prefix_group, grouped_of}
use Rattle.netgroup.specs.Refusal.{limit_refusal, check_refusal}
use Rattle.netgroup.specs.models.Which.{by_numbers}
use Rattle.std.specs.Prelude.{None}

-- without a map there is nothing to refuse, and the prefix is the group
pub record NoMap (n : Numbering) (old : Bool) : Type 0 where
  pub limit : limit_refusal n ≡ None
  pub check : check_refusal n ≡ None
  pub group : (c : List ℕ) → grouped_of n c ≡ record { group = by_numbers old c; count = 0 }

pub no_map : (old : Bool) → NoMap (cond old by_old_prefixes by_prefixes) old
no_map true = record { limit = refl; check = refl; group = λ c. refl }
no_map false = record { limit = refl; check = refl; group = λ c. refl }

-- t: whether the rule for IPv4 is the one
pub numbers_by : (old : Bool) (c : List ℕ) (t : Bool) → (eqb (family c) 4 || (not old && mapped c)) ≡ t → by_numbers old c ≡ cond t (cond old 0 4294967296 + prefix4 c) (prefix6 c)
unfolding old_prefix_group ipv4 prefix_group
numbers_by true c t e = ap (λ (b : Bool). cond b (prefix4 c) (prefix6 c)) (sym (or-false (eqb (family c) 4)) ∙ e) ∙ from_0 t
  where
    from_0 : (b : Bool) → cond b (prefix4 c) (prefix6 c) ≡ cond b (0 + prefix4 c) (prefix6 c)
    from_0 true = omega arith
    from_0 false = refl
numbers_by false c t e = ap (λ (b : Bool). cond b (4294967296 + prefix4 c) (prefix6 c)) e
