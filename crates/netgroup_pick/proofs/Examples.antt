-- Passes and picks computed: occupied and taken groups, max reached and not, equal candidates, a short output; and one list by both numberings
-- of prefixes.
-- Assumes nothing.
use Prim.Native.Nat.{ℕ}
use mathlib.Core.Path.{◌≡◌, refl}
use mathlib.Core.List.{List, [], ◌∷◌, ◌++◌}
use Rattle.candidate_bytes.specs.Candidate.{mapped_front, mapped, valid}
use Rattle.netgroup.specs.Group.{by_prefixes, ipv4, prefix_group, old_prefix_group}
use Rattle.pick_passes.specs.First.{first_pass}
use Rattle.netgroup_pick.specs.Pick.{handed, select_diverse, old_prefix_pick}
use Rattle.refusals.specs.declared.Refusal.TheVariants as refusal
use Rattle.std.specs.Prelude.{Ok, Err}

-- group 7 is occupied and group 3 comes twice; max 2 is reached at the fourth candidate
reached : first_pass (7 ∷ []) 2 (7 ∷ 3 ∷ 3 ∷ 5 ∷ 9 ∷ []) ≡ record { places = 1 ∷ 3 ∷ []; groups = 3 ∷ 5 ∷ []; examined = 4 }
reached = refl

not_reached : first_pass (7 ∷ []) 9 (7 ∷ 3 ∷ 3 ∷ 5 ∷ 9 ∷ []) ≡ record { places = 1 ∷ 3 ∷ 4 ∷ []; groups = 3 ∷ 5 ∷ 9 ∷ []; examined = 5 }
not_reached = refl

none_wanted : first_pass [] 0 (7 ∷ 3 ∷ []) ≡ record { places = []; groups = []; examined = 0 }
none_wanted = refl

-- of a family, in the mapped form
dotted : ℕ → ℕ → ℕ → ℕ → ℕ → List ℕ
dotted f a b c d = f ∷ 0 ∷ (mapped_front ++ (a ∷ b ∷ c ∷ d ∷ 32 ∷ 141 ∷ []))

-- 1.2.3.4, 1.2.9.9, 3.4.0.0 and 1.2.3.4 again
four : List ℕ
unfolding dotted
four = dotted 4 1 2 3 4 ++ (dotted 4 1 2 9 9 ++ (dotted 4 3 4 0 0 ++ dotted 4 1 2 3 4))

-- the equal candidate is no fill pick, though there is room for it; groups go out for the first two picks only
filled : select_diverse by_prefixes four [] 4 (9 ∷ 9 ∷ 9 ∷ 9 ∷ []) (8 ∷ 8 ∷ 8 ∷ 8 ∷ [])
    ≡ handed (Ok (record { total = 3; first = 2; examined = 4; instructions = 0 })) (0 ∷ 2 ∷ 1 ∷ 9 ∷ []) (4294967554 ∷ 4294968068 ∷ 8 ∷ 8 ∷ [])
unfolding four dotted valid mapped ipv4 prefix_group
filled = refl

short : select_diverse by_prefixes four [] 4 (9 ∷ 9 ∷ 9 ∷ []) (8 ∷ 8 ∷ 8 ∷ 8 ∷ []) ≡ handed (Err refusal.OutputTooShort) (9 ∷ 9 ∷ 9 ∷ []) (8 ∷ 8 ∷ 8 ∷ 8 ∷ [])
unfolding four dotted valid mapped ipv4 prefix_group
short = refl

-- 1.2.3.4, ::ffff:1.2.9.9, 0:102:: and ::ffff:3.4.0.0
both : List ℕ
unfolding dotted
both = dotted 4 1 2 3 4 ++ (dotted 6 1 2 9 9 ++ ((6 ∷ 0 ∷ 0 ∷ 0 ∷ 1 ∷ 2 ∷ 0 ∷ 0 ∷ 0 ∷ 0 ∷ 0 ∷ 0 ∷ 0 ∷ 0 ∷ 0 ∷ 0 ∷ 0 ∷ 0 ∷ 32 ∷ 141 ∷ []) ++ dotted 6 3 4 0 0))

-- the mapped address has the group of the IPv4 one, and the IPv6 prefix with its old number a group to itself
apart : select_diverse by_prefixes both [] 3 (9 ∷ 9 ∷ 9 ∷ []) (8 ∷ 8 ∷ 8 ∷ [])
    ≡ handed (Ok (record { total = 3; first = 3; examined = 4; instructions = 0 })) (0 ∷ 2 ∷ 3 ∷ []) (4294967554 ∷ 258 ∷ 4294968068 ∷ [])
unfolding both dotted valid mapped ipv4 prefix_group
apart = refl

-- by the old numbering the IPv4 address and the IPv6 prefix share 258, and all that are mapped share 0
shared : old_prefix_pick both [] 3 (9 ∷ 9 ∷ 9 ∷ []) (8 ∷ 8 ∷ 8 ∷ [])
    ≡ handed (Ok (record { total = 3; first = 2; examined = 4; instructions = 0 })) (0 ∷ 1 ∷ 2 ∷ []) (258 ∷ 0 ∷ 8 ∷ [])
unfolding both dotted valid mapped old_prefix_group
shared = refl
