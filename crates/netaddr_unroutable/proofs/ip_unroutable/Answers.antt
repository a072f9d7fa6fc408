-- A first byte that no row has is routable; the mapped form has the second row, and the others those after it.
use Rattle.std.proofs.Common.{ℕ, List, [], ◌∷◌, ◌≡◌, ◌∙◌, refl, sym, ap}
use mathlib.Core.Bool.{true}
use lib.Dec.{eqb}
use Rattle.netaddr_ranges.specs.Prefix.{Range, within, ipv6}
use Rattle.netaddr_ranges.specs.Unroutable.{unroutable4, unroutable16, held, decided}
use Rattle.netaddr_ranges.proofs.Truth.{taken, passed}
use Rattle.netaddr_unroutable.proofs.Begins.{begins, ordinary_routable}
use Rattle.netaddr_unroutable.proofs.ip_unroutable.Goals as goal

abbrev mapped : Range
mapped = ipv6 (0 ∷ 0 ∷ 0 ∷ 0 ∷ 0 ∷ 0xffff ∷ []) 96

-- fc00::/8, the row before it, has another first byte
mapped-row : (a : List ℕ) → within mapped a ≡ true → unroutable16 a ≡ unroutable4 (held 12 a)
unfolding unroutable16 decided
mapped-row a h = passed _ _ _ (ap (λ b. eqb b 0xfc) (begins mapped a refl h)) ∙ taken _ _ _ h

pub returns-then-ipv4_mapped : goal.returns-then-ipv4_mapped
returns-then-ipv4_mapped c =
    c.ipv4_unroutable.ensures
    ∙ (ap unroutable4 c.last_four.ensures ∙ sym (mapped-row c.args.address.now (sym c.ipv4_mapped.ensures ∙ c.if-ipv4_mapped.true)))

pub returns-then-a : goal.returns-then-a
returns-then-a c = sym (ordinary_routable c.args.address.now c.if-a.true)
