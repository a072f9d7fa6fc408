-- The row of fc00::/8; then the three groups of rows, of which the first two only say unroutable.
use Rattle.std.proofs.Common.{ℕ, List, [], ◌∷◌, ◌++◌, ◌≡◌, ◌∙◌, refl, sym, ap}
use mathlib.Core.Bool.{true, false, ◌||◌, or_assoc}
use Rattle.netaddr_ranges.specs.Prefix.{within, ipv6}
use Rattle.netaddr_ranges.specs.Ranges.{scope_rows, special_rows, embedded_rows}
use Rattle.netaddr_ranges.specs.Unroutable.{unroutable16, decided}
use Rattle.netaddr_ranges.proofs.Order.{plain_then}
use Rattle.netaddr_ranges.proofs.Truth.{taken, passed}
use Rattle.netaddr_unroutable.proofs.ipv6_unroutable.Goals as goal

groups-in-turn : (a : List ℕ) → decided (scope_rows ++ (special_rows ++ embedded_rows)) a ≡ (decided scope_rows a || decided special_rows a || decided embedded_rows a)
groups-in-turn a =
    plain_then scope_rows (special_rows ++ embedded_rows) a (refl, (refl, (refl, (refl, tt))))
    ∙ (ap (λ t. decided scope_rows a || t) (plain_then special_rows embedded_rows a (refl, (refl, (refl, (refl, (refl, (refl, tt)))))))
    ∙ sym (or_assoc (decided scope_rows a) (decided special_rows a) (decided embedded_rows a)))

first-row : (a : List ℕ) → within (ipv6 (0xfc00 ∷ []) 8) a ≡ true → unroutable16 a ≡ false
unfolding unroutable16 decided
first-row a h = taken _ _ _ h

other-rows : (a : List ℕ) → within (ipv6 (0xfc00 ∷ []) 8) a ≡ false → within (ipv6 (0 ∷ 0 ∷ 0 ∷ 0 ∷ 0 ∷ 0xffff ∷ []) 96) a ≡ false → unroutable16 a ≡ (decided scope_rows a || decided special_rows a || decided embedded_rows a)
unfolding unroutable16 decided
other-rows a h m = passed _ _ _ h ∙ (passed _ _ _ m ∙ groups-in-turn a)

pub returns-then-is_cjdns_ip : goal.returns-then-is_cjdns_ip
returns-then-is_cjdns_ip c = sym (first-row c.args.o (sym c.is_cjdns_ip.ensures ∙ c.if-is_cjdns_ip.true))

pub returns : goal.returns
returns c =
    rw (c.ipv6_scope_unroutable.ensures, c.ipv6_special_unroutable.ensures, c.ipv6_embedded_bogon.ensures)
    (sym (other-rows c.args.o (sym c.is_cjdns_ip.ensures ∙ c.if-is_cjdns_ip.false) c.requires))
