-- The rows in order; three of them go by the same four bytes, and two ask for zeros beside their IPv4.
use Rattle.std.proofs.Common.{ℕ, List, [], ◌∷◌, ◌≡◌, ◌∙◌, sym}
use mathlib.Core.Bool.{Bool, true, false, cond, not, ◌||◌}
use Rattle.netaddr_ranges.specs.Unroutable.{unroutable4, held, zeros, decided}
use Rattle.netaddr_ranges.specs.Prefix.{within, ipv6}
use Rattle.netaddr_ranges.specs.Ranges.{embedded_rows}
use Rattle.netaddr_ranges.proofs.Truth.{taken, passed, choose_either, unless_both}
use Rattle.netaddr_ipv6.proofs.ipv6_embedded_bogon.Goals as goal

-- the six rows as the code asks them: the three that go by the last four bytes as one
in-turn : (a : List ℕ) → decided embedded_rows a ≡
    cond (within (ipv6 (0x2001 ∷ []) 32) a) true
    (cond (within (ipv6 (0x2002 ∷ []) 16) a) (unroutable4 (held 2 a) || not (zeros 6 10 a))
    (cond (within (ipv6 (0x64 ∷ 0xff9b ∷ []) 96) a || within (ipv6 (0 ∷ 0 ∷ 0 ∷ 0 ∷ 0xffff ∷ []) 96) a || within (ipv6 [] 96) a) (unroutable4 (held 12 a))
    (cond (within (ipv6 (0x64 ∷ 0xff9b ∷ 0x1 ∷ []) 48) a) (unroutable4 (held 12 a) || not (zeros 6 6 a)) false)))
unfolding decided
in-turn a =
    rw (← unless_both (zeros 6 10 a) (unroutable4 (held 2 a)), ← unless_both (zeros 6 6 a) (unroutable4 (held 12 a)), ← choose_either, ← choose_either)

-- the rows after 2001::/32 and 2002::/16, by what the calls found: x, y and z
after_two : (a : List ℕ) (x y z : Bool)
    → x ≡ within (ipv6 (0x64 ∷ 0xff9b ∷ []) 96) a
    → y ≡ within (ipv6 (0 ∷ 0 ∷ 0 ∷ 0 ∷ 0xffff ∷ []) 96) a
    → z ≡ within (ipv6 [] 96) a
    → within (ipv6 (0x2001 ∷ []) 32) a ≡ false
    → within (ipv6 (0x2002 ∷ []) 16) a ≡ false
    → decided embedded_rows a ≡
    cond (x || y || z) (unroutable4 (held 12 a)) (cond (within (ipv6 (0x64 ∷ 0xff9b ∷ 0x1 ∷ []) 48) a) (unroutable4 (held 12 a) || not (zeros 6 6 a)) false)
after_two a x y z e f g h k = rw (e, f, g) (in-turn a ∙ (passed _ _ _ h ∙ passed _ _ _ k))

pub returns-then-teredo : goal.returns-then-teredo
returns-then-teredo c = sym (in-turn c.args.o ∙ taken _ _ _ c.if-teredo.true)

pub returns-then-six_to_four : goal.returns-then-six_to_four
returns-then-six_to_four c = rw (c.ipv4_unroutable.ensures, c.zero_bytes.ensures)
    (sym (in-turn c.args.o ∙ (passed _ _ _ c.if-teredo.false ∙ taken _ _ _ c.if-six_to_four.true)))

pub returns-then-by_last_four : goal.returns-then-by_last_four
returns-then-by_last_four c = c.ipv4_unroutable-last_unroutable.ensures
    ∙ sym
    (after_two c.args.o _ _ _ c.ipv6_nat64.ensures c.ipv6_translated.ensures c.ipv4_compatible.ensures c.if-teredo.false c.if-six_to_four.false
    ∙ taken _ _ _ c.if-by_last_four.true)

pub returns-then-local_nat64 : goal.returns-then-local_nat64
returns-then-local_nat64 c = rw (c.ipv4_unroutable-last_unroutable.ensures, c.zero_bytes-then-local_nat64.ensures)
    (sym
    (after_two c.args.o _ _ _ c.ipv6_nat64.ensures c.ipv6_translated.ensures c.ipv4_compatible.ensures c.if-teredo.false c.if-six_to_four.false
    ∙ (passed _ _ _ c.if-by_last_four.false ∙ taken _ _ _ c.if-local_nat64.true)))

pub returns : goal.returns
returns c = sym
    (after_two c.args.o _ _ _ c.ipv6_nat64.ensures c.ipv6_translated.ensures c.ipv4_compatible.ensures c.if-teredo.false c.if-six_to_four.false
    ∙ (passed _ _ _ c.if-by_last_four.false ∙ passed _ _ _ c.if-local_nat64.false))
