-- Relay skip (document 01, Filters): whether an entry of an addrv2 message is kept from being sent on. An entry is a BIP155
-- network id, the address bytes and a port. Assumes nothing.
use Rattle.std.specs.Prelude.{ℕ, Bool, true, false, cond, not, ◌&&◌, List, [], ◌∷◌, leb, eqb, length, Result}
use Rattle.netaddr_ranges.specs.Prefix.{within, ipv6}
use Rattle.netaddr_ranges.specs.Unroutable.{unroutable4, unroutable16}
use Rattle.refusals.specs.declared.Refusal.{Refusal}
use Rattle.refusals.specs.declared.Refusal.TheVariants as refusal
use Rattle.netaddr.specs.Answer.{unless_refused}

-- The network ids 1 to 6 have 4, 16, 10, 32, 32 and 16 address bytes; any other has at most 512.
unfoldable pub length_fits : ℕ → ℕ → Bool
length_fits id n =
    cond (eqb id 1) (eqb n 4)
    (cond (eqb id 2) (eqb n 16)
    (cond (eqb id 3) (eqb n 10)
    (cond (eqb id 4) (eqb n 32)
    (cond (eqb id 5) (eqb n 32)
    (cond (eqb id 6) (eqb n 16) (leb n 512))))))

-- an address of id 6, CJDNS, that does not lie in fc00::/8
unfoldable pub outside_cjdns : ℕ → List ℕ → Bool
outside_cjdns id a = eqb id 6 && not (within (ipv6 (0xfc00 ∷ []) 8) a)

-- What is asked last, of any id: port 0 is skipped; then 1 and 2 when the address is unroutable; all others pass.
abbrev pub by_port_and_address : ℕ → List ℕ → ℕ → Bool
by_port_and_address id a port =
    cond (eqb port 0) true
    (cond (eqb id 1) (unroutable4 a)
    (cond (eqb id 2) (unroutable16 a) false))

-- In the paper's order: id 5 never; 3 always; 6 outside fc00::/8; then by the port and the address.
unfoldable pub skips : ℕ → List ℕ → ℕ → Bool
skips id a port =
    cond (eqb id 5) false
    (cond (eqb id 3) true
    (cond (outside_cjdns id a) true (by_port_and_address id a port)))

-- The call's answer: 17 for a length that the id does not have, else whether the entry is skipped.
abbrev pub relay_of : ℕ → List ℕ → ℕ → Result Bool Refusal
relay_of id a port = unless_refused (not (length_fits id (length a))) refusal.RelayLength (skips id a port)
