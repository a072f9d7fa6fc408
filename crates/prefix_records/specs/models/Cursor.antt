-- An address as code holds it, in two halves: where a piece begins, and where the next one does. Assumes nothing.
use Rattle.std.specs.Prelude.{◌≡◌, ℕ, ◌+◌, ◌-◌, ◌*◌, ◌^◌, ◌<◌, List, [], ◌∷◌, ◌++◌}
use Rattle.byte_numbers.specs.Numbers.{big8, bytes4}
use Rattle.prefix_records.specs.declared.Address.{Address}

-- the number that an address is
abbrev pub value_of : Address → ℕ
value_of a = a.high * 2 ^ 64 + a.low

-- r is the address behind a piece of prefix length l that begins at a; 0 stands for the one behind all addresses
abbrev pub Behind : Address → ℕ → Address → Type 0
Behind a l r =
    (value_of a + 2 ^ (128 - l) < 2 ^ 128 → value_of r ≡ value_of a + 2 ^ (128 - l))
    × (r.low < 2 ^ 64)
    × (value_of a + 2 ^ (128 - l) ≡ 2 ^ 128 → value_of r ≡ 0)

-- the record of a piece that begins at an address
abbrev pub record_at : Address → ℕ → ℕ → List ℕ
record_at a l n = (big8 a.high ++ big8 a.low) ++ (l ∷ 0 ∷ 0 ∷ 0 ∷ []) ++ bytes4 n
