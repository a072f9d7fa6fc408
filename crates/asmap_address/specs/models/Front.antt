-- The front of a MATCH: what the walk's code asks of an address before it compares bit by bit. No promise speaks of it.
-- Assumes nothing.
use Rattle.std.specs.Prelude.{ℕ, ◌+◌, ◌-◌, ◌≤◌, ◌<◌, ◌≡◌, ◌≢◌, List}
use Rattle.asmap_program.specs.Map.{bit_of, address_bit}

-- Of the n lowest bits of x, from the highest down, the first r are those of the address a from bit `at` on, and the next is not.
pub record Front (a : List ℕ) (at x n r : ℕ) : Type 0 where
  pub most : r ≤ n
  pub same : (k : ℕ) → k < n → n ≤ k + r → bit_of x k ≡ address_bit a (at + (n - 1 - k))
  pub differs : r < n → bit_of x (n - 1 - r) ≢ address_bit a (at + r)
