-- An instruction's window, without the opcode's bits, holds its operand: an opcode has 1 to 3 bits, and that of the longest operand,
-- a JUMP's of 55 bits, has 2.
-- Assumes nothing.
use mathlib.Core.Path.{◌≡◌, ◌∙◌, ap}
use mathlib.Core.List.{List, [], ◌∷◌}
use Prim.Native.Nat.{ℕ, zero, suc, ◌+◌, ◌-◌, ◌/◌, ◌^◌, ◌≤◌}
use native.Mathlib.Omega.{arith}
use lib.Dec.{lit≤}
use lib.ListN.{drop}
use lib.Seq.{drop-drop}
use Rattle.asmap_codes.specs.Bits.{map_bits}
use Rattle.asmap_codes.specs.Row.{type_row, operand_row, longest}
use Rattle.asmap_codes.specs.Code.{code, code_at}
use Rattle.asmap_codes.proofs.RoundTrip.{tail_read, cut_no_value}
use Rattle.asmap_window.specs.models.Window.{Window}
use Rattle.asmap_row_decoder.specs.models.InWindow.{Holds}
use Rattle.asmap_window.proofs.ByteLaws.{window_shift}
use Rattle.asmap_codes.specs.Reading.{Value}

-- an opcode read from bit p to bit n, and its operand, fit a window of 57 bits from p on
abbrev Room : ℕ → ℕ → ℕ → Type 0
Room p op n = (p ≤ n) × (n - p + longest (operand_row op).sizes ≤ 57)

-- an operand that is no JUMP's has at most 33 bits
short_operand : (op : ℕ) → 2 ≤ op → longest (operand_row op).sizes ≤ 33
short_operand zero h = absurd (omega arith)
short_operand (suc zero) h = absurd (omega arith)
short_operand (suc (suc zero)) h = lit≤ tt
short_operand (suc (suc (suc op))) h = lit≤ tt

room-return : (p op n : ℕ) → op ≡ 0 → n ≡ p + 1 → Room p op n
room-return p op n e q = rw e (omega arith, omega arith)

room-jump : (p op n : ℕ) → op ≡ 1 → n ≡ p + 2 → Room p op n
room-jump p op n e q = rw e (omega arith, omega arith)

room_other : (p op n : ℕ) → 2 ≤ op → n ≡ p + 3 → Room p op n
room_other p op n h q = (omega arith, omega (arith, short_operand op h))

opcode_room : (p : ℕ) (bs : List ℕ) (op n : ℕ) → code type_row.sizes type_row.least p bs ≡ Value op n → Room p op n
opcode_room p [] op n e = cut_no_value op n e
opcode_room p (zero ∷ bs) op n e = let t = tail_read 0 0 (p + 1) bs op n e in room-return p op n (omega (arith, t.0)) (omega (arith, t.1))
opcode_room p (suc b ∷ []) op n e = cut_no_value op n e
opcode_room p (suc b ∷ zero ∷ bs) op n e = let t = tail_read 0 1 (p + 1 + 1) bs op n e in room-jump p op n (omega (arith, t.0)) (omega (arith, t.1))
opcode_room p (suc b ∷ suc d ∷ bs) op n e = let t = tail_read 1 2 (p + 1 + 1) bs op n e in room_other p op n (omega (arith, t.0)) (omega (arith, t.1))

module _ (m : List ℕ) (p op n : ℕ) (e : code_at m p type_row ≡ Value op n) where
  pub room : Room p op n
  room = opcode_room p (drop p (map_bits m)) op n e

  pub operand-holds : (w : ℕ) → Window 57 w (drop p (map_bits m)) → Holds (operand_row op) m n (w / 2 ^ (n - p))
  operand-holds w h =
      let k : p + (n - p) ≡ n = omega (arith, room) in
      let d : drop (n - p) (drop p (map_bits m)) ≡ drop n (map_bits m) = drop-drop (n - p) p (map_bits m) ∙ ap (λ (i : ℕ). drop i (map_bits m)) k in
      rw (← d) (window_shift (n - p) (longest (operand_row op).sizes) w (drop p (map_bits m)) (λ i l. h i (omega (arith, room))))
