-- Open jumps and address bits left are together at most w, in every state that the check comes to: each open jump has used a bit. So
-- an array of w jumps is never full when one opens (document 01, Check). Also what acceptance carries: the count is the length of
-- the list read, and the depth at most w.
-- Assumes nothing.
use Prim.Native.Nat.{ℕ, suc, ◌+◌, ◌≤◌, ◌<◌}
use mathlib.Core.Bool.{false}
use mathlib.Core.Path.{◌≡◌, refl, subst}
use mathlib.Core.List.{List, [], ◌∷◌}
use native.Mathlib.Omega.{arith}
use borrow.Author.Tests.{leb-false}
use lib.ListN.{length}
use Rattle.asmap_program.specs.declared.Instruction.{Instruction}
use Rattle.asmap_program.specs.Map.{Map, target_of}
use Rattle.asmap_program.specs.Check.{Open, past, Before, Nested, State, start, check, unpacked}
pub use Rattle.asmap_program.specs.Check.{Reached, begins, goes}
use Rattle.asmap_program.proofs.Tree.{Moves, closes, opened, matched, defaulted, View, view, Accepts, last, more, accepts}
use Rattle.asmap_program.specs.Verdict.{Accepted}

-- of each open jump: it and those under it, with the bits that it saved, are at most w
abbrev pub Held : ℕ → List Open → Type 0
Held w [] = Unit {0}
Held w (o ∷ opens) = (suc (length opens) + o.saved ≤ w) × Held w opens

-- what holds of a state that the check comes to
pub record Room (w : ℕ) (s : State) : Type 0 where
  pub now : length s.opens + s.left ≤ w
  pub held : Held w s.opens
  pub deep : s.deepest ≤ w

pub room_start : (w : ℕ) → Room w (start w)
room_start w = record { now = omega arith; held = tt; deep = omega arith }

module _ (m : Map) where
  -- each step counts one instruction
  pub one_more : {s : State} {i : Instruction} {s' : State} → Moves m s i s' → s'.count ≡ suc s.count
  one_more (closes q e d h) = refl
  one_more (opened e h k) = refl
  one_more (matched e h c) = refl
  one_more (defaulted e h) = refl

module _ (m : Map) (w : ℕ) where
  pub room_moves : {s : State} {i : Instruction} {s' : State} → Moves m s i s' → Room w s → Room w s'
  room_moves {s} (closes {o} {opens} q e d h) r =
      let k : Held w (o ∷ opens) = rw q at r.held in
      record { now = omega arith; held = k.1; deep = r.deep }
  room_moves {s} (opened e h k) r = record { now = omega arith; held = (omega arith, r.held); deep = omega arith }
  room_moves {s} (matched e h c) r = record { now = omega arith; held = r.held; deep = r.deep }
  room_moves {s} (defaulted e h) r = record { now = r.now; held = r.held; deep = r.deep }

  -- every state that the check comes to has room
  pub room : {s : State} → Reached m w s → Room w s
  room begins = room_start w
  room (goes {s} r e) = room_moves (subst (View m s) e (view m s)).1 (room r)

  -- open jumps and bits left never exceed the width
  pub opens_and_left_at_most_width : {s : State} → Reached m w s → length s.opens + s.left ≤ w
  opens_and_left_at_most_width r = (room r).now

  -- so no more than w jumps are ever open
  pub depth_at_most_width : {s : State} → Reached m w s → length s.opens ≤ w
  depth_at_most_width r = let n = (room r).now in omega arith

  -- and where a JUMP still has a bit to use, there is room for it
  pub room_for_a_jump : {s : State} → Reached m w s → 1 ≤ s.left → length s.opens < w
  room_for_a_jump r h = let n = (room r).now in omega arith

  -- the innermost target lies before all others, so no two open jumps intersect
  nested_more : (t : ℕ) (opens : List Open) → past opens t ≡ false → Before t opens
  nested_more t [] h = tt
  nested_more t (o ∷ opens) h = leb-false o.target t h

  nested_moves : {s : State} {i : Instruction} {s' : State} → Moves m s i s' → Nested s.opens → Nested s'.opens
  nested_moves (closes {o} {opens} q e d h) n = let k : Nested (o ∷ opens) = rw q at n in k.1
  nested_moves {s} {i} (opened e h k) n = (nested_more (target_of i) s.opens k, n)
  nested_moves (matched e h c) n = n
  nested_moves (defaulted e h) n = n

  -- open targets lie one strictly before the other, in every state that the check comes to
  pub open_targets_nested : {s : State} → Reached m w s → Nested s.opens
  open_targets_nested begins = tt
  open_targets_nested (goes {s} r e) = nested_moves (subst (View m s) e (view m s)).1 (open_targets_nested r)

  -- from a state on, what acceptance carries: the count is the list's length, and the depth at most w
  pub tally : {s : State} {is : List Instruction} {c d : ℕ} → Accepts m s is c d → Room w s → (c ≡ s.count + length is) × (d ≤ w)
  tally (last v) r = omega arith
  tally (more f v a) r = let t = tally a (room_moves v r) in let n = one_more m v in omega arith

  -- the count that acceptance carries is the number of instructions listed, and its greatest depth is at most w
  pub carries : {c d : ℕ} → check m w ≡ Accepted c d → (c ≡ length (unpacked m w)) × (d ≤ w)
  unfolding check unpacked
  carries h = let t = tally (accepts m m.bits (start w) h) (room_start w) in omega arith
