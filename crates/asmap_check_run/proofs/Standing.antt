-- What the loop knows where it stands: a state that the check comes to, that answer and place from here are the answer and the place, and that
-- the pieces counted and those from here are all.
-- Assumes nothing.
use Prim.Native.Nat.{ℕ, suc, ◌+◌, ◌*◌, ◌≤◌, ◌<◌}
use mathlib.Core.Path.{◌≡◌, sym, ap, subst, ◌∙◌}
use mathlib.Core.List.{List}
use native.Mathlib.Omega.{arith}
use lib.ListN.{length}
use Rattle.asmap_program.specs.declared.Instruction.{Instruction}
use Rattle.asmap_program.specs.Check.{State, start, Outcome, Next, Done, Refuse, step, after, check, stopping, stop_of, listed, unpacked}
use Rattle.asmap_program.specs.models.Pieces.{pieces_of, count_pieces}
use Rattle.asmap_program.proofs.Tree.{View, view}
use Rattle.asmap_program.proofs.Depth.{one_more, Room, Reached, begins, goes, room}
use Rattle.asmap_program.proofs.Loop.{moved, result, result-step, result_start, stop, stop_step, stop_start, passing, passing_step, passing_start}
use Rattle.asmap_codes.specs.Instruction.{map_of}
use Rattle.asmap_check_run.specs.models.State.{judged}
use Rattle.asmap_codes.proofs.MapLaws.{laws, map-bits}
use Rattle.asmap_program.specs.Verdict.{Accepted}
use Rattle.std.specs.Prelude.{Err}
use Rattle.refusals.specs.declared.Fault.{Fault}

module _ (m : List ℕ) (w : ℕ) where
  pub record Standing (s : State) : Type 0 where
    pub reached : Reached (map_of m) w s
    pub same : check (map_of m) w ≡ result (map_of m) s
    pub place : stop_of (map_of m) w ≡ stop (map_of m) s

  pub standing_start : Standing (start w)
  standing_start = record { reached = begins; same = result_start (map_of m) (laws m) w; place = stop_start (map_of m) (laws m) w }

  answer : (s : State) → Standing s → (o : Outcome) → step (map_of m) s ≡ o → check (map_of m) w ≡ after (result (map_of m)) o
  answer s h o e = h.same ∙ result-step (map_of m) (laws m) s ∙ ap (after (result (map_of m))) e

  placed : (s : State) → Standing s → (o : Outcome) → step (map_of m) s ≡ o → stop_of (map_of m) w ≡ stopping s.at (stop (map_of m)) o
  placed s h o e = h.place ∙ stop_step (map_of m) (laws m) s ∙ ap (stopping s.at (stop (map_of m))) e

  pub standing_on : (s : State) → Standing s → (i : Instruction) (s' : State) → step (map_of m) s ≡ Next i s' → Standing s'
  standing_on s h i s' e = record { reached = goes h.reached e; same = answer s h (Next i s') e; place = placed s h (Next i s') e }

  -- n pieces are counted where the loop stands at s: with those of what it passes from here on they are all. An instruction gives at most 128,
  -- so that they are few.
  pub record Counting (s : State) (n : ℕ) : Type 0 where
    pub counted : count_pieces (unpacked (map_of m) w) ≡ n + count_pieces (passing (map_of m) s)
    pub few : n ≤ 128 * s.count

  pub counting_start : Counting (start w) 0
  counting_start = record { counted = omega (arith, ap count_pieces (passing_start (map_of m) (laws m) w)); few = omega arith }

  -- the pieces of what is passed, by what the step comes to
  counting : (s : State) (n : ℕ) → Counting s n → (o : Outcome) → step (map_of m) s ≡ o
      → count_pieces (unpacked (map_of m) w) ≡ n + count_pieces (listed (passing (map_of m)) o)
  counting s n h o e =
      h.counted ∙ ap (λ (l : List Instruction). n + count_pieces l) (passing_step (map_of m) (laws m) s ∙ ap (listed (passing (map_of m))) e)

  pub counting_on : (s : State) (n k n' : ℕ) → Counting s n → (i : Instruction) (s' : State) → step (map_of m) s ≡ Next i s'
      → pieces_of i ≡ k → k ≤ 128 → n' ≡ n + k → s'.count ≡ suc s.count → Counting s' n'
  unfolding count_pieces
  counting_on s n k n' h i s' e p l q c =
      record { counted = counting s n h (Next i s') e ∙ omega (arith, p, q); few = omega (arith, h.few, q, c) }

  pub standing-done : (s : State) → Standing s → (n : ℕ) → Counting s n → (i : Instruction) (c d : ℕ) → step (map_of m) s ≡ Done i c d
      → pieces_of i ≡ 1 → record { verdict = Accepted c d; place = s.at; pieces = n + 1 } ≡ judged m w
  unfolding count_pieces
  standing-done s h n k i c d e p =
      let q : n + 1 ≡ count_pieces (unpacked (map_of m) w) = sym (counting s n k (Done i c d) e ∙ omega (arith, p)) in
      λ j. record { verdict = sym (answer s h (Done i c d) e) j; place = sym (placed s h (Done i c d) e) j; pieces = q j }

  pub standing_refused : (s : State) → Standing s → (n : ℕ) → Counting s n → (r : Fault) → step (map_of m) s ≡ Refuse r
      → record { verdict = Err r; place = s.at; pieces = n } ≡ judged m w
  unfolding count_pieces
  standing_refused s h n k r e =
      let q : n ≡ count_pieces (unpacked (map_of m) w) = sym (counting s n k (Refuse r) e ∙ omega arith) in
      λ j. record { verdict = sym (answer s h (Refuse r) e) j; place = sym (placed s h (Refuse r) e) j; pieces = q j }

  -- a step goes forward, inside the map, and counts one
  pub record Onward (s s' : State) : Type 0 where
    pub forward : s.at < s'.at
    pub inside : s'.at ≤ 8 * length m
    pub counted : s'.count ≡ suc s.count

  pub onward : (s s' : State) (i : Instruction) → step (map_of m) s ≡ Next i s' → Onward s s'
  onward s s' i e =
      let v = subst (View (map_of m) s) e (view (map_of m) s) in
      let a = (laws m).stands _ _ v.0 in
      let n = moved (map_of m) v.1 in
      let b = map-bits m in
      record { forward = omega (arith, a.here, a.some, n); inside = omega (arith, a.here, a.fits, n, b); counted = one_more (map_of m) v.1 }

  -- an instruction has a bit at least: the count stays below the place
  few : {s : State} → Reached (map_of m) w s → (s.count ≤ s.at) × (s.at ≤ 8 * length m)
  few begins = (omega arith, omega arith)
  few (goes {s} {s'} {i} r e) =
      let f = few r in
      let o = onward s s' i e in
      (omega (arith, f.0, o.forward, o.counted), o.inside)

  pub count-few : (s : State) → Standing s → (s.count ≤ s.at) × (s.at ≤ 8 * length m)
  count-few s h = few h.reached

  -- so the pieces are far from what a usize holds
  pub pieces-few : (s : State) (n : ℕ) → Standing s → Counting s n → length m ≤ 16777216 → n ≤ 17179869184
  pieces-few s n h c l = omega (arith, c.few, few h.reached)

  -- open jumps and bits left are at most w
  pub standing_room : (s : State) → Standing s → Room w s
  standing_room s h = room (map_of m) w h.reached
