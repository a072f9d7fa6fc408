-- Fuel is never short, so code need not know of it: the check and the walk from any state on, each with the equation of its loop (any two
-- fuels that suffice agree). Also the list unpacked as a run of places.
-- Assumes nothing.
use Prim.Native.Nat.{ℕ, zero, suc, ◌+◌, ◌-◌, ◌≤◌, ◌<◌}
use mathlib.Core.Bool.{Bool, true, false, cond}
use mathlib.Core.Path.{◌≡◌, refl, ap, subst, ◌∙◌}
use mathlib.Core.List.{List, [], ◌∷◌}
use native.Mathlib.Omega.{arith}
use lib.Dec.{eqb}
use lib.ListN.{length}
use borrow.Author.Tests.{le-leb}
use Rattle.asmap_program.specs.declared.Instruction.{Instruction}
use Rattle.asmap_program.specs.Map.{end_of, Fetched, Whole, CutOpcode, CutOperand, Map, Laws, length_of}
use Rattle.asmap_program.specs.Check.{State, Outcome, Next, Done, Refuse, guard, step, after, run, start, check, stopping, stops, stop_of, listed, reads, unpacked}
use Rattle.asmap_program.specs.declared.Kind.TheVariants.{OpcodeCut}
use Rattle.asmap_program.specs.declared.Walker.{Walker}
use Rattle.asmap_program.specs.Walk.{Walked, Turn, Goes, Stops, Compared, Equal, Different, aborted, enough, meeting, compared, turn_whole, turn_on, push, go_on, walk_from, walk}
use Rattle.asmap_program.proofs.Tree.{Moves, closes, opened, matched, defaulted, View, view, Accepts, last, more, accepts}
use Rattle.asmap_program.proofs.Depth.{carries}
use Rattle.asmap_program.specs.Verdict.{Accepted, Verdict}
use Rattle.refusals.specs.declared.Fault.TheVariants as fault

module _ (m : Map) where
  -- a step goes on at the instruction's end
  pub moved : {s : State} {i : Instruction} {s' : State} → Moves m s i s' → s'.at ≡ end_of i
  moved (closes q e d h) = refl
  moved (opened e h k) = refl
  moved (matched e h c) = refl
  moved (defaulted e h) = refl

  -- ---- unpack: n instructions from a place on, each at the end of the one before

  abbrev cell : (ℕ → List Instruction) → Fetched → List Instruction
  cell k (Whole i) = i ∷ k (end_of i)
  cell k CutOpcode = []
  cell k (CutOperand op) = []

  -- n instructions from p on, as far as they are there
  unfoldable pub list_from : ℕ → ℕ → List Instruction
  list_from zero p = []
  list_from (suc n) p = cell (λ (p' : ℕ). list_from n p') (m.fetch p)

  in_order : {s : State} {is : List Instruction} {c d : ℕ} → Accepts m s is c d → is ≡ list_from (length is) s.at
  unfolding list_from
  in_order (last {i} v) = rw v.fetched
  in_order (more {s} {i} {s'} {is} f v a) = rw f (ap (λ (l : List Instruction). i ∷ l) (rw (moved v) at (in_order a)))

  -- what is unpacked of an accepted map is as many instructions as were counted, from place 0 on
  pub unpacked_list : {c d : ℕ} (w : ℕ) → check m w ≡ Accepted c d → unpacked m w ≡ list_from c 0
  unfolding check unpacked
  unpacked_list {c} w h =
      let e : c ≡ length (unpacked m w) = (carries m w h).0 in
      rw e (in_order (accepts m m.bits (start w) h))

  -- ---- the check's loop: its answer, and the place at which it stops

  -- at or past the end the check says 2
  pub ended : (s : State) → m.bits ≤ s.at → step m s ≡ Refuse fault.MapEnds
  unfolding step guard
  ended s h = rw (le-leb m.bits s.at h)

  -- with f steps and with g the answer is one, and so are the place and the instructions passed
  abbrev Alike : ℕ → ℕ → State → Type 0
  Alike f g s = (run m f s ≡ run m g s) × (stops m f s ≡ stops m g s) × (reads m f s ≡ reads m g s)

  module _ (law : Laws m) where
    -- both go on alike from every state that a step comes to
    after_alike : (s : State) (f g : ℕ) → m.bits ≤ s.at + suc f → m.bits ≤ s.at + suc g
        → ((s' : State) → m.bits ≤ s'.at + f → m.bits ≤ s'.at + g → Alike f g s')
        → (o : Outcome) → View m s o
        → (after (run m f) o ≡ after (run m g) o) × (stopping s.at (stops m f) o ≡ stopping s.at (stops m g) o) × (listed (reads m f) o ≡ listed (reads m g) o)
    after_alike s f g h k ih (Next i s') v =
        let a = law.stands _ _ v.0 in
        let e = moved v.1 in
        let r = ih s' (omega arith) (omega arith) in
        (r.0, r.1, ap (λ (l : List Instruction). i ∷ l) r.2)
    after_alike s f g h k ih (Done i c d) v = (refl, refl, refl)
    after_alike s f g h k ih (Refuse n) v = (refl, refl, refl)

    run-enough : (f g : ℕ) (s : State) → m.bits ≤ s.at + f → m.bits ≤ s.at + g → Alike f g s
    unfolding run stops reads
    run-enough zero zero s h k = (refl, refl, refl)
    run-enough zero (suc g) s h k = rw (ended s (omega arith)) (refl, refl, refl)
    run-enough (suc f) zero s h k = rw (ended s (omega arith)) (refl, refl, refl)
    run-enough (suc f) (suc g) s h k = after_alike s f g h k (λ s' p q. run-enough f g s' p q) (step m s) (view m s)

  -- the answer from a state on, the place at which the check stops from there, and the instructions that it passes
  unfoldable pub result : State → Verdict
  result s = run m (m.bits - s.at) s

  unfoldable pub stop : State → ℕ
  stop s = stops m (m.bits - s.at) s

  unfoldable pub passing : State → List Instruction
  passing s = reads m (m.bits - s.at) s

  module _ (law : Laws m) where
    after_result : (s : State) (o : Outcome) → View m s o
        → (after (run m (m.bits - s.at)) o ≡ after result o) × (stopping s.at (stops m (m.bits - s.at)) o ≡ stopping s.at stop o) × (listed (reads m (m.bits - s.at)) o ≡ listed passing o)
    unfolding result stop passing
    after_result s (Next i s') v =
        let a = law.stands _ _ v.0 in
        let e = moved v.1 in
        let r = run-enough law (m.bits - s.at) (m.bits - s'.at) s' (omega arith) (omega arith) in
        (r.0, r.1, ap (λ (l : List Instruction). i ∷ l) r.2)
    after_result s (Done i c d) v = (refl, refl, refl)
    after_result s (Refuse n) v = (refl, refl, refl)

    -- the equations of the loop: one step, and on
    all-step : (s : State) → (result s ≡ after result (step m s)) × (stop s ≡ stopping s.at stop (step m s)) × (passing s ≡ listed passing (step m s))
    unfolding result stop passing run stops reads
    all-step s =
        let a = run-enough law (m.bits - s.at) (suc (m.bits - s.at)) s (omega arith) (omega arith) in
        let b = after_result s (step m s) (view m s) in
        (a.0 ∙ b.0, a.1 ∙ b.1, a.2 ∙ b.2)

    pub result-step : (s : State) → result s ≡ after result (step m s)
    result-step s = (all-step s).0

    pub stop_step : (s : State) → stop s ≡ stopping s.at stop (step m s)
    stop_step s = (all-step s).1

    pub passing_step : (s : State) → passing s ≡ listed passing (step m s)
    passing_step s = (all-step s).2

    -- the check is the answer from its start on; its place is the place from there, and what is unpacked is what is passed from there
    pub result_start : (w : ℕ) → check m w ≡ result (start w)
    unfolding check result
    result_start w = (run-enough law m.bits (m.bits - 0) (start w) (omega arith) (omega arith)).0

    pub stop_start : (w : ℕ) → stop_of m w ≡ stop (start w)
    unfolding stop_of stop
    stop_start w = (run-enough law m.bits (m.bits - 0) (start w) (omega arith) (omega arith)).1

    pub passing_start : (w : ℕ) → unpacked m w ≡ passing (start w)
    unfolding unpacked passing
    passing_start w = (run-enough law m.bits (m.bits - 0) (start w) (omega arith) (omega arith)).2

-- ---- the walk's loop

-- a turn that goes on goes forward
abbrev Onward : Walker → Turn → Type 0
Onward s (Goes i s') = s.at < s'.at
Onward s (Stops r) = Unit {0}

onward-enough : (b : Bool) (s : Walker) (i : Instruction) (t : Turn) → Onward s t → Onward s (enough b s i t)
unfolding enough
onward-enough true s i t h = h
onward-enough false s i t h = tt

module _ (address : ℕ → ℕ) (m : Map) (law : Laws m) where
  onward_meeting : (s : Walker) (i : Instruction) → s.at < end_of i → (c : Compared) → Onward s (meeting s i c)
  onward_meeting s i h Equal = h
  onward_meeting s i h (Different x) = tt

  onward-whole : (s : Walker) (i : Instruction) → s.at < end_of i → (k : ℕ) → Onward s (turn_whole address m s i k)
  onward-whole s i h zero = tt
  onward-whole s i h (suc zero) = onward-enough _ s i _ (either (eqb (address s.used) 1))
    where
      either : (b : Bool) → s.at < cond b (end_of i + i.operand) (end_of i)
      either true = omega arith
      either false = h
  onward-whole s i h (suc (suc zero)) =
      onward-enough _ s i _ (onward_meeting s i h (compared address (length_of i.operand) i.operand s.used))
  onward-whole s i h (suc (suc (suc n))) = h

  onward : (s : Walker) (r : Fetched) → m.fetch s.at ≡ r → Onward s (turn_on address m s r)
  onward s (Whole i) f = let a = law.stands _ _ f in onward-whole s i (omega arith) i.opcode
  onward s CutOpcode f = tt
  onward s (CutOperand op) f = tt

  -- a walk that stands at the map's end or past it, also after a JUMP: nothing is read, and the opcode is cut
  off_end : (s : Walker) → m.bits ≤ s.at → turn_on address m s (m.fetch s.at) ≡ aborted OpcodeCut s []
  off_end s h = ap (turn_on address m s) (law.ends s.at h)

  go_alike : (s : Walker) (k k' : Walker → Walked) → ((s' : Walker) → s.at < s'.at → k s' ≡ k' s')
      → (t : Turn) → Onward s t → go_on k t ≡ go_on k' t
  go_alike s k k' h (Goes i s') v = ap (λ (r : Walked). push i r) (h s' v)
  go_alike s k k' h (Stops r) v = refl

  walk-enough : (f g : ℕ) (s : Walker) → m.bits ≤ s.at + f → m.bits ≤ s.at + g → walk_from address m f s ≡ walk_from address m g s
  unfolding walk_from
  walk-enough zero zero s h k = refl
  walk-enough zero (suc g) s h k = rw (off_end s (omega arith))
  walk-enough (suc f) zero s h k = rw (off_end s (omega arith))
  walk-enough (suc f) (suc g) s h k =
      go_alike s _ _ (λ s' p. walk-enough f g s' (omega arith) (omega arith)) (turn_on address m s (m.fetch s.at)) (onward s (m.fetch s.at) refl)

module _ (address : ℕ → ℕ) (m : Map) where
  -- the walk from a state on
  unfoldable pub walked : Walker → Walked
  walked s = walk_from address m (m.bits - s.at) s

module _ (address : ℕ → ℕ) (m : Map) (law : Laws m) where
  -- the equation of the loop: one turn, and on
  pub walked_step : (s : Walker) → walked address m s ≡ go_on (walked address m) (turn_on address m s (m.fetch s.at))
  unfolding walked walk_from
  walked_step s =
      walk-enough address m law (m.bits - s.at) (suc (m.bits - s.at)) s (omega arith) (omega arith)
      ∙ go_alike address m law s _ _
      (λ s' h. walk-enough address m law (m.bits - s.at) (m.bits - s'.at) s' (omega arith) (omega arith))
      (turn_on address m s (m.fetch s.at)) (onward address m law s (m.fetch s.at) refl)

  -- the walk is the walk from its start on
  pub walked_start : (w : ℕ) → walk address m w ≡ walked address m (record { at = 0; used = 0; width = w; default = 0 })
  unfolding walk walked
  walked_start w = walk-enough address m law m.bits (m.bits - 0) _ (omega arith) (omega arith)

-- what a loop that counts knows: n instructions are behind, and the rest is the walk from here
pub record Ahead (whole rest : Walked) (n : ℕ) : Type 0 where
  pub kind : whole.kind ≡ rest.kind
  pub number : whole.number ≡ rest.number
  pub bits : whole.bits ≡ rest.bits
  pub count : length whole.read ≡ n + length rest.read

ahead_on : {whole : Walked} {n : ℕ} (k : Walker → Walked) (t : Turn) {i : Instruction} {s' : Walker} → t ≡ Goes i s' → Ahead whole (go_on k t) n → Ahead whole (k s') (suc n)
ahead_on {whole} {n} k t {i} {s'} e a =
    let b : Ahead whole (push i (k s')) n = subst (λ (x : Turn). Ahead whole (go_on k x) n) e a in
    record { kind = b.kind; number = b.number; bits = b.bits; count = omega arith }

module _ (address : ℕ → ℕ) (m : Map) (law : Laws m) where
  pub ahead_start : (w : ℕ) → Ahead (walk address m w) (walked address m (record { at = 0; used = 0; width = w; default = 0 })) 0
  ahead_start w = rw (walked_start address m law w) record { kind = refl; number = refl; bits = refl; count = omega arith }

  pub ahead_goes : (w : ℕ) {n : ℕ} (s : Walker) {i : Instruction} {s' : Walker} → turn_on address m s (m.fetch s.at) ≡ Goes i s'
      → Ahead (walk address m w) (walked address m s) n → Ahead (walk address m w) (walked address m s') (suc n)
  ahead_goes w {n} s e a =
      ahead_on (walked address m) _ e (subst (λ (r : Walked). Ahead (walk address m w) r n) (walked_step address m law s) a)

  pub ahead_stops : (w : ℕ) {n : ℕ} (s : Walker) {r : Walked} → turn_on address m s (m.fetch s.at) ≡ Stops r
      → Ahead (walk address m w) (walked address m s) n → Ahead (walk address m w) r n
  ahead_stops w {n} s e a =
      subst (λ (x : Turn). Ahead (walk address m w) (go_on (walked address m) x) n) e
      (subst (λ (r : Walked). Ahead (walk address m w) r n) (walked_step address m law s) a)
