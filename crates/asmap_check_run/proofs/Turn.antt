-- One turn of the check's loop: where each act leaves it.
-- Assumes nothing.
use Prim.Native.Nat.{ℕ, suc, ◌+◌, ◌-◌, ◌*◌, ◌≤◌, ◌<◌, max}
use mathlib.Core.Path.{◌≡◌, refl, sym, ap, subst, ◌∙◌}
use mathlib.Core.List.{List, ◌∷◌}
use native.Mathlib.Omega.{arith}
use native.Mathlib.Numerals.{add-one}
use lib.ListN.{length, get_or, set}
use Rattle.asmap_program.specs.declared.Previous.{Previous}
use Rattle.asmap_program.specs.declared.Previous.TheVariants.{Other, Default}
use Rattle.asmap_program.specs.Check.{Open, State, after_match, Next, step}
use Rattle.asmap_program.specs.models.Pieces.{pieces_of}
use Rattle.asmap_codes.specs.Instruction.{map_of}
use Rattle.asmap_check_run.specs.declared.CheckState.{CheckState}
use Rattle.asmap_check_run.specs.models.State.{opens_of, opens, top, state_of, judged}
use Rattle.asmap_check_act.specs.models.Act.{acts}
use Rattle.asmap_check_act.specs.declared.Act.{Act}
use Rattle.asmap_check_act.specs.models.Acts.{Opens, Closes, Uses, Keeps, Accepts, Refuses}
use Rattle.asmap_check_run.proofs.StateLaws.{length_opens, opens-push, opens_pop}
use Rattle.asmap_check_run.proofs.ActLaws.{here, closed, applied, act_is, end_is, Sure, sure, Tells, tells}
use Rattle.asmap_check_run.proofs.Standing.{Standing, standing_on, Counting, counting_on, standing-done, standing_refused, onward, standing_room}
use Rattle.asmap_program.specs.Verdict.{Accepted}
use Rattle.refusals.specs.declared.Fault.TheVariants as fault
use Rattle.std.specs.Prelude.{Err, Result}
use Rattle.refusals.specs.declared.Fault.{Fault}

same_state : {a b : State} → a.at ≡ b.at → a.left ≡ b.left → a.before ≡ b.before → a.opens ≡ b.opens → a.count ≡ b.count → a.deepest ≡ b.deepest → a ≡ b
same_state p q r s t u = λ i. record { at = p i; left = q i; before = r i; opens = s i; count = t i; deepest = u i }

-- the loop stands inside the map, with n pieces counted, and a is what the instruction there asks
pub record Turn (m : List ℕ) (w : ℕ) (st : CheckState) (pos : ℕ) (prev : Previous) (count deepest n : ℕ) (a : Result Act Fault) : Type 0 where
  pub standing : Standing m w (state_of st pos prev count deepest)
  pub counting : Counting m w (state_of st pos prev count deepest) n
  pub inside : pos < 8 * length m
  pub asked : acts m prev st.bits st.depth (top st.targets st.depth) pos ≡ a

-- where a turn leaves the loop: it stands further on, with n pieces counted
pub record Turned (m : List ℕ) (w pos n : ℕ) (s : State) : Type 0 where
  pub standing : Standing m w s
  pub counting : Counting m w s n
  pub forward : pos < s.at

pub turn_end : (m : List ℕ) (w : ℕ) (st : CheckState) (pos : ℕ) (prev : Previous) (count deepest n : ℕ)
    → Standing m w (state_of st pos prev count deepest) → Counting m w (state_of st pos prev count deepest) n → 8 * length m ≤ pos
    → record { verdict = Err fault.MapEnds; place = pos; pieces = n } ≡ judged m w
turn_end m w st pos prev count deepest n h c k =
    standing_refused m w _ h n c fault.MapEnds (end_is m st.targets st.saved st.bits pos prev count deepest st.depth k)

module _ {m : List ℕ} {w : ℕ} {st : CheckState} {pos : ℕ} {prev : Previous} {count deepest pieces : ℕ} {a : Result Act Fault} (T : Turn m w st pos prev count deepest pieces a) where
  abbrev s : State
  s = state_of st pos prev count deepest

  step_is : (b : Result Act Fault) → a ≡ b → step (map_of m) s ≡ applied s (here m pos) b
  step_is b e =
      act_is m st.targets st.saved st.bits pos prev count deepest st.depth T.inside
      ∙ ap (applied s (here m pos)) (T.asked ∙ e)

  pub certain : (b : Result Act Fault) → a ≡ b → Sure st.bits st.depth b
  certain b e = subst (Sure st.bits st.depth) (T.asked ∙ e) (sure m prev st.bits (top st.targets st.depth) st.depth pos)

  told : (b : Result Act Fault) → a ≡ b → Tells (here m pos) b
  told b e = subst (Tells (here m pos)) (T.asked ∙ e) (tells m prev st.bits (top st.targets st.depth) st.depth pos)

  turned : (k n : ℕ) (s' : State) → step (map_of m) s ≡ Next (here m pos) s' → pieces_of (here m pos) ≡ k → k ≤ 128 → n ≡ pieces + k → Turned m w pos n s'
  turned k n s' e p l q =
      let o = onward m w s s' (here m pos) e in
      record {
        standing = standing_on m w s T.standing (here m pos) s' e;
        counting = counting_on m w s pieces k n T.counting (here m pos) s' e p l q o.counted;
        forward = o.forward;
      }

  pub less : {n : ℕ} {s' : State} → Turned m w pos n s' → 8 * length m - s'.at < 8 * length m - pos
  less z = omega (arith, z.forward, T.inside)

  opened : (n t : ℕ) → a ≡ Opens n t → Turned m w pos pieces (record {
    at = n;
    left = st.bits - 1;
    before = Other;
    opens = record { target = t; saved = st.bits - 1 } ∷ opens st;
    count = suc count;
    deepest = max deepest (suc (length (opens st)));
  })
  opened n t e = turned 0 pieces _ (step_is (Opens n t) e) (told (Opens n t) e) (omega arith) (omega arith)

  -- there is room for a jump that opens
  pub room_opens : (n t : ℕ) → a ≡ Opens n t → st.depth < w
  room_opens n t e =
      omega (arith, (standing_room m w _ (opened n t e).standing).now, length_opens st.targets st.saved st.depth)

  pub turn_opens : (n t : ℕ) → a ≡ Opens n t → st.depth < length st.targets → st.depth < length st.saved → (r : CheckState) (deep : ℕ)
      → r ≡ record { targets = set st.targets st.depth t; saved = set st.saved st.depth (st.bits - 1); depth = st.depth + 1; bits = st.bits - 1 }
      → deep ≡ max deepest (st.depth + 1)
      → Turned m w pos pieces (state_of r n Other (count + 1) deep)
  turn_opens n t e h k r deep q d =
      let p = opens-push st.targets st.saved t (st.bits - 1) st.depth h k in
      subst (Turned m w pos pieces)
      (sym (same_state refl (ap (λ (x : CheckState). x.bits) q) refl (ap opens q ∙ ap (opens_of (set st.targets st.depth t) (set st.saved st.depth (st.bits - 1))) (add-one st.depth) ∙ p) (add-one count) (omega (arith, d, length_opens st.targets st.saved st.depth))))
      (opened n t e)

  pub turn_closes : (n : ℕ) → a ≡ Closes n → (r : CheckState)
      → r ≡ record { targets = st.targets; saved = st.saved; depth = st.depth - 1; bits = get_or st.saved (st.depth - 1) 0 }
      → Turned m w pos (pieces + 1) (state_of r n Other (count + 1) deepest)
  turn_closes n e r q =
      let p = opens_pop st.targets st.saved st.depth (certain (Closes n) e) in
      let z : step (map_of m) s ≡ Next (here m pos) (record { at = n; left = get_or st.saved (st.depth - 1) 0; before = Other; opens = opens_of st.targets st.saved (st.depth - 1); count = suc count; deepest = deepest })
      = step_is (Closes n) e ∙ ap (λ (os : List Open). closed s (here m pos) n os) p in
      rw (q, add-one count) (turned 1 (pieces + 1) _ z (told (Closes n) e) (omega arith) refl)

  pub turn_uses : (n k : ℕ) → a ≡ Uses n k → (r : CheckState) (p : Previous)
      → r ≡ record { targets = st.targets; saved = st.saved; depth = st.depth; bits = st.bits - k } → p ≡ after_match k → k ≤ 128
      → Turned m w pos (pieces + k) (state_of r n p (count + 1) deepest)
  turn_uses n k e r p q z l = rw (q, z, add-one count) (turned k (pieces + k) _ (step_is (Uses n k) e) (told (Uses n k) e) l refl)

  pub turn_keeps : (n : ℕ) → a ≡ Keeps n → Turned m w pos pieces (state_of st n Default (count + 1) deepest)
  turn_keeps n e =
      rw (add-one count) (turned 0 pieces _ (step_is (Keeps n) e) (told (Keeps n) e) (omega arith) (omega arith))

  pub turn_accepts : a ≡ Accepts → record { verdict = Accepted (count + 1) deepest; place = pos; pieces = pieces + 1 } ≡ judged m w
  turn_accepts e =
      rw (add-one count) (standing-done m w s T.standing pieces T.counting (here m pos) (suc count) deepest (step_is Accepts e) (told Accepts e))

  pub turn_refuses : (n : Fault) → a ≡ Refuses n → record { verdict = Err n; place = pos; pieces = pieces } ≡ judged m w
  turn_refuses n e = standing_refused m w s T.standing pieces T.counting n (step_is (Refuses n) e)
