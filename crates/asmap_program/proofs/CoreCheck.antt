-- Core's SanityCheckASMap accepts exactly what our check accepts (document 01, Check: the verdict is alike). Core refuses a target past
-- the end at the JUMP, ours later: rests on the tree law, by which no such state is accepted.
-- Assumes nothing.
use Prim.Native.Nat.{ℕ, zero, suc, ◌-◌, ◌≤◌, ◌<◌}
use mathlib.Core.Bool.{Bool, true, false, not, ◌&&◌, ◌||◌, cond}
use mathlib.Core.Path.{◌≡◌, refl, sym, ap, ◌∙◌}
use mathlib.Core.List.{List, [], ◌∷◌}
use native.Mathlib.Omega.{arith}
use lib.Dec.{leb, ltb, eqb}
use borrow.Author.Tests.{eqb-true, eqb-false, ltb-true, le-leb, lt-leb, eq-eqb, ne_eqb}
use Rattle.asmap_program.specs.declared.Instruction.{Instruction}
use Rattle.asmap_program.specs.declared.Previous.{Previous}
use Rattle.asmap_program.specs.declared.Previous.TheVariants.{Other, Short, Default}
use Rattle.asmap_program.specs.Map.{Map, Fetched, Whole, CutOpcode, CutOperand, end_of, target_of, Laws, length_of}
use Rattle.asmap_program.specs.Check.{Open, is_default, is_short, State, Outcome, Next, Done, Refuse, guard, past, closing, step_whole, step_on, step, after, run, check}
pub use Rattle.asmap_program.specs.Check.{accepted}
use Rattle.asmap_program.specs.Core.{INVALID, Read, File, Op, RETURN, JUMP, MATCH, DEFAULT, is_op_default, is_op_match, Sanity, sanity_start, Passed, On, Says, refuse_if, or_refuse, core_after, top_reached, core_tail, core_return, core_jump, core_match, core_default, core_opcode, core_step, core_run, core_check, decode_of, Reads, Joined}
use Rattle.asmap_program.proofs.Tree.{Forest, accepts, forest, forward}
use Rattle.asmap_program.specs.Verdict.{Verdict}
use Rattle.std.specs.Prelude.{Err, Ok}
use Rattle.refusals.specs.declared.Fault.TheVariants as fault
use Rattle.refusals.specs.declared.Fault.{Fault}

-- what our check remembers, of what Core remembers
abbrev seen : Op → Bool → Previous
seen RETURN h = Other
seen JUMP h = Other
seen MATCH h = cond h Short Other
seen DEFAULT h = Default

seen-default : (p : Op) (h : Bool) → is_default (seen p h) ≡ is_op_default p
seen-default RETURN h = refl
seen-default JUMP h = refl
seen-default MATCH true = refl
seen-default MATCH false = refl
seen-default DEFAULT h = refl

seen_short : (p : Op) (h : Bool) → is_short (seen p h) ≡ cond (is_op_match p) h false
seen_short RETURN h = refl
seen_short JUMP h = refl
seen_short MATCH true = refl
seen_short MATCH false = refl
seen_short DEFAULT h = refl

same_past : (opens : List Open) (p : ℕ) → past opens p ≡ top_reached opens p
same_past [] p = refl
same_past (o ∷ opens) p = refl

-- our state for Core's locals, with a count and a greatest depth, which Core does not keep
abbrev ours : Sanity → ℕ → ℕ → State
ours c n d = record { at = c.pos; left = c.bits; before = seen c.prevopcode c.had_incomplete_match; opens = c.jumps; count = n; deepest = d }

-- an operand that is there, and one that is not
pub read_there : (r : Read) (v p : ℕ) → r ≡ record { value = v; pos = p } → v < INVALID → (k : ℕ → ℕ → Passed) → or_refuse r k ≡ k v p
unfolding refuse_if
read_there r v p e h k = rw (e, ne_eqb v INVALID (omega arith))

read_cut : (r : Read) → r.value ≡ INVALID → (k : ℕ → ℕ → Passed) → or_refuse r k ≡ Says false
unfolding refuse_if
read_cut r e k = rw (eq-eqb r.value INVALID e)

module _ (m : Map) where
  -- our step and Core's come to the same; or Core refuses where ours goes on with an open target past the end
  abbrev Same : Outcome → Passed → Type 0
  Same (Next i s) (On c) = (s ≡ ours c s.count s.deepest) × (c.pos ≤ m.bits)
  Same (Next i s) (Says true) = ⊥
  Same (Next i s) (Says false) = (o : Open) × (opens : List Open) × (s.opens ≡ o ∷ opens) × (m.bits < o.target)
  Same (Done i c d) (On c') = ⊥
  Same (Done i c d) (Says b) = b ≡ true
  Same (Refuse n) (On c) = ⊥
  Same (Refuse n) (Says b) = b ≡ false

  both : (b b' : Bool) (n : Fault) (o : Outcome) (q : Passed) → b ≡ b' → (b ≡ false → Same o q) → Same (guard b n o) (refuse_if b' q)
  unfolding guard refuse_if
  both true true n o q e h = refl
  both true false n o q e h = let z : ◌≡◌ {A = ℕ} 0 1 = cc in absurd (omega arith)
  both false true n o q e h = let z : ◌≡◌ {A = ℕ} 0 1 = cc in absurd (omega arith)
  both false false n o q e h = h refl

  -- Core refuses where ours would go on to a target past the end
  refuses : (b : Bool) (n : Fault) (o : Outcome) → Same o (Says false) → Same (guard b n o) (Says false)
  unfolding guard
  refuses true n o h = refl
  refuses false n o h = h

  early : (b : Bool) (o : Outcome) (q : Passed) → (b ≡ true → Same o (Says false)) → (b ≡ false → Same o q) → Same o (refuse_if b q)
  unfolding refuse_if
  early true o q h k = h refl
  early false o q h k = k refl

  finish : (b b' : Bool) (i : Instruction) (c d : ℕ) → b ≡ b' → Same (guard (not b) fault.Padding (Done i c d)) (Says b')
  unfolding guard
  finish true b' i c d e = sym e
  finish false b' i c d e = sym e

  refused : (b : Bool) (n r : Fault) → Same (guard b n (Refuse r)) (Says false)
  unfolding guard
  refused true n r = refl
  refused false n r = refl

  says : (b : Bool) → refuse_if b (Says false) ≡ Says false
  unfolding refuse_if
  says true = refl
  says false = refl

  at_end : (a b : ℕ) → a ≤ b → leb b a ≡ eqb a b
  at_end a b h = pick (eqb a b) refl
    where
      pick : (t : Bool) → eqb a b ≡ t → leb b a ≡ t
      pick true e = le-leb b a (omega (arith, eqb-true a b e))
      pick false e = lt-leb b a (omega (arith, eqb-false a b e))

  module _ (f : File) (join : Joined m f) where
    same-return : (c : Sanity) (n d : ℕ) (i : Instruction) → end_of i ≤ m.bits → (opens : List Open)
        → Same (closing m (ours c n d) i opens) (core_return f c (end_of i) opens)
    same-return c n d i h [] = finish (m.padded (end_of i)) (core_tail f (end_of i)) i (suc n) d (join.tail (end_of i) h)
    same-return c n d i h (o ∷ opens) = both _ _ fault.NotAtTarget _ _ refl λ _. (refl, h)

    -- at a whole instruction of opcode k, whose operand Core reads at q
    same_whole : (c : Sanity) (n d : ℕ) (i : Instruction) → end_of i ≤ m.bits → (k q : ℕ) → k < 4
        → decode_of f k q ≡ record { value = i.operand; pos = end_of i } → i.operand < INVALID
        → Same (step_whole m (ours c n d) i k) (core_opcode f c k q)
    same_whole c n d i h zero q l e t =
        both _ _ fault.AfterDefault _ _ (seen-default c.prevopcode c.had_incomplete_match)
        λ _. rw (read_there (f.decode_asn q) i.operand (end_of i) e t (λ (v p : ℕ). core_return f c p c.jumps)) (same-return c n d i h c.jumps)
    same_whole c n d i h (suc zero) q l e t =
        let z = join.ends in
        rw (read_there (f.decode_jump q) i.operand (end_of i) e t (λ (v p : ℕ). core_jump f c v p))
        (early _ (step_whole m (ours c n d) i 1) _
        (λ x. refuses _ fault.NoBits _ (refuses _ fault.TargetsCross _ (_, _, refl, omega (arith, ltb-true (f.endpos - end_of i) i.operand x))))
        (λ _. both _ _ fault.NoBits _ _ refl λ _. both _ _ fault.TargetsCross _ _ (same_past c.jumps (target_of i)) λ _. (refl, h)))
    same_whole c n d i h (suc (suc zero)) q l e t =
        rw (read_there (f.decode_match q) i.operand (end_of i) e t (λ (v p : ℕ). core_match f c v p))
        (both _ _ fault.ShortMatches _ _ (ap (λ (b : Bool). ltb (length_of i.operand) 8 && b) (seen_short c.prevopcode c.had_incomplete_match))
        λ _. both _ _ fault.NoBits _ _ refl λ _. (refl, h))
    same_whole c n d i h (suc (suc (suc zero))) q l e t =
        both _ _ fault.AfterDefault _ _ (seen-default c.prevopcode c.had_incomplete_match)
        λ _. rw (read_there (f.decode_asn q) i.operand (end_of i) e t (λ (v p : ℕ). core_default f c p)) (refl, h)
    same_whole c n d i h (suc (suc (suc (suc k)))) q l e t = absurd (omega arith)

    -- where the operand is cut Core refuses
    cut_refuses : (c : Sanity) (k q : ℕ) → (decode_of f k q).value ≡ INVALID → core_opcode f c k q ≡ Says false
    cut_refuses c zero q e = rw (read_cut (f.decode_asn q) e (λ (v p : ℕ). core_return f c p c.jumps)) (says (is_op_default c.prevopcode))
    cut_refuses c (suc zero) q e = read_cut (f.decode_jump q) e (λ (v p : ℕ). core_jump f c v p)
    cut_refuses c (suc (suc zero)) q e = read_cut (f.decode_match q) e (λ (v p : ℕ). core_match f c v p)
    cut_refuses c (suc (suc (suc zero))) q e = rw (read_cut (f.decode_asn q) e (λ (v p : ℕ). core_default f c p)) (says (is_op_default c.prevopcode))
    cut_refuses c (suc (suc (suc (suc k)))) q e = refl

    module _ (law : Laws m) where
      same_on : (c : Sanity) (n d : ℕ) (r : Fetched) → m.fetch c.pos ≡ r → Reads f c.pos r
          → Same (step_on m (ours c n d) r) (core_opcode f c (f.decode_type c.pos).value (f.decode_type c.pos).pos)
      same_on c n d (Whole i) g x =
          let s = law.stands _ _ g in
          rw x.1 (same_whole c n d i (omega arith) i.opcode x.0 s.known x.2 x.3)
      same_on c n d CutOpcode g x = rw x refl
      same_on c n d (CutOperand op) g x =
          rw (x.1, cut_refuses c op x.0 x.3) (refused (is_default (seen c.prevopcode c.had_incomplete_match) && (eqb op 0 || eqb op 3)) fault.AfterDefault _)

      same_step : (c : Sanity) (n d : ℕ) → c.pos ≤ m.bits → Same (step m (ours c n d)) (core_step f c)
      unfolding step core_step
      same_step c n d h =
          both _ _ fault.MapEnds _ _ (at_end c.pos m.bits h ∙ ap (λ (b : ℕ). eqb c.pos b) (sym join.ends))
          λ _. both _ _ fault.PastTarget _ _ (same_past c.jumps c.pos) λ _. same_on c n d (m.fetch c.pos) refl (join.fetched c.pos h)

      -- an open target past the end is never accepted
      never : (s : State) (o : Open) (opens : List Open) → s.opens ≡ o ∷ opens → m.bits < o.target → (g : ℕ) → accepted (run m g s) ≡ false
      never s o opens q h g = pick (run m g s) refl
        where
          pick : (a : Verdict) → run m g s ≡ a → accepted a ≡ false
          pick (Err n) e = refl
          pick (Ok got) e =
              let t : Forest m s.before s.at s.left (o ∷ opens) _ = rw q at (forest m law (accepts m g s e)) in
              let a = forward m law t.3 in
              absurd (omega arith)

      same_after : (g : ℕ) → ((c : Sanity) (n d : ℕ) → c.pos ≤ m.bits → core_run f g c ≡ accepted (run m g (ours c n d)))
          → (o : Outcome) (q : Passed) → Same o q → core_after (core_run f g) q ≡ accepted (after (run m g) o)
      same_after g ih (Next i s) (On c) h = ih c s.count s.deepest h.1 ∙ ap (λ (s' : State). accepted (run m g s')) (sym h.0)
      same_after g ih (Next i s) (Says true) h = absurd h
      same_after g ih (Next i s) (Says false) h = sym (never s h.0 h.1 h.2 h.3 g)
      same_after g ih (Done i c d) (On c') h = absurd h
      same_after g ih (Done i c d) (Says b) h = h
      same_after g ih (Refuse n) (On c) h = absurd h
      same_after g ih (Refuse n) (Says b) h = h

      same-run : (g : ℕ) (c : Sanity) (n d : ℕ) → c.pos ≤ m.bits → core_run f g c ≡ accepted (run m g (ours c n d))
      unfolding run core_run
      same-run zero c n d h = refl
      same-run (suc g) c n d h = same_after g (λ c' n' d' h'. same-run g c' n' d' h') (step m (ours c n d)) (core_step f c) (same_step c n d h)

      -- demand 2, the verdict: Core accepts where our check does, for every map and width
      pub core-verdict : (w : ℕ) → core_check f w ≡ accepted (check m w)
      unfolding check core_check
      core-verdict w =
          let c = sanity_start w in
          ap (λ (n : ℕ). core_run f n c) join.ends ∙ same-run m.bits c 0 0 (omega arith)
