-- From what the check's call and the walk's call promise to what a caller of both can conclude.
-- Assumes nothing.
use Prim.Native.Nat.{ℕ, ◌*◌, ◌/◌}
use mathlib.Core.Path.{◌≡◌, ◌∙◌, refl, ap}
use mathlib.Core.Logic.{◌⊎◌, inl, inr}
use mathlib.Core.Bool.{Bool, true, false, not}
use mathlib.Core.List.{List, [], ◌∷◌}
use native.Mathlib.Omega.{arith}
use borrow.Author.Tests.{eqb-true}
use lib.Dec.{eqb}
use lib.ListN.{length}
use Rattle.asmap_program.specs.declared.Kind.{Kind}
use Rattle.asmap_program.specs.declared.Kind.TheVariants.{Returned, Differed, OpcodeCut, OperandCut, TooFewBits}
use Rattle.asmap_program.specs.Walk as Program
use Rattle.asmap_program.specs.Demand.{EndsWith}
use Rattle.asmap_program.specs.Core.{core_interpret, Number}
use Rattle.asmap_program.specs.Map.{address_bit}
use Rattle.asmap_codes.specs.Core.{file_of}
use Rattle.asmap_check.specs.Check.{check_of}
use Rattle.asmap_walk_bits.specs.Walk.{walk_of}
use Rattle.asmap_walk.specs.Interpret.{refused_if, interpret_over}
use Rattle.answer_outcome.specs.Outcome.{IsDone, Hands}
use Rattle.answer_maps.specs.Maps.{map_checked, kind_number, walk_made}
use Rattle.answers.specs.Promise.{Finished, Demand3, CoreNumber}
use Rattle.demand_statements.specs.Walked.{EndsAt, Walked, AcceptedWalk}
use Rattle.demand_statements.proofs.AnswerLaws.{accepted, answered}
use Rattle.asmap_program.specs.Verdict.{Accepted}
use Rattle.asmap_walk_bits.specs.declared.Ending.{Ending}
use Rattle.refusals.specs.declared.Refusal.{Refusal}
use Rattle.std.specs.Prelude.{Result}
use Rattle.refusals.specs.declared.Refusal.TheVariants as refusal
use Rattle.refusals.specs.Numbers.{of_map}

-- the kind that a number tells
returned : (k : Kind) (n : ℕ) → n ≡ kind_number k → n ≡ 1 → k ≡ Returned
returned Returned n e z = refl
returned Differed n e z = absurd (omega arith)
returned OpcodeCut n e z = absurd (omega arith)
returned OperandCut n e z = absurd (omega arith)
returned TooFewBits n e z = absurd (omega arith)

differed : (k : Kind) (n : ℕ) → n ≡ kind_number k → n ≡ 2 → k ≡ Differed
differed Returned n e z = absurd (omega arith)
differed Differed n e z = refl
differed OpcodeCut n e z = absurd (omega arith)
differed OperandCut n e z = absurd (omega arith)
differed TooFewBits n e z = absurd (omega arith)

-- where a walk w ends, d being the default then
ends_at : (v : Program.Walked) (kind number d : ℕ) → kind ≡ kind_number v.kind → number ≡ v.number → EndsWith d v → EndsAt v.read kind number
ends_at v kind number d k n e = record { earlier = e.earlier; final = e.final; split = e.split; at_return = by-return e.how; at_match = by-match e.how }
  where
    by-return : ((v.kind ≡ Returned) × (e.final.opcode ≡ 0) × (v.number ≡ e.final.operand)) ⊎ ((v.kind ≡ Differed) × (e.final.opcode ≡ 2) × (v.number ≡ d))
        → kind ≡ 1 → (e.final.opcode ≡ 0) × (number ≡ e.final.operand)
    by-return (inl h) z = (h.1, n ∙ h.2)
    by-return (inr h) z = let q = k ∙ ap kind_number h.0 in absurd (omega arith)

    by-match : ((v.kind ≡ Returned) × (e.final.opcode ≡ 0) × (v.number ≡ e.final.operand)) ⊎ ((v.kind ≡ Differed) × (e.final.opcode ≡ 2) × (v.number ≡ d))
        → kind ≡ 2 → e.final.opcode ≡ 2
    by-match (inl h) z = let q = k ∙ ap kind_number h.0 in absurd (omega arith)
    by-match (inr h) z = h.1

-- what the walk's call promises is the demand
walked : (m a : List ℕ) (w r kind number count bits : ℕ) → Finished m a w r kind number count bits → Walked m a w kind number count bits
walked m a w r kind number count bits f =
    let e = f.exact in
    let k : kind ≡ kind_number (walk_of m a w).kind = cc in
    record {
      ended = f.ended;
      returned = returned (walk_of m a w).kind kind k;
      differed = differed (walk_of m a w).kind kind k;
      last = ends_at (walk_of m a w) kind number _ k (cc) f.kept.walks.ends;
      same_number = cc;
      same_count = cc;
      same_bits = cc;
      zero = f.zero;
      bounded = f.bounded;
      most = f.most;
      listed = f.kept.listed;
    }

-- a walk that was made had an address of w bits
enough : (b : Bool) (x : Result Ending Refusal) {r : ℕ} {lent left : List ℕ} → Hands (walk_made (refused_if (not b) refusal.AddressLength x)) r lent left → r ≡ 0 → b ≡ true
unfolding IsDone walk_made
enough true x h z = refl
enough false x h z = absurd (h.zero_is_done z)

pub has-bits : (m a : List ℕ) (w : ℕ) {r : ℕ} {lent left : List ℕ} → Hands (walk_made (interpret_over m a w)) r lent left → r ≡ 0 → 8 * length a ≡ w
has-bits m a w h z = eqb-true (8 * length a) w (enough (eqb (8 * length a) w) _ h z)

-- what the walk's calls promise of maps that the check accepts, over the address bits w: demand 3, and Core's number
abbrev pub Ends : List ℕ → List ℕ → ℕ → ℕ → ℕ → ℕ → ℕ → ℕ → Type 0
Ends m a w r kind number count bits = (c d : ℕ) → check_of m w ≡ Accepted c d → 8 * length a ≡ w → Finished m a w r kind number count bits

abbrev pub Numbers : List ℕ → List ℕ → ℕ → ℕ → Type 0
Numbers m a w number = (c d : ℕ) → check_of m w ≡ Accepted c d → 8 * length a ≡ w → core_interpret (address_bit a) w (file_of m) ≡ Number number

-- of the call that takes no width
pub ends_128 : (m a : List ℕ) {r kind number count bits : ℕ} → Demand3 m a r kind number count bits → Ends m a 128 r kind number count bits
ends_128 m a p c d e l = (p c d e (omega arith)).0

pub numbers_128 : (m a : List ℕ) {number : ℕ} → CoreNumber m a number → Numbers m a 128 number
numbers_128 m a p c d e l = p c d e (omega arith)

abbrev pub Concluded : List ℕ → List ℕ → ℕ → ℕ → ℕ → ℕ → ℕ → ℕ → Type 0
Concluded m a w r kind number count bits =
    AcceptedWalk m a w r kind number count bits × (r ≡ 0 → core_interpret (address_bit a) w (file_of m) ≡ Number number)

-- w: the address bits, which are whole bytes
module _ (m a : List ℕ) (w : ℕ) (whole : 8 * (w / 8) ≡ w) {r kind number count bits : ℕ} where
  -- the check refused, and there was no walk
  pub unwalked : {lent left : List ℕ} → Hands (map_checked (of_map (check_of m w))) r lent left → (r ≡ 0 → ⊥) → Concluded m a w r kind number count bits
  unwalked h n =
      (record { answered = λ c d e l. answered (check_of m w) e h; accepted = λ z. absurd (n z); bytes = λ z. absurd (n z); walked = λ z. absurd (n z) }, λ z. absurd (n z))

  -- the check answered q, 0, and r is the walk's answer
  pub walked_on : {q c d : ℕ} {lent lent' left : List ℕ} → Hands (map_checked (of_map (check_of m w))) q lent (c ∷ d ∷ []) → q ≡ 0
      → Hands (walk_made (interpret_over m a w)) r lent' left → Ends m a w r kind number count bits → Numbers m a w number → Concluded m a w r kind number count bits
  walked_on {q} {c} {d} h z k p n =
      let v = accepted (check_of m w) h z in
      let l : r ≡ 0 → 8 * length a ≡ w = has-bits m a w k in (
        record {
          answered = λ c d e b. (p c d e (omega arith)).done;
          accepted = λ y. (c, d, v);
          bytes = λ y. let b = l y in omega arith;
          walked = λ y. walked m a w r kind number count bits (p c d v (l y));
        },
        λ y. n c d v (l y),
      )
