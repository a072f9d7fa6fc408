-- Instruction by instruction, what the output will hold in the end stays the same (`ToCome`).
use Rattle.std.proofs.Common.{◌≡◌, ◌∙◌, ℕ, ◌+◌, ◌-◌, ◌<◌, List, [], ◌++◌, sym, ap, subst, arith}
use mathlib.Core.List.{append-nil}
use Rattle.asmap_program.specs.Map.{RETURN, MATCH, DEFAULT}
use Rattle.asmap_codes.specs.Encode.{instruction_bits}
use Rattle.asmap_bit_writer.specs.declared.BitWriter.{BitWriter}
use Rattle.asmap_bit_writer.proofs.ToCome.{ToCome, all_to_come, pushed, room}
use Rattle.load_draws.specs.Draw.{next}
use Rattle.load_draws.specs.declared.Generator.{Generator}
use Rattle.asmap_load.specs.Load.{number_by, match_by, load_bits}
use Rattle.asmap_load.proofs.LoadLaws.{return_ranged, default_ranged, match_ranged, load_more, load_last, come_as, ranged_as}
use Rattle.asmap_load.proofs.write_load.Goals as goal

-- the number of a DEFAULT or of the RETURN, by its draw
numbered : (s : ℕ) (a : Generator) (n : ℕ) → a ≡ record { state = next s } → n ≡ number_by a.state → n ≡ number_by (next s)
numbered s a n p e = e ∙ ap (λ x. number_by x.state) p

-- the second draw of a turn
drawn_twice : (s : ℕ) (a b : Generator) → a ≡ record { state = next s } → b ≡ record { state = next a.state } → b ≡ record { state = next (next s) }
drawn_twice s a b p q = q ∙ ap (λ x. record { state = next x.state }) p

module _ {goal out₀ out : List ℕ} {w : BitWriter} where
  -- a turn's DEFAULT, and the rest of the load behind it
  default_to_come : (left s : ℕ) (a : Generator) (n : ℕ) → 0 < left → a ≡ record { state = next s } → n ≡ number_by a.state
      → ToCome goal out₀ out w (load_bits left s)
      → ToCome goal out₀ out w (instruction_bits DEFAULT n ++ (instruction_bits MATCH (match_by (next (next s))) ++ load_bits (left - 1) (next (next s))))
  default_to_come left s a n h p e t =
      come_as DEFAULT (instruction_bits MATCH (match_by (next (next s))) ++ load_bits (left - 1) (next (next s))) (numbered s a n p e)
      (subst (ToCome goal out₀ out w) (load_more left s h) t)

  -- its MATCH
  match_to_come : (left s : ℕ) (b : Generator) (m : ℕ) → b ≡ record { state = next (next s) } → m ≡ match_by b.state
      → ToCome goal out₀ out w (instruction_bits MATCH (match_by (next (next s))) ++ load_bits (left - 1) (next (next s)))
      → ToCome goal out₀ out w (instruction_bits MATCH m ++ load_bits (left - 1) (next (next s)))
  match_to_come left s b m q f t = come_as MATCH (load_bits (left - 1) (next (next s))) (f ∙ ap (λ x. match_by x.state) q) t

  -- the RETURN behind the last pair
  return_to_come : (left s : ℕ) (a : Generator) (n : ℕ) → left ≡ 0 → a ≡ record { state = next s } → n ≡ number_by a.state
      → ToCome goal out₀ out w (load_bits left s) → ToCome goal out₀ out w (instruction_bits RETURN n ++ [])
  return_to_come left s a n z p e t =
      come_as RETURN [] (numbered s a n p e) (subst (ToCome goal out₀ out w) (load_last left s z ∙ sym (append-nil _)) t)

pub loop-init : goal.loop-init
loop-init c =
    let z : c.args.pairs - 0 ≡ c.args.pairs = omega arith in
    rw z (all_to_come _ _ _ c.at-writer.ensures c.requires)

pub push_instruction-requires : goal.push_instruction-requires
push_instruction-requires c =
    let s = c.loop.drawn.state in
    let n = c.number_by-number.result in
    let e = numbered s c.next-first.result n c.next-first.ensures.value c.number_by-number.ensures in
    let t = default_to_come (c.args.pairs - c.loop.counter) s c.next-first.result n (omega arith) c.next-first.ensures.value c.number_by-number.ensures c.loop.invariant in
    (t.ready, ranged_as DEFAULT e (default_ranged (next s)), room (instruction_bits DEFAULT n) _ t)

pub push_instruction-requires-in-loop : goal.push_instruction-requires-in-loop
push_instruction-requires-in-loop c =
    let s = c.loop.drawn.state in
    let m = c.match_by-operand.result in
    let d = default_to_come (c.args.pairs - c.loop.counter) s c.next-first.result c.number_by-number.result (omega arith) c.next-first.ensures.value c.number_by-number.ensures c.loop.invariant in
    let y = drawn_twice s c.next-first.result c.next-drawn.result c.next-first.ensures.value c.next-drawn.ensures.value in
    let f = c.match_by-operand.ensures ∙ ap (λ x. match_by x.state) y in
    let t = match_to_come (c.args.pairs - c.loop.counter) s c.next-drawn.result m y c.match_by-operand.ensures (pushed d c.push_instruction.ensures) in
    (t.ready, ranged_as MATCH f (match_ranged (next (next s))), room (instruction_bits MATCH m) _ t)

pub loop-preserved : goal.loop-preserved
loop-preserved c =
    let s = c.loop.drawn.state in
    let d = default_to_come (c.args.pairs - c.loop.counter) s c.next-first.result c.number_by-number.result (omega arith) c.next-first.ensures.value c.number_by-number.ensures c.loop.invariant in
    let y = drawn_twice s c.next-first.result c.next-drawn.result c.next-first.ensures.value c.next-drawn.ensures.value in
    let t = match_to_come (c.args.pairs - c.loop.counter) s c.next-drawn.result c.match_by-operand.result y c.match_by-operand.ensures (pushed d c.push_instruction.ensures) in
    let n : c.args.pairs - c.loop.counter - 1 ≡ c.args.pairs - (c.loop.counter + 1) = omega arith in
    rw (← n) (subst (ToCome _ _ _ _) (ap (λ x. load_bits (c.args.pairs - c.loop.counter - 1) x.state) (sym y)) (pushed t c.push_instruction-in-loop.ensures))

pub push_instruction-requires-2 : goal.push_instruction-requires-2
push_instruction-requires-2 c =
    let s = c.loop.drawn.state in
    let n = c.number_by-number-2.result in
    let e = numbered s c.next-last.result n c.next-last.ensures.value c.number_by-number-2.ensures in
    let t = return_to_come (c.args.pairs - c.loop.counter) s c.next-last.result n (omega arith) c.next-last.ensures.value c.number_by-number-2.ensures c.loop.invariant in
    (t.ready, ranged_as RETURN e (return_ranged (next s)), room (instruction_bits RETURN n) _ t)

pub finish-requires : goal.finish-requires
finish-requires c =
    let r = return_to_come (c.args.pairs - c.loop.counter) c.loop.drawn.state c.next-last.result c.number_by-number-2.result (omega arith) c.next-last.ensures.value c.number_by-number-2.ensures c.loop.invariant in
    let t = pushed r c.push_instruction-2.ensures in
    (t.ready, omega (arith, t.fits))

pub returns : goal.returns
returns c =
    let r = return_to_come (c.args.pairs - c.loop.counter) c.loop.drawn.state c.next-last.result c.number_by-number-2.result (omega arith) c.next-last.ensures.value c.number_by-number-2.ensures c.loop.invariant in
    c.finish.ensures ∙ sym (pushed r c.push_instruction-2.ensures).onward
