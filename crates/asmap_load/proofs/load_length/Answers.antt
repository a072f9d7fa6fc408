-- A turn takes its two instructions off what is to come (length_more); behind the last pair the RETURN alone was.
use Rattle.std.proofs.Common.{◌≡◌, ◌∙◌, ℕ, ◌+◌, ◌-◌, ◌<◌, length, sym, ap, arith}
use Rattle.asmap_program.specs.Map.{RETURN, MATCH, DEFAULT}
use Rattle.asmap_encode.specs.Write.{write_instruction}
use Rattle.asmap_encode.specs.models.Words.{length_written}
use Rattle.load_draws.specs.Draw.{next}
use Rattle.load_draws.specs.declared.Generator.{Generator}
use Rattle.asmap_load.specs.Load.{number_by, match_by, load_bits}
use Rattle.asmap_load.proofs.LoadLaws.{return_ranged, default_ranged, match_ranged, measured, load_last, length_more, load_short}
use Rattle.asmap_load.proofs.load_length.Goals as goal

-- what a turn measures is what it takes off the load to come: s is the draw before, a and b the two draws of the turn
turn : (left s : ℕ) (a b : Generator) (n m i j : ℕ) → 0 < left → a ≡ record { state = next s } → b ≡ record { state = next a.state }
    → n ≡ number_by a.state → m ≡ match_by b.state
    → i ≡ length_written (write_instruction DEFAULT n) → j ≡ length_written (write_instruction MATCH m)
    → length (load_bits left s) ≡ i + j + length (load_bits (left - 1) b.state)
turn left s a b n m i j h p q e f g k =
    let y : b ≡ record { state = next (next s) } = q ∙ ap (λ x. record { state = next x.state }) p in
    let d : n ≡ number_by (next s) = e ∙ ap (λ x. number_by x.state) p in
    let t : m ≡ match_by (next (next s)) = f ∙ ap (λ x. match_by x.state) y in
    let u = measured DEFAULT (number_by (next s)) i (default_ranged (next s)) (rw d at g) in
    let v = measured MATCH (match_by (next (next s))) j (match_ranged (next (next s))) (rw t at k) in
    let w = ap (λ x. length (load_bits (left - 1) x.state)) y in
    omega (arith, length_more left s h, u, v, w)

-- the RETURN behind the last pair
last : (left s : ℕ) (a : Generator) (n i : ℕ) → left ≡ 0 → a ≡ record { state = next s } → n ≡ number_by a.state
    → i ≡ length_written (write_instruction RETURN n) → length (load_bits left s) ≡ i
last left s a n i z p e g =
    let d : n ≡ number_by (next s) = e ∙ ap (λ x. number_by x.state) p in
    ap length (load_last left s z) ∙ sym (measured RETURN (number_by (next s)) i (return_ranged (next s)) (rw d at g))

pub overflow_add-bits : goal.overflow_add-bits
overflow_add-bits c =
    let t = turn (c.args.pairs - c.loop.counter) c.loop.drawn.state c.next-first.result c.next-drawn.result _ _ _ _ (omega arith) c.next-first.ensures.value c.next-drawn.ensures.value
    c.number_by.ensures c.match_by.ensures c.instruction_length-default_bits.ensures c.instruction_length-match_bits.ensures in
    record { fits = omega (arith, t, load_short c.args.pairs c.args.generator.state) }

pub overflow_add-bits-in-loop : goal.overflow_add-bits-in-loop
overflow_add-bits-in-loop c =
    let t = turn (c.args.pairs - c.loop.counter) c.loop.drawn.state c.next-first.result c.next-drawn.result _ _ _ _ (omega arith) c.next-first.ensures.value c.next-drawn.ensures.value
    c.number_by.ensures c.match_by.ensures c.instruction_length-default_bits.ensures c.instruction_length-match_bits.ensures in
    record { fits = omega (arith, t, load_short c.args.pairs c.args.generator.state) }

pub loop-preserved : goal.loop-preserved
loop-preserved c =
    let t = turn (c.args.pairs - c.loop.counter) c.loop.drawn.state c.next-first.result c.next-drawn.result _ _ _ _ (omega arith) c.next-first.ensures.value c.next-drawn.ensures.value
    c.number_by.ensures c.match_by.ensures c.instruction_length-default_bits.ensures c.instruction_length-match_bits.ensures in
    let n : c.args.pairs - c.loop.counter - 1 ≡ c.args.pairs - (c.loop.counter + 1) = omega arith in
    rw (← n) (omega (arith, t))

pub overflow_add-result : goal.overflow_add-result
overflow_add-result c =
    let t = last (c.args.pairs - c.loop.counter) c.loop.drawn.state c.next-last.result _ _ (omega arith) c.next-last.ensures.value c.number_by-2.ensures c.instruction_length.ensures in
    record { fits = omega (arith, t, load_short c.args.pairs c.args.generator.state) }

pub returns : goal.returns
returns c =
    let t = last (c.args.pairs - c.loop.counter) c.loop.drawn.state c.next-last.result _ _ (omega arith) c.next-last.ensures.value c.number_by-2.ensures c.instruction_length.ensures in
    omega (arith, t)
