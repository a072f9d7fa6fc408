-- The word is put below the bits held (going_start), each byte goes out before those that did (going_on), and fewer than 8 bits are left
-- (going_stop); what will be written in the end stays the same.
use Rattle.std.proofs.Common.{refl, arith, ◌+◌}
use Rattle.asmap_encode.proofs.WordLaws.{shifted, window-fits}
use Rattle.asmap_front_writer.proofs.FrontLaws.{shifted_one, going_start, going_on, going_stop}
use Rattle.asmap_front_writer.proofs.put_word_before.Goals as goal

pub overflow_add-all : goal.overflow_add-all
overflow_add-all c =
    let w = c.args.front in
    let u = c.args.word in
    let p = c.requires in
    let e = shifted w.bits w.held u.len p.0.small (omega (arith, p.0.short)) in
    rw e record { fits = window-fits u.bits u.len w.bits w.held p.1 p.0.small (omega (arith, p.0.short)) }

pub loop-held-init : goal.loop-held-init
loop-held-init c =
    let w = c.args.front in
    let u = c.args.word in
    let p = c.requires in
    let e = shifted w.bits w.held u.len p.0.small (omega (arith, p.0.short)) in
    rw e (going_start c.args.out.now w u p.0 p.1 p.2)

pub loop-held-preserved : goal.loop-held-preserved
loop-held-preserved c =
    let l = c.loop-held in
    going_on _ _ _ _ l.out l.held l.place l.invariant c.loop-held-test.true

pub returns : goal.returns
returns c =
    let l = c.loop-held in
    let h = c.loop-held-test.false in
    let a = c.args in
    rw (shifted_one l.held h) (refl, l.invariant.kept, going_stop _ _ _ _ l.out l.held l.place l.invariant h (a.front.done + a.word.len))
