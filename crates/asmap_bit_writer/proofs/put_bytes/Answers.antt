-- The byte that goes out is the first of those that are left.
use Rattle.std.proofs.Common.{◌≡◌, ◌∙◌, ℕ, suc, ◌+◌, ◌-◌, ◌%◌, ◌/◌, ap, arith, set, length-set}
use Rattle.asmap_bit_writer.specs.models.Stream.{put_bytes}
use Rattle.asmap_bit_writer.proofs.put_bytes.Goals as goal

pub loop-i-preserved : goal.loop-i-preserved
loop-i-preserved c =
    let l = c.loop-i in
    let n = c.args.count in
    let e : n - l.i ≡ suc (n - (l.i + 1)) = omega arith in
    let q : c.args.from + l.i + 1 ≡ c.args.from + (l.i + 1) = omega arith in (
      length-set l.out (c.args.from + l.i) (l.bits % 256) ∙ l.invariant.0,
      l.invariant.1 ∙ ap (λ (k : ℕ). put_bytes k l.out (c.args.from + l.i) l.bits) e
          ∙ ap (λ (k : ℕ). put_bytes (n - (l.i + 1)) (set l.out (c.args.from + l.i) (l.bits % 256)) k (l.bits / 256)) q,
    )
