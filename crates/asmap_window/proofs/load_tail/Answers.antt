-- So few bytes are below 2 ^ 48, and one more fits; at the end their bits are the map's.
use Rattle.std.proofs.Common.{arith, ℕ, ◌≡◌, ◌/◌, ◌%◌, ◌^◌, drop, ◌∙◌, ap}
use Rattle.asmap_codes.proofs.BitLaws.{drop-map_bits}
use Rattle.asmap_window.proofs.ByteLaws.{window_bytes, tail-fits}
use Rattle.asmap_window.proofs.load_tail.Goals as goal

pub overflow_mul-w : goal.overflow_mul-w
overflow_mul-w c =
    let l = c.loop-i.invariant in
    record { fits = omega (arith, tail-fits _ _ l.within (omega arith) l.bytes, l.read) }

pub overflow_add-w : goal.overflow_add-w
overflow_add-w c =
    let l = c.loop-i.invariant in
    record { fits = omega (arith, tail-fits _ _ l.within (omega arith) l.bytes, l.read, c.type_inv.map c.loop-i.i) }

pub returns : goal.returns
returns c i h =
    let a = c.args in
    let e : c.loop-i.i ≡ a.b = omega arith in
    rw (drop-map_bits a.map.now a.b, ← e)
    (ap (λ (k : ℕ). k / 2 ^ i % 2) c.loop-i.invariant.read ∙ window_bytes (drop c.loop-i.i a.map.now) c.loop-i.invariant.bytes i)
