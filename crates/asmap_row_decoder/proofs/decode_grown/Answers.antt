-- The law of codes over sizes that grow by one (code_grown), and what fits (grown_fits).
use Rattle.std.proofs.Common.{◌≡◌, ◌∙◌, ℕ, suc, ◌+◌, ◌-◌, ◌/◌, ◌^◌, ◌≤◌, ◌<◌, leb, sym, ap, arith}
use mathlib.Core.Path.{ap₂}
use Rattle.asmap_codes.specs.Code.{pick}
use Rattle.asmap_codes.specs.Row.{span}
use Rattle.asmap_codes.specs.models.Grown.{grown, stops}
use Rattle.asmap_codes.proofs.GrownLaws.{stops_fit}
use Rattle.asmap_codes.proofs.ReverseLaws.{rev_lt, number-rev}
use Rattle.asmap_row_decoder.specs.models.InWindow.{code_in, tail_in, ones_of}
use Rattle.asmap_row_decoder.proofs.GrownCode.{ones_le, code_grown, Fits, grown_fits}
use Rattle.asmap_row_decoder.proofs.decode_grown.Goals as goal
use Rattle.asmap_codes.specs.Reading.{Cut, Value}

-- the ones are fewer than the sizes
few : (n w k : ℕ) → 0 < n → k ≡ ones_of (n - 1) w → k < n
few n w k h e = omega (arith, ones_le (n - 1) w)

fits : (v s n w k : ℕ) → 0 < n → k ≡ ones_of (n - 1) w → v + span (grown s n) ≤ 2 ^ 31 → Fits v s n k
fits v s n w k h e l = grown_fits v s n k (few n w k h e) l

-- the bits before the size's own
prefix : (n w k p : ℕ) → 0 < n → n ≤ 26 → k ≡ ones_of (n - 1) w → p ≡ k + stops k n → p ≤ 26
prefix n w k p h l e q = omega (arith, stops_fit k n (few n w k h e))

pub prefix_length-prefix-requires : goal.prefix_length-prefix-requires
prefix_length-prefix-requires c = omega (arith, few c.args.sizes c.args.w _ c.requires.2 c.starting_ones-ones.ensures)

pub overflow_cast-size : goal.overflow_cast-size
overflow_cast-size c =
    let f = fits c.args.least c.args.first c.args.sizes c.args.w _ c.requires.2 c.starting_ones-ones.ensures c.requires.1 in
    omega (arith, f.size)

pub overflow_add-size : goal.overflow_add-size
overflow_add-size c =
    let f = fits c.args.least c.args.first c.args.sizes c.args.w _ c.requires.2 c.starting_ones-ones.ensures c.requires.1 in
    omega (arith, f.size)

pub power-requires : goal.power-requires
power-requires c =
    let f = fits c.args.least c.args.first c.args.sizes c.args.w _ c.requires.2 c.starting_ones-ones.ensures c.requires.1 in
    omega (arith, f.size)

pub power-requires-2 : goal.power-requires-2
power-requires-2 c =
    let f = fits c.args.least c.args.first c.args.sizes c.args.w _ c.requires.2 c.starting_ones-ones.ensures c.requires.1 in
    omega (arith, f.size)

pub overflow_sub-passed : goal.overflow_sub-passed
overflow_sub-passed c =
    let f = fits c.args.least c.args.first c.args.sizes c.args.w _ c.requires.2 c.starting_ones-ones.ensures c.requires.1 in
    omega (arith, c.power.ensures, c.power-2.ensures, f.first)

pub overflow_add-value : goal.overflow_add-value
overflow_add-value c =
    let f = fits c.args.least c.args.first c.args.sizes c.args.w _ c.requires.2 c.starting_ones-ones.ensures c.requires.1 in
    omega (arith, c.power.ensures, c.power-2.ensures, f.room)

pub reversed_bits-requires : goal.reversed_bits-requires
reversed_bits-requires c =
    let f = fits c.args.least c.args.first c.args.sizes c.args.w _ c.requires.2 c.starting_ones-ones.ensures c.requires.1 in
    let p = prefix c.args.sizes c.args.w _ _ c.requires.2 c.requires.3 c.starting_ones-ones.ensures c.prefix_length-prefix.ensures in
    (omega (arith, p), omega (arith, p, f.size), omega (arith, f.size))

pub overflow_add-value-2 : goal.overflow_add-value-2
overflow_add-value-2 c =
    let f = fits c.args.least c.args.first c.args.sizes c.args.w _ c.requires.2 c.starting_ones-ones.ensures c.requires.1 in
    let m = rev_lt (c.args.first + c.starting_ones-ones.result) (c.args.w / 2 ^ c.prefix_length-prefix.result) in
    omega (arith, c.power.ensures, c.power-2.ensures, f.room, c.reversed_bits.ensures, m)

pub overflow_add-at : goal.overflow_add-at
overflow_add-at c =
    let p = prefix c.args.sizes c.args.w _ _ c.requires.2 c.requires.3 c.starting_ones-ones.ensures c.prefix_length-prefix.ensures in
    omega (arith, p, c.requires.0)

pub overflow_cast-size-2 : goal.overflow_cast-size-2
overflow_cast-size-2 c =
    let f = fits c.args.least c.args.first c.args.sizes c.args.w _ c.requires.2 c.starting_ones-ones.ensures c.requires.1 in
    omega (arith, f.size)

pub overflow_add-at-2 : goal.overflow_add-at-2
overflow_add-at-2 c =
    let f = fits c.args.least c.args.first c.args.sizes c.args.w _ c.requires.2 c.starting_ones-ones.ensures c.requires.1 in
    let p = prefix c.args.sizes c.args.w _ _ c.requires.2 c.requires.3 c.starting_ones-ones.ensures c.prefix_length-prefix.ensures in
    omega (arith, p, c.requires.0, f.size)

pub returns : goal.returns
returns c =
    let a = c.args in
    let k = c.starting_ones-ones.result in
    let p = c.prefix_length-prefix.result in
    let s = a.first + k in
    let n = a.sizes - 1 in
    let e : suc n ≡ a.sizes = omega (arith, c.requires.2) in
    let q : k + stops k (suc n) ≡ p = ap (λ (i : ℕ). k + stops k i) e ∙ sym c.prefix_length-prefix.ensures in
    let at = a.at + p + s in
    let passed = ap₂ (λ (x y : ℕ). x - y) c.power.ensures c.power-2.ensures in
    c.coded.ensures
    ∙ ap₂ (λ (x y : ℕ). pick (leb at a.end) (Value (a.least + x + y) at) Cut) passed (c.reversed_bits.ensures ∙ sym (number-rev s (a.w / 2 ^ p)))
    ∙ sym (ap (λ (x : ℕ). code_in (grown a.first x) a.least a.at a.end a.w) (sym e)
    ∙ code_grown n a.first a.least a.at a.end a.w k c.starting_ones-ones.ensures
    ∙ ap (λ (x : ℕ). tail_in s (a.least + (2 ^ s - 2 ^ a.first)) (a.at + x) a.end (a.w / 2 ^ x)) q)
