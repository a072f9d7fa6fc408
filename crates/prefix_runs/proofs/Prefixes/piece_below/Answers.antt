-- Without a prefix below, the piece is the gap from 0 on; else the last prefix below or the gap behind it.
use Rattle.std.proofs.Common.{◌≡◌, ℕ, suc, ◌-◌, sym, ◌∙◌, subst, arith, eqb-true}
use Rattle.std.proofs.lemmas.Bool.{eqb-false}
use Rattle.prefix_records.specs.models.Cursor.{value_of, Behind}
use Rattle.prefix_records.proofs.AddressLaws.{same_address}
use Rattle.prefix_runs.specs.models.Runs.{Cut}
use Rattle.prefix_runs.specs.models.Pieces.{top, Joined}
use Rattle.prefix_runs.proofs.EndLaws.{address_below}
use Rattle.prefix_runs.proofs.PieceLaws.{piece-length, first_gap, record-piece, gap-piece}
use Rattle.prefix_runs.proofs.Prefixes.piece_below.Goals as goal

pub returns-then-under-eq0 : goal.returns-then-under-eq0
returns-then-under-eq0 c = first_gap c.args.self.records.now c.args.self.given (value_of c.args.end) (subst (Cut _ _) c.if-under-eq0.true c.requires)

pub behind-past-requires : goal.behind-past-requires
behind-past-requires c =
    let j = c.args.under - 1 in
    omega (arith, c.args.self.rising.short j (omega (arith, c.requires.some)), piece-length c.args.self.records.now j)

pub returns-then-eq : goal.returns-then-eq
returns-then-eq c =
    let j = c.args.under - 1 in
    let s : c.args.under ≡ suc j = omega arith in
    let cut = subst (Cut c.args.self.records.now (top (value_of c.args.end))) s c.requires in
    let behind = subst (λ (n : ℕ). Behind c.record_at-record.result.address n c.behind-past.result) c.record_at-record.ensures.length c.behind-past.ensures in
    let same = sym (same_address c.behind-past.result c.args.end (omega arith) (omega arith)) ∙ sym c.eq.ensures ∙ c.if-eq.true in
    record-piece c.args.self.records.now c.args.self.given (value_of c.args.end) c.args.self.rising j cut _ _ c.record_at-record.ensures.address behind _
    (eqb-true _ _ same)
    c.record_at-record.ensures.number

pub returns : goal.returns
returns c =
    let j = c.args.under - 1 in
    let u = value_of c.args.end in
    let s : c.args.under ≡ suc j = omega arith in
    let cut = subst (Cut c.args.self.records.now (top u)) s c.requires in
    let behind = subst (λ (n : ℕ). Behind c.record_at-record.result.address n c.behind-past.result) c.record_at-record.ensures.length c.behind-past.ensures in
    let same = sym (same_address c.behind-past.result c.args.end (omega arith) (omega arith)) ∙ sym c.eq.ensures ∙ c.if-eq.false in
    subst (λ (n : ℕ). Joined c.args.self.records.now c.args.self.given (top u) (record { first = c.behind-past.result; number = c.args.self.given; under = n })) (sym s)
    (gap-piece c.args.self.records.now c.args.self.given u c.args.self.rising j cut _ c.behind-past.result c.record_at-record.ensures.address behind
    (address_below c.args.end (omega arith) (omega arith))
    (eqb-false _ _ same))
