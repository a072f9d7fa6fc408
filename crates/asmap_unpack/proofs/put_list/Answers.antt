-- What will be written in the end stays the same, turn by turn (list_more), and it is the check's own list where the check accepts
-- (unpacked_list).
use Rattle.std.proofs.Common.{◌≡◌, ◌∙◌, sym, ap, arith, ℕ, ◌+◌, ◌-◌, ◌*◌, List, []}
use Rattle.std.proofs.lemmas.List.Edits.{sets}
use Rattle.asmap_program.specs.declared.Instruction.{Instruction}
use Rattle.asmap_program.specs.Check.{check, unpacked}
use Rattle.asmap_program.proofs.Loop.{list_from, unpacked_list}
use Rattle.asmap_codes.specs.Instruction.{map_of}
use Rattle.asmap_records.specs.Record.{record_of, records_of}
use Rattle.asmap_unpack.proofs.ListLaws.{read_none, list_more, list_none, list-zero, turn_of}
use Rattle.asmap_unpack.proofs.put_list.Goals as goal
use Rattle.asmap_program.specs.Verdict.{Accepted}

-- nothing is left to be written: then what was written is the check's list, where it accepts
over : (m o₀ o : List ℕ) (count k : ℕ) (l : List Instruction) → sets o₀ 0 (records_of (list_from (map_of m) count 0)) ≡ sets o k (records_of l) → l ≡ []
    → (w d : ℕ) → check (map_of m) w ≡ Accepted count d → o ≡ sets o₀ 0 (records_of (unpacked (map_of m) w))
over m o₀ o count k l e z w d h =
    sym (ap (λ (y : List Instruction). sets o₀ 0 (records_of y)) (unpacked_list (map_of m) w h) ∙ e ∙ list_none o k l z)

pub returns-in_default : goal.returns-in_default
returns-in_default c =
    let a = c.args in
    let l = c.loop-i in
    over a.map.now a.out.now l.out a.count (16 * l.i) _ l.invariant.come
    (read_none a.map.now l.at c.requires.0 (a.count - l.i) c.in_default.field-0 (sym c.in_default.ensures))

pub overflow_add-at : goal.overflow_add-at
overflow_add-at c =
    let t = turn_of c.args.map.now c.loop-i.at c.in-Ok.instruction c.requires.0 (sym c.in-Ok.ensures) in
    omega (arith, t.inside)

pub put_record-requires : goal.put_record-requires
put_record-requires c =
    let t = turn_of c.args.map.now c.loop-i.at c.in-Ok.instruction c.requires.0 (sym c.in-Ok.ensures) in
    (omega arith, omega (arith, t.small), omega (arith, t.here, t.inside), omega (arith, t.inside))

pub loop-i-preserved : goal.loop-i-preserved
loop-i-preserved c =
    let a = c.args in
    let l = c.loop-i in
    let m = a.map.now in
    let i = c.in-Ok.instruction in
    let t = turn_of m l.at i c.requires.0 (sym c.in-Ok.ensures) in
    let n : a.count - l.i - 1 ≡ a.count - (l.i + 1) = omega arith in
    let k : 16 * l.i + 16 ≡ 16 * (l.i + 1) = omega arith in
    let p : i.place + i.size ≡ l.at + i.size = ap (λ (x : ℕ). x + i.size) t.here in
    let next = sets (sets l.out (16 * l.i) (record_of i)) in
    record {
      within = t.inside;
      come =
          rw (c.put_record.ensures, ← n, ← k)
          (l.invariant.come
          ∙ list_more (map_of m) l.out (16 * l.i) (a.count - l.i) l.at i (omega arith) t.whole
          ∙ ap (λ (x : ℕ). next (16 * l.i + 16) (records_of (list_from (map_of m) (a.count - l.i - 1) x))) p);
    }

pub returns : goal.returns
returns c =
    let a = c.args in
    let l = c.loop-i in
    let m = a.map.now in
    let z : a.count - l.i ≡ 0 = omega arith in
    over m a.out.now l.out a.count (16 * l.i) _ l.invariant.come (ap (λ (n : ℕ). list_from (map_of m) n l.at) z ∙ list-zero (map_of m) l.at)
