-- What will be written in the end stays the same, turn by turn: the records read are written, and those of the rest are still to come.
use Rattle.std.proofs.Common.{◌-◌, ◌≡◌, ◌*◌, ◌≤◌, length}
use Rattle.std.proofs.lemmas.List.Edits.{sets}
use Rattle.asmap_program.proofs.Loop.{list_from}
use Rattle.asmap_codes.specs.Instruction.{map_of}
use Rattle.asmap_records.specs.Record.{records_of}
use Rattle.asmap_unpack.proofs.put_list.Given as goal

abbrev pub invariant-loop-i : goal.invariant-loop-i
invariant-loop-i l = record {
  within : l.at ≤ 8 * length l.map;
  come : sets l.fn.out 0 (records_of (list_from (map_of l.map) l.count 0)) ≡ sets l.out (16 * l.i) (records_of (list_from (map_of l.map) (l.count - l.i) l.at));
}
