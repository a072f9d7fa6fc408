-- What is behind is one number: the bytes from i on.
use Rattle.std.proofs.Common.{◌≡◌, ◌≤◌, length, drop}
use Rattle.byte_numbers.specs.models.Word.{number, Bytes}
use Rattle.asmap_window.proofs.load_tail.Given as goal

abbrev pub invariant-loop-i : goal.invariant-loop-i
invariant-loop-i l = record {
  above : l.b ≤ l.i;
  within : l.i ≤ length l.map;
  read : l.w ≡ number (drop l.i l.map);
  bytes : Bytes (drop l.i l.map);
}
