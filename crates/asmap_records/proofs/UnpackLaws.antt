-- Laws of unpack's definition: what it makes of a map that the check accepts or refuses. Assumes nothing.
use mathlib.Core.Path.{◌≡◌, ◌∙◌, refl, sym, ap}
use mathlib.Core.List.{List}
use Prim.Native.Nat.{ℕ, ◌*◌, ◌≤◌}
use native.Mathlib.Omega.{arith}
use lib.ListN.{length}
use Rattle.asmap_program.specs.Check.{check, unpacked}
use Rattle.asmap_program.proofs.Depth.{carries}
use Rattle.asmap_codes.specs.Instruction.{map_of}
use Rattle.asmap_check.specs.Check.{check_of}
use Rattle.asmap_check.proofs.Limit.{accepted_within}
use Rattle.asmap_records.specs.Record.{records_of}
use Rattle.asmap_records.specs.Output.{Made}
use Rattle.asmap_records.specs.Unpack.{unpack_as, unpack_of}
use Rattle.asmap_records.proofs.RecordLaws.{length_records}
use Rattle.asmap_program.specs.Verdict.{Accepted, Verdict}
use Rattle.std.specs.Prelude.{Err, Ok}

module _ (m : List ℕ) (w : ℕ) where
  pub unpack_as_lem : (v : Verdict) → v ≡ check_of m w → unpack_of m w ≡ unpack_as m w v
  unfolding unpack_of
  unpack_as_lem v e = ap (unpack_as m w) (sym e)

  -- sixteen bytes for each instruction counted
  pub unpack-length : (c d : ℕ) → check (map_of m) w ≡ Accepted c d → length (records_of (unpacked (map_of m) w)) ≡ 16 * c
  unpack-length c d e = length_records (unpacked (map_of m) w) ∙ ap (λ (n : ℕ). 16 * n) (sym (carries (map_of m) w e).0)

  -- what an unpacked map is
  pub record Unpacks (rs : List ℕ) : Type 0 where
    pub count : ℕ
    pub depth : ℕ
    pub short : length m ≤ 16777216
    pub accepted : check (map_of m) w ≡ Accepted count depth
    pub records : rs ≡ records_of (unpacked (map_of m) w)

  pub unpacks : (rs : List ℕ) → unpack_of m w ≡ Made rs → Unpacks rs
  unfolding unpack_of
  unpacks rs h = go (check_of m w) refl h
    where
      go : (a : Verdict) → check_of m w ≡ a → unpack_as m w a ≡ Made rs → Unpacks rs
      go (Ok got) e q =
          let s = accepted_within m w got.count got.depth e in
          record { count = got.count; depth = got.depth; short = s.0; accepted = s.1; records = cc }
      go (Err n) e q = let z : ◌≡◌ {A = ℕ} 0 1 = cc in absurd (omega arith)
