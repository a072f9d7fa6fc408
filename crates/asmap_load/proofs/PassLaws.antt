-- Every load passes (document 02, CR 6): the check accepts it, and an address that begins with the MATCH bits walks all of it. Assumes nothing.
use mathlib.Core.Path.{◌≡◌, ◌∙◌, refl, sym, ap, ap₂, subst}
use mathlib.Core.Logic.{◌≢◌}
use mathlib.Core.Bool.{true}
use mathlib.Core.List.{List}
use Prim.Native.Nat.{ℕ, ◌+◌, ◌-◌, ◌*◌, ◌/◌, ◌≤◌, ◌<◌}
use native.Mathlib.Omega.{arith}
use borrow.Author.Tests.{le-leb, le-ltb}
use lib.ListN.{length, drop, take}
use lib.Seq.{sets, take_at}
use Rattle.asmap_program.specs.declared.Kind.TheVariants.{Returned}
use Rattle.asmap_program.specs.declared.Previous.TheVariants.{Other}
use Rattle.asmap_program.specs.declared.Instruction.{Instruction}
use Rattle.asmap_program.specs.Map.{address_bit}
use Rattle.asmap_program.specs.Tree.{Program}
use Rattle.asmap_program.specs.Walk.{walk}
use Rattle.asmap_program.proofs.TreeAccepted.{tree_accepted, tree-unpacked}
use Rattle.asmap_program.proofs.Tree.{accepts}
use Rattle.asmap_program.specs.Check.{start, check, unpacked}
use Rattle.asmap_codes.specs.Instruction.{padded_from, map_of}
use Rattle.asmap_codes.proofs.MapLaws.{laws}
use Rattle.asmap_check.specs.Check.{check_of}
use Rattle.asmap_walk_bits.specs.Walk.{walk_of, summary}
use Rattle.asmap_bit_writer.specs.Bytes.{bytes_of}
use Rattle.asmap_bit_writer.proofs.ByteLaws.{length-bytes_of}
use Rattle.asmap_bit_writer.proofs.ToCome.{read_back}
use Rattle.asmap_records.specs.Output.{Made, No, Hands}
use Rattle.asmap_records.proofs.OutputLaws.{hands_no, hands_short, hands_made}
use Rattle.asmap_records.proofs.RecordLaws.{sets_front}
use Rattle.asmap_load.specs.Load.{load_bits, load_of, last_number}
use Rattle.asmap_load.specs.Promise.{Begins, Passes, WritesLoad}
use Rattle.asmap_load.proofs.LoadLaws.{load-bits, load_short, load_made}
use Rattle.asmap_load.proofs.ShapeLaws.{Laid, laid, laid_count, laid_tree, NoJump, laid_no-jump, flat, laid_walk}
use Rattle.asmap_load.proofs.AddressLaws.{whole_length, whole-bytes, whole-begins}
use Rattle.asmap_program.specs.Verdict.{Accepted}
use Rattle.refusals.specs.declared.Refusal.{Refusal}
use Rattle.refusals.specs.declared.Refusal.TheVariants as refusal
use Rattle.std.specs.Prelude.{Ok, Err}

module _ (s n : ℕ) where
  abbrev m : List ℕ
  m = bytes_of (load_bits n s)

  abbrev end : ℕ
  end = length (load_bits n s)

  -- its instructions, from bit 0 on, and the padding behind them
  shape : (is : List Instruction) × Laid (map_of m) n s 0 end is × ((map_of m).padded end ≡ true) × (end ≤ 8 * length m)
  unfolding map_of padded_from
  shape =
      let r = read_back (load_bits n s) (load-bits n s) in
      let l = laid m n s 0 r.pad r.whole in
      let z : 0 + end ≡ end = omega arith in (
        l.0,
        rw z at l.1,
        rw (le-leb (8 * length m - end) 7 r.few) r.blank,
        omega (arith, length-bytes_of (load_bits n s)),
      )

  small : n ≤ 128 → length m ≤ 16777216
  small h = omega (arith, length-bytes_of (load_bits n s), load_short n s)

  -- an accepted load is as deep as the check's start: it has no JUMP
  depth : {c d : ℕ} (w : ℕ) → n ≤ w → check (map_of m) w ≡ Accepted c d → d ≡ 0
  unfolding check unpacked
  depth w k h =
      let t = shape in
      let p : Program (map_of m) w t.0 = record { end = end; tree = laid_tree (map_of m) t.1 Other w refl k; tail = t.2 } in
      flat (map_of m) (accepts (map_of m) (map_of m).bits (start w) h) (subst (NoJump (map_of m)) (sym (tree-unpacked (map_of m) (laws m) p)) (laid_no-jump (map_of m) t.1))

  accepted : n ≤ 128 → (w : ℕ) → n ≤ w → check_of m w ≡ Accepted (2 * n + 1) 0
  accepted h w k =
      let t = shape in
      let p : Program (map_of m) w t.0 = record { end = end; tree = laid_tree (map_of m) t.1 Other w refl k; tail = t.2 } in
      let a = tree_accepted (map_of m) (laws m) p in
      rw (le-ltb 16777216 (length m) (small h)) (a.1 ∙ ap₂ Accepted (laid_count (map_of m) t.1) (depth w k a.1))

  whole_walk : (w : ℕ) → n ≤ w → (a : List ℕ) → Begins s n a
      → summary (walk_of m a w) ≡ record { kind = Returned; number = last_number s n; count = 2 * n + 1; bits = n }
  unfolding walk_of walk map_of
  whole_walk w k a b =
      let t = shape in
      let z : (i : ℕ) → 0 + i ≡ i = λ i. omega arith in
      let r = laid_walk (address_bit a) (map_of m) (laws m) w t.1 (8 * length m) 0 0 (omega (arith, t.3)) (omega arith) (λ i h. ap (address_bit a) (z i) ∙ b i h) in
      ap summary r ∙ ap₂ (λ (c u : ℕ). record { kind = Returned; number = last_number s n; count = c; bits = u }) (laid_count (map_of m) t.1) (z n)

  pub passes : n ≤ 128 → Passes s n m
  passes h = record {
    accepted = accepted h;
    whole_walk = whole_walk;
    sixteen = whole_length s n;
    bytes = whole-bytes s n;
    begins = whole-begins s n h;
  }

-- what is made, and how many bytes it has at most
pub made_short : (s n : ℕ) → s ≢ 0 → n ≤ 128 → (bytes : List ℕ) × (load_of s n ≡ Made bytes) × (length bytes ≤ (26 * n + 26) / 8)
made_short s n z h = (m s n, load_made s n z h, omega (arith, length-bytes_of (load_bits n s), load_short n s))

-- ---- what the call wrote

refused_none : (s n : ℕ) (k : Refusal) (o : List ℕ) → WritesLoad s n o (Err k)
refused_none s n k o j e = let y : ◌≡◌ {A = ℕ} 0 1 = cc in absurd (omega arith)

-- what the call hands back, by what is refused or made
pub load_refused : (s n : ℕ) (o : List ℕ) (k : Refusal) → load_of s n ≡ No k → Hands (load_of s n) o o (Err k) × WritesLoad s n o (Err k)
load_refused s n o k e = (hands_no (load_of s n) o k e, refused_none s n k o)

module _ (s n : ℕ) (o : List ℕ) (k : ℕ) (some : s ≢ 0) (few : n ≤ 128) (size : k ≡ (length (load_bits n s) + 7) / 8) where
  bytes_size : k ≡ length (m s n)
  bytes_size = size ∙ sym (length-bytes_of (load_bits n s))

  pub load_no_room : length o < k → Hands (load_of s n) o o (Err refusal.OutputTooShort) × WritesLoad s n o (Err refusal.OutputTooShort)
  load_no_room h = (hands_short (load_of s n) o (m s n) (load_made s n some few) (omega (arith, bytes_size)), refused_none s n refusal.OutputTooShort o)

  pub load_wrote : (o' : List ℕ) → k ≤ length o → o' ≡ sets o 0 (bytes_of (load_bits n s)) → Hands (load_of s n) o o' (Ok k) × WritesLoad s n o' (Ok k)
  load_wrote o' h q =
      let fits : length (m s n) ≤ length o = omega (arith, bytes_size) in (
        hands_made (load_of s n) o (m s n) o' k (load_made s n some few) bytes_size fits q,
        λ j e.
            let w : j ≡ k = cc in
            let b : take j o' ≡ m s n = ap₂ take (w ∙ bytes_size) (q ∙ sets_front o (m s n) fits) ∙ take_at (m s n) (drop (length (m s n)) o) (length (m s n)) refl in
            subst (Passes s n) (sym b) (passes s n few),
      )
