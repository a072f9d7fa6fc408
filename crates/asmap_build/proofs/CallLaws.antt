-- What the calls hand back, from how the list is judged and how many bits its tree has; and what is promised of what they wrote.
-- Assumes nothing.
use Prim.Native.Nat.{ℕ, ◌+◌, ◌/◌, ◌≤◌, ◌<◌}
use mathlib.Core.Bool.{Bool, true, false}
use mathlib.Core.Path.{◌≡◌, refl, sym, ap, ap₂, subst, ◌∙◌}
use mathlib.Core.List.{List}
use native.Mathlib.Omega.{arith}
use lib.Dec.{ltb}
use lib.ListN.{length, get_or, take, drop}
use lib.Seq.{sets, take_at}
use borrow.Author.Tests.{lt-ltb, le-ltb, ltb-false}
use Rattle.prefix_lists.specs.List.{count_of, piece_at, judge}
use Rattle.prefix_lists.proofs.ListLaws.{judged_rising}
use Rattle.asmap_bit_writer.specs.Bytes.{bytes_of}
use Rattle.asmap_bit_writer.proofs.ByteLaws.{length-bytes_of}
use Rattle.asmap_records.specs.Output.{Making, Made, No, refuse, answer_of, leaves, Hands}
use Rattle.asmap_records.proofs.OutputLaws.{passed, made_same, hands_no, hands_short, hands_made}
use Rattle.asmap_shapes.specs.Shape.{bits_of}
use Rattle.asmap_build.specs.Build.{tree_bits, build_as, build_of}
use Rattle.asmap_build.specs.Promise.{Builds, WritesMap}
use Rattle.asmap_build.proofs.WidthLaws.{same_at_width}
use Rattle.asmap_build.proofs.BuildLaws.{builds}
use Rattle.prefix_lists.specs.Judged.{Listed}
use Rattle.refusals.specs.declared.Fault.TheVariants as fault
use Rattle.refusals.specs.declared.Refusal.{Refusal}
use Rattle.refusals.specs.declared.Refusal.TheVariants as refusal
use Rattle.std.specs.Prelude.{Result, Ok, Err}

-- ---- of a list that is not refused

module _ (bits o : List ℕ) where
  abbrev pub made : Making
  made = build_as bits Listed

  made_within : length bits ≤ 134217728 → made ≡ Made (bytes_of bits)
  unfolding refuse
  made_within h = rw (le-ltb 134217728 (length bits) h)

  -- over the limit
  pub hands_over : 134217728 < length bits → Hands made o o (Err (refusal.Map fault.MapTooLong))
  unfolding refuse
  hands_over h = hands_no made o (refusal.Map fault.MapTooLong) (rw (lt-ltb 134217728 (length bits) h))

  module _ (k : ℕ) (within : length bits ≤ 134217728) (size : k ≡ (length bits + 7) / 8) where
    long : k ≡ length (bytes_of bits)
    long = size ∙ sym (length-bytes_of bits)

    -- no room
    pub hands_no_room : length o < k → Hands made o o (Err refusal.OutputTooShort)
    hands_no_room h = hands_short made o (bytes_of bits) (made_within within) (omega (arith, long))

    -- written
    pub hands-bits : (o' : List ℕ) → k ≤ length o → o' ≡ sets o 0 (bytes_of bits) → Hands made o o' (Ok k)
    hands-bits o' h q = hands_made made o (bytes_of bits) o' k (made_within within) long (omega (arith, long)) q

-- ---- what was written

-- what was handed back as written was made, and stands at the output's front
wrote_made : (made : Making) (o o' : List ℕ) (k : ℕ) → Hands made o o' (Ok k) → (bs : List ℕ) × (made ≡ Made bs) × (take k o' ≡ bs)
unfolding refuse
wrote_made (Made bs) o o' k h = go (ltb (length o) (length bs)) h.answer h.output
  where
    go : (b : Bool) → Ok k ≡ answer_of (refuse b refusal.OutputTooShort (Made bs)) → o' ≡ leaves (refuse b refusal.OutputTooShort (Made bs)) o
        → (cs : List ℕ) × (Made bs ≡ Made cs) × (take k o' ≡ cs)
    go true e q = let z : ◌≡◌ {A = ℕ} 0 1 = cc in absurd (omega arith)
    go false e q = let z : k ≡ length bs = cc in (bs, refl, ap₂ take z q ∙ take_at bs (drop (length bs) o) (length bs) refl)
wrote_made (No n) o o' k h = let e = h.answer in let z : ◌≡◌ {A = ℕ} 0 1 = cc in absurd (omega arith)

-- nothing is promised of a refusal
pub refused_none : (l : List ℕ) (given w : ℕ) (o : List ℕ) (n : Refusal) → WritesMap l given w o (Err n)
refused_none l given w o n k e = let z : ◌≡◌ {A = ℕ} 0 1 = cc in absurd (omega arith)

module _ (l : List ℕ) (given w : ℕ) (o : List ℕ) where
  -- a list that is refused
  pub build_refused : (n : Refusal) → judge w l given ≡ Err n → Hands (build_of l given w) o o (Err n) × WritesMap l given w o (Err n)
  unfolding build_of
  build_refused n e = (hands_no (build_of l given w) o n (ap (build_as (tree_bits l given w)) e), refused_none l given w o n)

  -- a list that is not: its tree over 128 bits is that over w
  module _ (narrow : w ≤ 128) (bytes : (i : ℕ) → get_or l i 0 < 256) (fine : judge w l given ≡ Listed) where
    same_bits : tree_bits l given 128 ≡ tree_bits l given w
    same_bits = ap bits_of (same_at_width w 128 narrow (piece_at l) given (count_of l) (judged_rising w l given bytes fine).0.short)

    made_listed : build_as (tree_bits l given 128) Listed ≡ build_of l given w
    unfolding build_of
    made_listed = ap₂ build_as same_bits (sym fine)

    written : (bs : List ℕ) → build_as (tree_bits l given w) Listed ≡ Made bs → Builds l given w bs
    written bs e =
        let p = passed (ltb 134217728 (length (tree_bits l given w))) (refusal.Map fault.MapTooLong) (Made (bytes_of (tree_bits l given w))) bs e in
        let r = judged_rising w l given bytes fine in
        subst (Builds l given w) (sym (made_same p.1)) (builds l given w narrow r.0 r.1 (ltb-false 134217728 (length (tree_bits l given w)) p.0))

    pub build_listed_lem : (o' : List ℕ) (r : Result ℕ Refusal) → Hands (build_as (tree_bits l given 128) Listed) o o' r → Hands (build_of l given w) o o' r × WritesMap l given w o' r
    build_listed_lem o' r h = (
      subst (λ (x : Making). Hands x o o' r) made_listed h,
      λ k e.
          let q : Hands (build_as (tree_bits l given w) Listed) o o' (Ok k)
          = subst (Hands (build_as (tree_bits l given w) Listed) o o') e (subst (λ (x : List ℕ). Hands (build_as x Listed) o o' r) same_bits h) in
          let t = wrote_made (build_as (tree_bits l given w) Listed) o o' k q in
          subst (Builds l given w) (sym t.2) (written t.0 t.1),
    )
