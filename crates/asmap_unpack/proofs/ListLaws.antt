-- What each turn of unpack's loop does: the records still to be written, from what is read. Assumes nothing.
use mathlib.Core.Path.{◌≡◌, ◌∙◌, refl, sym, ap}
use mathlib.Core.List.{List, [], ◌∷◌}
use Prim.Native.Nat.{ℕ, zero, suc, ◌+◌, ◌-◌, ◌*◌, ◌≤◌, ◌<◌}
use native.Mathlib.Omega.{arith}
use lib.ListN.{length}
use lib.Seq.{sets}
use Rattle.asmap_program.specs.declared.Instruction.{Instruction}
use Rattle.asmap_program.specs.Map.{Map, end_of, Fetched, Whole, CutOpcode, CutOperand}
use Rattle.asmap_program.proofs.Loop.{list_from}
use Rattle.asmap_codes.specs.Instruction.{map_of, read_instruction}
use Rattle.asmap_codes.proofs.MapLaws.{instruction_at_lem, laws, map-bits}
use Rattle.asmap_records.specs.Record.{record_of, records_of}
use Rattle.byte_numbers.proofs.Buffers.{sets-append}
use Rattle.refusals.specs.declared.Fault.{Fault}
use Rattle.std.specs.Prelude.{Ok, Err}

-- ---- what is listed, by what stands at a place

module _ (m : Map) (p : ℕ) where
  list-whole : (n : ℕ) (i : Instruction) → m.fetch p ≡ Whole i → list_from m (suc n) p ≡ i ∷ list_from m n (end_of i)
  unfolding list_from
  list-whole n i f = rw f

  list-cut : (n : ℕ) → m.fetch p ≡ CutOpcode → list_from m n p ≡ []
  unfolding list_from
  list-cut zero f = refl
  list-cut (suc n) f = rw f

  list_half : (n op : ℕ) → m.fetch p ≡ CutOperand op → list_from m n p ≡ []
  unfolding list_from
  list_half zero op f = refl
  list_half (suc n) op f = rw f

  pub list-zero : list_from m 0 p ≡ []
  unfolding list_from
  list-zero = refl

-- ---- the same, by what the decoder hands back

module _ (m : List ℕ) (p : ℕ) (h : length m ≤ 16777216) where
  -- an instruction that was read stands there
  pub read_whole : (i : Instruction) → read_instruction m p ≡ Ok i → (map_of m).fetch p ≡ Whole i
  read_whole i e = go ((map_of m).fetch p) refl
    where
      go : (f : Fetched) → (map_of m).fetch p ≡ f → f ≡ Whole i
      go (Whole j) q = let r = sym (instruction_at_lem m p h (Whole j) q) ∙ e in cc
      go CutOpcode q = let r = sym (instruction_at_lem m p h CutOpcode q) ∙ e in let z : ◌≡◌ {A = ℕ} 0 1 = cc in absurd (omega arith)
      go (CutOperand op) q = let r = sym (instruction_at_lem m p h (CutOperand op) q) ∙ e in let z : ◌≡◌ {A = ℕ} 0 1 = cc in absurd (omega arith)

  -- where none was read, none is listed
  pub read_none : (n : ℕ) (r : Fault) → read_instruction m p ≡ Err r → list_from (map_of m) n p ≡ []
  read_none n r e = go ((map_of m).fetch p) refl
    where
      go : (f : Fetched) → (map_of m).fetch p ≡ f → list_from (map_of m) n p ≡ []
      go (Whole j) q = let s = sym (instruction_at_lem m p h (Whole j) q) ∙ e in let z : ◌≡◌ {A = ℕ} 0 1 = cc in absurd (omega arith)
      go CutOpcode q = list-cut (map_of m) p n q
      go (CutOperand op) q = list_half (map_of m) p n op q

-- one record more, and the rest after it
pub list_more : (m : Map) (o : List ℕ) (k n p : ℕ) (i : Instruction) → 1 ≤ n → m.fetch p ≡ Whole i
    → sets o k (records_of (list_from m n p)) ≡ sets (sets o k (record_of i)) (k + 16) (records_of (list_from m (n - 1) (end_of i)))
list_more m o k n p i h f =
    let s : n ≡ suc (n - 1) = omega arith in
    ap (λ (y : ℕ). sets o k (records_of (list_from m y p))) s
    ∙ ap (λ (y : List Instruction). sets o k (records_of y)) (list-whole m p (n - 1) i f)
    ∙ sets-append o k (record_of i) (records_of (list_from m (n - 1) (end_of i)))

-- nothing more is written
pub list_none : (o : List ℕ) (k : ℕ) (l : List Instruction) → l ≡ [] → sets o k (records_of l) ≡ o
list_none o k l e = rw e

-- what a turn has read
pub record Turn (m : List ℕ) (p : ℕ) (i : Instruction) : Type 0 where
  pub whole : (map_of m).fetch p ≡ Whole i
  pub here : i.place ≡ p
  pub inside : p + i.size ≤ 8 * length m
  pub small : i.opcode < 4

pub turn_of : (m : List ℕ) (p : ℕ) (i : Instruction) → length m ≤ 16777216 → read_instruction m p ≡ Ok i → Turn m p i
turn_of m p i h e =
    let f = read_whole m p h i e in
    let s = (laws m).stands p i f in
    record { whole = f; here = s.here; inside = omega (arith, s.fits, map-bits m); small = s.known }
