-- What an instruction put before others keeps of its promise: counted by its length, or written by its word. Assumes nothing.
use Prim.Native.Nat.{ℕ, ◌+◌, ◌≤◌}
use mathlib.Core.Path.{◌≡◌, refl, sym, ap, subst, ◌∙◌}
use mathlib.Core.Bool.{Bool, true, false, ◌&&◌, true≢false}
use mathlib.Core.List.{List}
use lib.ListN.{length}
use Rattle.asmap_codes.specs.Bits.{low}
use Rattle.asmap_codes.specs.Row.{type_row, operand_row, in_range}
use Rattle.asmap_encode.specs.Write.{write_instruction}
use Rattle.asmap_encode.specs.declared.Word.{Word}
use Rattle.asmap_encode.specs.models.Words.{length_written}
use Rattle.asmap_bit_writer.proofs.WrittenLaws.{Holding, Measured, written_some, written_never}
use Rattle.asmap_front_writer.specs.declared.Front.{Front}
use Rattle.asmap_front_writer.specs.models.Front.{Room, Moved, Ready, Emitted}
use Rattle.refusals.specs.declared.Refusal.{Refusal}
use Rattle.std.specs.Prelude.{Result, Ok, Err}

-- the length of an instruction in range
pub measured : (op v n : ℕ) → (in_range type_row op && in_range (operand_row op) v) ≡ true → n ≡ length_written (write_instruction op v) → Measured op v n
measured op v n h e = go (write_instruction op v) refl e
  where
    go : (x : Result Word Refusal) → write_instruction op v ≡ x → n ≡ length_written x → Measured op v n
    go (Ok u) q l =
        let k = written_some op v u q in
        record { ranged = h; len = l ∙ k.len; short = subst (λ (i : ℕ). i ≤ 57) (sym l) k.short }
    go (Err m) q l = absurd (written_never op v m h q)

module _ (o : List ℕ) (w : Front) (op v : ℕ) (writes : Bool) where
  -- an instruction that is only counted
  pub emitted_counted : (n : ℕ) → Measured op v n → writes ≡ false
      → Emitted o w op v writes o record { done = w.done + n; bits = w.bits; held = w.held; place = w.place }
  emitted_counted n m f = record {
    done = ap (λ (i : ℕ). w.done + i) m.len;
    kept = refl;
    idle = λ _. refl;
    busy = λ t. absurd (true≢false (sym t ∙ f));
  }

  module _ (u : Word) (h : Holding op v u) (t : writes ≡ true) where
    -- the room asked for an instruction is room for its word
    pub room_word : Ready o w op v writes → Room o w u.len
    room_word r = subst (Room o w) (sym h.len) (r.room t)

    -- an instruction that is written
    pub emitted_written : (o' : List ℕ) (w' : Front) → w'.done ≡ w.done + u.len → length o' ≡ length o → Moved o w (low u.len u.bits) o' w'
        → Emitted o w op v writes o' w'
    emitted_written o' w' d k m = record {
      done = d ∙ ap (λ (i : ℕ). w.done + i) h.len;
      kept = k;
      idle = λ f. absurd (true≢false (sym t ∙ f));
      busy = λ _. subst (λ (l : List ℕ). Moved o w l o' w') h.bits m;
    }
