-- What each step does to what is still to come, a row for each, over numbers and lists alone. Assumes nothing.
use Prim.Native.Nat.{ℕ, zero, suc, ◌+◌, ◌-◌, ◌*◌, ◌^◌, ◌≤◌, ◌<◌}
use mathlib.Core.Bool.{Bool, true, false}
use mathlib.Core.Path.{◌≡◌, refl, sym, ap, subst, ◌∙◌}
use mathlib.Core.List.{List, [], ◌∷◌}
use native.Mathlib.Omega.{arith}
use lib.Dec.{eqb, lit<, lit≤}
use lib.ListN.{length, get_or, drop, set, length-set}
use lib.Seq.{get_or-set_same, get_or-set_other}
use borrow.Author.Tests.{lt-ltb, le-ltb, lt-leb, le-leb}
use Rattle.asmap_program.specs.declared.Instruction.{Instruction}
use Rattle.asmap_program.specs.Map.{RETURN, JUMP, MATCH, DEFAULT, Fetched, bit_of, length_of}
use Rattle.asmap_program.proofs.Length.{length-below}
use Rattle.asmap_codes.specs.Bits.{map_bits}
use Rattle.asmap_codes.specs.Row.{Row, type_row, operand_row, span}
use Rattle.asmap_codes.specs.Code.{code_at}
use Rattle.asmap_codes.specs.Instruction.{map_of}
use Rattle.asmap_codes.proofs.Inside.{value_at, long_operand}
use Rattle.asmap_codes.proofs.MapLaws.{laws, fetch-cut, fetch_operand}
use Rattle.asmap_window.specs.models.Window.{Window}
use Rattle.asmap_row_decoder.specs.models.InWindow.{Holds, row_in}
use Rattle.asmap_row_decoder.proofs.WindowLaws.{row-window, window-holds}
use Rattle.asmap_listing.specs.models.Scan.{Leaf, leaf, Entry, Side, Half, Scan, popped, taken, given, bitwise, enough, scan_whole, scan_on, scan_start, scanned, Rising}
use Rattle.asmap_listing.proofs.ScanLaws.{scanned-step, stack_bound}
use Rattle.asmap_list_step.specs.declared.Spot.{Spot}
use Rattle.asmap_list_step.specs.models.Step.{entry_if, entry_of, stack_of, ahead, rest, one, weight, Sane, Onward, Reads}
use Rattle.asmap_codes.specs.Reading.{Code, Cut, Value}
use Rattle.std.specs.Prelude.{Option}

-- ---- the stack in its arrays

stack-length : (bs ns : List ℕ) (d : ℕ) → length (stack_of bs ns d) ≡ d
unfolding stack_of
stack-length bs ns zero = refl
stack-length bs ns (suc d) = omega (arith, stack-length bs ns d)

stack_above : (bs ns : List ℕ) (k a b d : ℕ) → d ≤ k → stack_of (set bs k a) (set ns k b) d ≡ stack_of bs ns d
unfolding stack_of
stack_above bs ns k a b zero h = refl
stack_above bs ns k a b (suc d) h =
    rw (get_or-set_other bs k d a 0 (omega arith), get_or-set_other ns k d b 0 (omega arith), stack_above bs ns k a b d (omega arith))

stack_push : (bs ns : List ℕ) (d a b : ℕ) → d < length bs → d < length ns → stack_of (set bs d a) (set ns d b) (suc d) ≡ entry_of a b ∷ stack_of bs ns d
unfolding stack_of
stack_push bs ns d a b h k = rw (get_or-set_same bs d a 0 h, get_or-set_same ns d b 0 k, stack_above bs ns d a b d (omega arith))

stack_top : (bs ns : List ℕ) (d t : ℕ) → d ≡ suc t → stack_of bs ns d ≡ entry_of (get_or bs t 0) (get_or ns t 0) ∷ stack_of bs ns t
unfolding stack_of
stack_top bs ns d t e = ap (stack_of bs ns) e

half_entry : (b n : ℕ) → b < 128 → entry_of b n ≡ Half b n
unfolding entry_if
half_entry b n h = rw (lt-ltb b 128 h)

side_entry : (b n : ℕ) → 128 ≤ b → entry_of b n ≡ Side (b - 128) n
unfolding entry_if
side_entry b n h = rw (le-ltb b 128 h)

lower : (u v : ℕ) (st : List Entry) → u ≤ v → Rising u st → Rising v st
lower u v [] h r = tt
lower u v (e ∷ st) h r = (omega (arith, r.0), r.1)

module _ (map : List ℕ) (s : Spot) (bs ns : List ℕ) (sane : Sane map s bs ns) where
  pub depth_bound : s.depth ≤ s.used
  depth_bound = omega (arith, stack_bound s.used (stack_of bs ns s.depth) sane.rising, stack-length bs ns s.depth)

  abbrev here : Scan
  here = record { used = s.used; default = s.default; stack = stack_of bs ns s.depth }

  abbrev on : Scan → List Leaf
  on = scanned (map_of map) 128 s.at

  rest_up : s.up ≡ true → rest map s bs ns ≡ popped on (stack_of bs ns s.depth)
  unfolding ahead
  rest_up e = ap (λ (b : Bool). ahead (map_of map) b s.at s.left s.value here) e

  rest_on : s.up ≡ false → (l : ℕ) → s.left ≡ l → rest map s bs ns ≡ bitwise on l s.value here
  unfolding ahead
  rest_on e l q = ap (λ (b : Bool). ahead (map_of map) b s.at s.left s.value here) e ∙ ap (λ (n : ℕ). bitwise on n s.value here) q

  -- ---- the stack's turn

  pub up_ends : s.up ≡ true → s.depth ≡ 0 → rest map s bs ns ≡ []
  unfolding popped stack_of
  up_ends e d = rest_up e ∙ ap (λ (n : ℕ). popped on (stack_of bs ns n)) d

  pub up_goes : (t b n u : ℕ) → s.up ≡ true → s.depth ≡ suc t → get_or bs t 0 ≡ b → get_or ns t 0 ≡ n → b < 128 → u ≡ suc b
      → Onward map s (record { at = s.at; used = u; default = n; value = 0; left = 0; depth = t; up = false }) bs ns
      (rest map s bs ns) (rest map (record { at = s.at; used = u; default = n; value = 0; left = 0; depth = t; up = false }) bs ns)
  unfolding popped ahead bitwise one
  up_goes t b n u e d p q h v =
      let x : stack_of bs ns s.depth ≡ Half b n ∷ stack_of bs ns t = stack_top bs ns s.depth t d ∙ rw (p, q, half_entry b n h) in
      let r : Rising s.used (Half b n ∷ stack_of bs ns t) = subst (Rising s.used) x sane.rising in
      rw v
      record {
        same = rest_up e ∙ ap (popped on) x;
        sane = record { inside = sane.inside; bits = omega arith; short = omega arith; rising = lower b (suc b) (stack_of bs ns t) (omega arith) r.1; rooms = sane.rooms };
        less = omega (arith, d);
      }

  pub up-gives : (t b n : ℕ) → s.up ≡ true → s.depth ≡ suc t → get_or bs t 0 ≡ b → get_or ns t 0 ≡ n → 128 ≤ b
      → Onward map s (record { at = s.at; used = b - 127; default = n; value = 0; left = 0; depth = t; up = true }) bs ns
      (rest map s bs ns) (leaf (b - 127) n ∷ rest map (record { at = s.at; used = b - 127; default = n; value = 0; left = 0; depth = t; up = true }) bs ns)
  unfolding popped ahead one
  up-gives t b n e d p q h =
      let x : stack_of bs ns s.depth ≡ Side (b - 128) n ∷ stack_of bs ns t = stack_top bs ns s.depth t d ∙ rw (p, q, side_entry b n h) in
      let r : Rising s.used (Side (b - 128) n ∷ stack_of bs ns t) = subst (Rising s.used) x sane.rising in
      let k : suc (b - 128) ≡ b - 127 = omega arith in
      let y : one s.up ≡ 1 = ap one e in
      record {
        same = rest_up e ∙ ap (popped on) x ∙ ap (λ (z : ℕ). leaf z n ∷ popped on (stack_of bs ns t)) k;
        sane = record { inside = sane.inside; bits = omega (arith, r.0, sane.bits); short = omega arith; rising = lower (b - 128) (b - 127) (stack_of bs ns t) (omega arith) r.1; rooms = sane.rooms };
        less = omega (arith, d, y);
      }

  -- ---- a bit of a MATCH

  pub bit-gives : (l u : ℕ) → s.up ≡ false → s.left ≡ suc l → bit_of s.value l ≡ 1 → u ≡ suc s.used
      → Onward map s (record { at = s.at; used = u; default = s.default; value = s.value; left = l; depth = s.depth; up = false }) bs ns
      (rest map s bs ns) (leaf u s.default ∷ rest map (record { at = s.at; used = u; default = s.default; value = s.value; left = l; depth = s.depth; up = false }) bs ns)
  unfolding bitwise given taken ahead one
  bit-gives l u e q b v =
      rw v
      record {
        same = rest_on e (suc l) q ∙ ap (λ (x : ℕ). given (eqb x 1) here (bitwise on l s.value (taken (eqb x 1) here))) b;
        sane = record { inside = sane.inside; bits = omega (arith, q, sane.bits); short = omega (arith, q, sane.short); rising = lower s.used (suc s.used) (stack_of bs ns s.depth) (omega arith) sane.rising; rooms = sane.rooms };
        less = omega (arith, q);
      }

  -- an entry more
  rooms_after : (b : ℕ) → (128 ≡ length (set bs s.depth b)) × (128 ≡ length (set ns s.depth s.default))
  rooms_after b = (sane.rooms.0 ∙ sym (length-set bs s.depth b), sane.rooms.1 ∙ sym (length-set ns s.depth s.default))

  pushed : (b : ℕ) → s.depth < 128 → stack_of (set bs s.depth b) (set ns s.depth s.default) (suc s.depth) ≡ entry_of b s.default ∷ stack_of bs ns s.depth
  pushed b g = stack_push bs ns s.depth b s.default (omega (arith, sane.rooms.0)) (omega (arith, sane.rooms.1))

  pub bit_goes : (l u k b : ℕ) → s.up ≡ false → s.left ≡ suc l → bit_of s.value l ≡ 0 → s.depth < 128 → u ≡ suc s.used → k ≡ suc s.depth → b ≡ s.used + 128
      → Onward map s (record { at = s.at; used = u; default = s.default; value = s.value; left = l; depth = k; up = false }) (set bs s.depth b) (set ns s.depth s.default)
      (rest map s bs ns) (rest map (record { at = s.at; used = u; default = s.default; value = s.value; left = l; depth = k; up = false }) (set bs s.depth b) (set ns s.depth s.default))
  unfolding bitwise given taken ahead one
  bit_goes l u k b e q z g v y a =
      let j : b - 128 ≡ s.used = omega arith in
      let x : stack_of (set bs s.depth b) (set ns s.depth s.default) (suc s.depth) ≡ Side s.used s.default ∷ stack_of bs ns s.depth =
      pushed b g ∙ rw (side_entry b s.default (omega arith), j) in
      rw (v, y)
      record {
        same = rest_on e (suc l) q ∙ ap (λ (y : ℕ). given (eqb y 1) here (bitwise on l s.value (taken (eqb y 1) here))) z
            ∙ ap (λ (st : List Entry). bitwise on l s.value (record { used = suc s.used; default = s.default; stack = st })) (sym x);
        sane = record { inside = sane.inside; bits = omega (arith, q, sane.bits); short = omega (arith, q, sane.short); rising = subst (Rising (suc s.used)) (sym x) (omega arith, sane.rising); rooms = rooms_after b };
        less = omega (arith, q);
      }

-- ---- an instruction

module _ (map : List ℕ) (s : Spot) (bs ns : List ℕ) (sane : Sane map s bs ns) (up : s.up ≡ false) (left : s.left ≡ 0) where
  rest_at : rest map s bs ns ≡ scanned (map_of map) 128 s.at (here map s bs ns sane)
  unfolding bitwise
  rest_at = rest_on map s bs ns sane up 0 left

  -- by what can be read there
  rest_by : (f : Fetched) → (map_of map).fetch s.at ≡ f → rest map s bs ns ≡ scan_on 128 (scanned (map_of map) 128) (here map s bs ns sane) f
  rest_by f e =
      rest_at ∙ scanned-step (map_of map) (laws map) 128 s.at (here map s bs ns sane)
      ∙ ap (λ (r : Fetched). scan_on 128 (scanned (map_of map) 128) (here map s bs ns sane) r) e

  -- where an opcode is cut nothing is given
  pub opcode_cut : code_at map s.at type_row ≡ Cut → rest map s bs ns ≡ []
  opcode_cut e = rest_by _ (fetch-cut map s.at e)

-- what is read from a window that holds the code is the code of the map
pub was_read : (map : List ℕ) (from w : ℕ) (row : Row) → 1 < length row.sizes → Holds row map from w
    → {r : Option Code} → r ≡ row_in row from (8 * length map) w → code_at map from row ≡ r
was_read map from w row l h e = sym (e ∙ row-window map from w row l h)

-- so of an opcode, in a window of the place
pub opcode_read : (map : List ℕ) (at w : ℕ) → Window 57 w (drop at (map_bits map)) → {r : Option Code} → r ≡ row_in type_row at (8 * length map) w → code_at map at type_row ≡ r
opcode_read map at w h e = was_read map at w type_row (lit< tt) (window-holds map at w type_row (lit≤ tt) h) e

-- an opcode is below 4
pub opcode_small : (map : List ℕ) (at op from : ℕ) → code_at map at type_row ≡ Value op from → op < 4
opcode_small map at op from e = (value_at map at type_row op from (lit< tt) e).below

-- an operand starts inside the map, or at its end
pub from_near : (map : List ℕ) (s : Spot) (op from : ℕ) → Reads map s op from → length map ≤ 16777216 → from < 2 ^ 34
from_near map s op from reads h = omega (arith, (value_at map s.at type_row op from (lit< tt) reads.2).inside)

module _ (map : List ℕ) (s : Spot) (bs ns : List ℕ) (sane : Sane map s bs ns) (op from : ℕ) (reads : Reads map s op from) where
  -- nor where an operand is
  pub operand_cut : code_at map from (operand_row op) ≡ Cut → rest map s bs ns ≡ []
  operand_cut e = rest_by map s bs ns sane reads.0 reads.1 _ (fetch_operand map s.at op from reads.2 Cut e)

  -- an operand v, which ends before n
  module _ (v n : ℕ) (q : code_at map from (operand_row op) ≡ Value v n) where
    pub record Stood : Type 0 where
      pub start : s.at < n
      pub inside : n ≤ 8 * length map
      pub known : op < 4
      pub above : (operand_row op).least ≤ v
      pub below : v < (operand_row op).least + span (operand_row op).sizes

    pub stood : Stood
    stood =
        let o = value_at map s.at type_row op from (lit< tt) reads.2 in
        let x = value_at map from (operand_row op) v n (long_operand op) q in
        record { start = omega (arith, o.past, x.past); inside = x.inside; known = o.below; above = x.above; below = x.below }

    abbrev i : Instruction
    i = record { opcode = op; operand = v; place = s.at; size = n - s.at }

    on_at : (c : ℕ) → op ≡ c → rest map s bs ns ≡ scan_whole 128 (scanned (map_of map) 128 n) (here map s bs ns sane) i c
    on_at c e =
        let p : s.at + (n - s.at) ≡ n = omega (arith, stood.start) in
        rest_by map s bs ns sane reads.0 reads.1 _ (fetch_operand map s.at op from reads.2 (Value v n) q)
        ∙ ap (λ (x : ℕ). scan_whole 128 (scanned (map_of map) 128 x) (here map s bs ns sane) i op) p
        ∙ ap (λ (x : ℕ). scan_whole 128 (scanned (map_of map) 128 n) (here map s bs ns sane) i x) e

    pub at_return : op ≡ RETURN
        → Onward map s (record { at = n; used = s.used; default = s.default; value = 0; left = 0; depth = s.depth; up = true }) bs ns
        (rest map s bs ns) (leaf s.used v ∷ rest map (record { at = n; used = s.used; default = s.default; value = 0; left = 0; depth = s.depth; up = true }) bs ns)
    unfolding ahead one
    at_return e =
        record {
          same = on_at RETURN e;
          sane = record { inside = stood.inside; bits = omega (arith, sane.bits); short = omega arith; rising = sane.rising; rooms = sane.rooms };
          less = omega (arith, stood.start, stood.inside);
        }

    pub at-jump : (u k : ℕ) → op ≡ JUMP → s.used < 128 → u ≡ suc s.used → k ≡ suc s.depth
        → Onward map s (record { at = n; used = u; default = s.default; value = 0; left = 0; depth = k; up = false }) (set bs s.depth s.used) (set ns s.depth s.default)
        (rest map s bs ns) (rest map (record { at = n; used = u; default = s.default; value = 0; left = 0; depth = k; up = false }) (set bs s.depth s.used) (set ns s.depth s.default))
    unfolding ahead one enough bitwise
    at-jump u k e g x y =
        let l : s.depth < 128 = omega (arith, depth_bound map s bs ns sane) in
        let st : stack_of (set bs s.depth s.used) (set ns s.depth s.default) (suc s.depth) ≡ Half s.used s.default ∷ stack_of bs ns s.depth =
        pushed map s bs ns sane s.used l ∙ rw (half_entry s.used s.default g) in
        let next : List Entry → List Leaf = λ st. scanned (map_of map) 128 n (record { used = suc s.used; default = s.default; stack = st }) in
        rw (x, y)
        record {
          same = on_at JUMP e ∙ ap (λ (b : Bool). enough b (next (Half s.used s.default ∷ stack_of bs ns s.depth))) (lt-ltb s.used 128 g) ∙ ap next (sym st);
          sane = record { inside = stood.inside; bits = omega arith; short = omega arith; rising = subst (Rising (suc s.used)) (sym st) (omega arith, sane.rising); rooms = rooms_after map s bs ns sane s.used };
          less = omega (arith, stood.start, stood.inside);
        }

    pub at-jump_full : op ≡ JUMP → s.used ≡ 128 → rest map s bs ns ≡ []
    unfolding enough
    at-jump_full e g =
        on_at JUMP e
        ∙ ap (λ (b : Bool). enough b (scanned (map_of map) 128 n (record { used = suc s.used; default = s.default; stack = Half s.used s.default ∷ stack_of bs ns s.depth }))) (le-ltb s.used 128 (omega arith))

    pub at_match : (l : ℕ) → op ≡ MATCH → l ≡ length_of v → s.used + l ≤ 128 → v < 2 ^ 32
        → Onward map s (record { at = n; used = s.used; default = s.default; value = v; left = l; depth = s.depth; up = false }) bs ns
        (rest map s bs ns) (rest map (record { at = n; used = s.used; default = s.default; value = v; left = l; depth = s.depth; up = false }) bs ns)
    unfolding ahead one enough
    at_match l e k g b =
        let j : s.used + length_of v ≤ 128 = omega (arith, k, g) in
        let y = length-below v 31 b in
        rw k
        record {
          same = on_at MATCH e ∙ ap (λ (b : Bool). enough b (bitwise (scanned (map_of map) 128 n) (length_of v) v (here map s bs ns sane))) (le-leb (s.used + length_of v) 128 j);
          sane = record { inside = stood.inside; bits = j; short = y; rising = sane.rising; rooms = sane.rooms };
          less = omega (arith, stood.start, stood.inside, j);
        }

    pub at-match_full : op ≡ MATCH → 128 < s.used + length_of v → rest map s bs ns ≡ []
    unfolding enough
    at-match_full e g =
        on_at MATCH e
        ∙ ap (λ (b : Bool). enough b (bitwise (scanned (map_of map) 128 n) (length_of v) v (here map s bs ns sane))) (lt-leb (s.used + length_of v) 128 g)

    pub at_default : op ≡ DEFAULT
        → Onward map s (record { at = n; used = s.used; default = v; value = 0; left = 0; depth = s.depth; up = false }) bs ns
        (rest map s bs ns) (rest map (record { at = n; used = s.used; default = v; value = 0; left = 0; depth = s.depth; up = false }) bs ns)
    unfolding ahead one bitwise
    at_default e =
        record {
          same = on_at DEFAULT e;
          sane = record { inside = stood.inside; bits = omega (arith, sane.bits); short = omega arith; rising = sane.rising; rooms = sane.rooms };
          less = omega (arith, stood.start, stood.inside);
        }

-- ---- the start

abbrev pub start_spot : Spot
start_spot = record { at = 0; used = 0; default = 0; value = 0; left = 0; depth = 0; up = false }

pub start_sane : (map bs ns : List ℕ) → 128 ≡ length bs → 128 ≡ length ns → Sane map start_spot bs ns
unfolding stack_of
start_sane map bs ns b n = record { inside = omega arith; bits = omega arith; short = omega arith; rising = tt; rooms = (b, n) }

-- all of the pass is still to come
pub start_rest : (map bs ns : List ℕ) → rest map start_spot bs ns ≡ scanned (map_of map) 128 0 scan_start
unfolding ahead bitwise stack_of
start_rest map bs ns = refl

-- ---- steps up to a piece

-- the loop from s₀ with the arrays bs₀ and ns₀ stands at s with bs and ns, and has given nothing yet
pub record Going (map : List ℕ) (s₀ : Spot) (bs₀ ns₀ : List ℕ) (s : Spot) (bs ns : List ℕ) : Type 0 where
  pub same : rest map s₀ bs₀ ns₀ ≡ rest map s bs ns
  pub sane : Sane map s bs ns
  pub less : weight map s ≤ weight map s₀
  pub rooms : (128 ≡ length bs₀) × (128 ≡ length ns₀)

pub going_start : (map : List ℕ) (s : Spot) (bs ns : List ℕ) → Sane map s bs ns → Going map s bs ns s bs ns
going_start map s bs ns h = record { same = refl; sane = h; less = omega arith; rooms = h.rooms }

module _ {map : List ℕ} {s₀ : Spot} {bs₀ ns₀ : List ℕ} {s : Spot} {bs ns : List ℕ} (g : Going map s₀ bs₀ ns₀ s bs ns) where
  pub going_on : {s' : Spot} {bs' ns' : List ℕ} → Onward map s s' bs' ns' (rest map s bs ns) (rest map s' bs' ns') → Going map s₀ bs₀ ns₀ s' bs' ns'
  going_on o = record { same = g.same ∙ o.same; sane = o.sane; less = omega (arith, o.less, g.less); rooms = g.rooms }

  pub going_gives : {l n : ℕ} {s' : Spot} {bs' ns' : List ℕ} → Onward map s s' bs' ns' (rest map s bs ns) (leaf l n ∷ rest map s' bs' ns')
      → Onward map s₀ s' bs' ns' (rest map s₀ bs₀ ns₀) (leaf l n ∷ rest map s' bs' ns')
  going_gives o = record { same = g.same ∙ o.same; sane = o.sane; less = omega (arith, o.less, g.less) }

  pub going_ends : rest map s bs ns ≡ [] → rest map s₀ bs₀ ns₀ ≡ []
  going_ends e = g.same ∙ e

  -- the arrays stay as long as they were
  pub going_rooms : {s' : Spot} {bs' ns' : List ℕ} → Sane map s' bs' ns' → (length bs' ≡ length bs₀) × (length ns' ≡ length ns₀)
  going_rooms h = (sym h.rooms.0 ∙ g.rooms.0, sym h.rooms.1 ∙ g.rooms.1)
