-- What the walk's loop knows where it stands, and where each instruction leaves it: what lies behind is counted, and what lies ahead
-- is the defined walk from here. Rests on asmap_program's `Ahead` and on what asmap_codes says of a code that was read.
-- Assumes nothing.
use Prim.Native.Nat.{ℕ, zero, suc, ◌+◌, ◌-◌, ◌*◌, ◌^◌, ◌≤◌, ◌<◌}
use mathlib.Core.Bool.{Bool, true, false, cond}
use mathlib.Core.Path.{◌≡◌, refl, sym, ap, subst, ◌∙◌}
use mathlib.Core.Logic.{◌≢◌}
use mathlib.Core.List.{List, [], ◌∷◌}
use native.Mathlib.Omega.{arith}
use borrow.Author.Tests.{eq-eqb, ne_eqb, lt-ltb, le-ltb, lt-leb, le-leb}
use lib.Dec.{eqb, lit<}
use lib.ListN.{length}
use Rattle.asmap_program.specs.declared.Instruction.{Instruction}
use Rattle.asmap_program.specs.declared.Kind.{Kind}
use Rattle.asmap_program.specs.declared.Kind.TheVariants.{Returned, Differed, OpcodeCut, OperandCut, TooFewBits}
use Rattle.asmap_program.specs.Map.{Fetched, CutOpcode, CutOperand, bit_of, length_of, address_bit}
use Rattle.asmap_program.specs.declared.Walker.{Walker}
use Rattle.asmap_program.specs.Walk.{Walked, walk_start, Turn, Goes, Stops, Compared, Equal, Different, compared, aborted, enough, meeting, turn_whole, turn_on, walk}
use Rattle.asmap_program.proofs.Length.{length-below}
use Rattle.asmap_program.proofs.Loop.{walked, Ahead, ahead_start, ahead_goes, ahead_stops}
use Rattle.asmap_codes.specs.Row.{type_row, operand_row, span}
use Rattle.asmap_codes.specs.Code.{code_at}
use Rattle.asmap_codes.specs.Instruction.{map_of}
use Rattle.asmap_codes.proofs.Inside.{value_at, long_operand, past_end}
use Rattle.asmap_codes.proofs.MapLaws.{laws, fetch-cut, fetch_operand}
use Rattle.asmap_walk_bits.specs.Walk.{walk_of, summary}
use Rattle.asmap_walk_bits.specs.declared.Ending.{Ending}
use Rattle.asmap_codes.specs.Reading.{Cut, Value}

-- m: the map, a: the address, w: the number of its bits that the walk may use
module _ (m a : List ℕ) (w : ℕ) where
  -- the defined walk ends so
  abbrev pub EndsBy : Kind → ℕ → ℕ → ℕ → Type 0
  EndsBy kind number count bits = ◌≡◌ {A = Ending} (record { kind = kind; number = number; count = count; bits = bits }) (summary (walk_of m a w))

  pub record Walking (pos used default count : ℕ) : Type 0 where
    pub ahead : Ahead (walk (address_bit a) (map_of m) w) (walked (address_bit a) (map_of m) (record { at = pos; used = used; width = w; default = default })) count
    pub fits : length m ≤ 16777216
    pub width : w ≤ 8 * length a
    pub narrow : w < 256
    pub near : pos < 2 ^ 32
    pub few : count ≤ pos
    pub room : used ≤ w

  starting : length m ≤ 16777216 → w ≤ 8 * length a → w < 256 → Walking 0 0 0 0
  starting h k l = record { ahead = ahead_start (address_bit a) (map_of m) (laws m) w; fits = h; width = k; narrow = l; near = omega arith; few = omega arith; room = omega arith }

  pub walking_start : (s : Walker) → s ≡ walk_start w → length m ≤ 16777216 → w ≤ 8 * length a → w < 256 → Walking s.at s.used s.default 0 × (s.width ≡ w)
  walking_start s e h k l = subst (λ (s : Walker). Walking s.at s.used s.default 0 × (s.width ≡ w)) (sym e) (starting h k l, refl)

  stops : {pos used default count : ℕ} → Walking pos used default count → (r : Walked)
      → turn_on (address_bit a) (map_of m) (record { at = pos; used = used; width = w; default = default }) ((map_of m).fetch pos) ≡ Stops r
      → EndsBy r.kind r.number (count + length r.read) r.bits
  unfolding walk_of
  stops v r e =
      let h = ahead_stops (address_bit a) (map_of m) (laws m) w _ e v.ahead in
      λ i. record { kind = sym h.kind i; number = sym h.number i; count = sym h.count i; bits = sym h.bits i }

module _ {m a : List ℕ} {w pos used default count : ℕ} (v : Walking m a w pos used default count) where
  abbrev s : Walker
  s = record { at = pos; used = used; width = w; default = default }

  -- an opcode that was read
  pub opcode_read_lem : {op at : ℕ} → code_at m pos type_row ≡ Value op at → (at ≤ 8 * length m) × (op < 4)
  opcode_read_lem {op} {at} e = let x = value_at m pos type_row op at (lit< tt) e in (x.inside, x.below)

  -- a cut code aborts, and is not counted
  none_read : (f : Fetched) (k : Kind) → (map_of m).fetch pos ≡ f → turn_on (address_bit a) (map_of m) s f ≡ aborted k s [] → EndsBy m a w k 0 count used
  none_read f k e q =
      let z : count + 0 ≡ count = omega arith in
      rw z at (stops m a w v (record { kind = k; number = 0; bits = used; read = [] }) (ap (turn_on (address_bit a) (map_of m) s) e ∙ q))

  pub cut_opcode : code_at m pos type_row ≡ Cut → EndsBy m a w OpcodeCut 0 count used
  cut_opcode e = none_read CutOpcode OpcodeCut (fetch-cut m pos e) refl

  pub cut_operand : {op at : ℕ} → code_at m pos type_row ≡ Value op at → code_at m at (operand_row op) ≡ Cut → EndsBy m a w OperandCut 0 count used
  cut_operand {op} {at} e q = none_read (CutOperand op) OperandCut (fetch_operand m pos op at e Cut q) refl

-- an instruction read whole: opcode op, its operand x from bit `at` to n
pub record Taken (m a : List ℕ) (w pos used default count op at x n : ℕ) : Type 0 where
  pub walking : Walking m a w pos used default count
  pub opcode : code_at m pos type_row ≡ Value op at
  pub operand : code_at m at (operand_row op) ≡ Value x n

-- what its codes say
pub record Read (m : List ℕ) (pos op x n : ℕ) : Type 0 where
  pub start : pos < n
  pub inside : n ≤ 8 * length m
  pub near : n ≤ 2 ^ 27
  pub known : op < 4
  pub above : (operand_row op).least ≤ x
  pub below : x < (operand_row op).least + span (operand_row op).sizes

module _ {m a : List ℕ} {w pos used default count op at x n : ℕ} (R : Taken m a w pos used default count op at x n) where
  abbrev s' : Walker
  s' = record { at = pos; used = used; width = w; default = default }

  abbrev i : Instruction
  i = record { opcode = op; operand = x; place = pos; size = n - pos }

  pub read : Read m pos op x n
  read =
      let o = value_at m pos type_row op at (lit< tt) R.opcode in
      let v = value_at m at (operand_row op) x n (long_operand op) R.operand in
      record { start = omega (arith, o.past, v.past); inside = v.inside; near = omega (arith, v.inside, R.walking.fits); known = o.below; above = v.above; below = v.below }

  -- the turn of the defined walk, by an opcode k
  turns : (t : Turn) (k : ℕ) → op ≡ k → turn_whole (address_bit a) (map_of m) s' i k ≡ t → turn_on (address_bit a) (map_of m) s' ((map_of m).fetch pos) ≡ t
  turns t k o e =
      ap (turn_on (address_bit a) (map_of m) s') (fetch_operand m pos op at R.opcode (Value x n) R.operand)
      ∙ ap (λ (c : ℕ). turn_whole (address_bit a) (map_of m) s' i c) o
      ∙ e

  last : (k : ℕ) → op ≡ k → (kind : Kind) (number bits : ℕ) → turn_whole (address_bit a) (map_of m) s' i k ≡ Stops (record { kind = kind; number = number; bits = bits; read = i ∷ [] })
      → EndsBy m a w kind number (count + 1) bits
  last k o kind number bits e = stops m a w R.walking (record { kind = kind; number = number; bits = bits; read = i ∷ [] }) (turns _ k o e)

  -- it goes on at pos', with `used'` address bits used and default d
  goes : (k : ℕ) → op ≡ k → (pos' used' d : ℕ) → turn_whole (address_bit a) (map_of m) s' i k ≡ Goes i (record { at = pos'; used = used'; width = w; default = d })
      → pos < pos' → pos' < 2 ^ 32 → used' ≤ w → Walking m a w pos' used' d (count + 1)
  goes k o pos' used' d e h l r =
      let z : suc count ≡ count + 1 = omega arith in
      record {
        ahead = rw z at (ahead_goes (address_bit a) (map_of m) (laws m) w s' (turns _ k o e) R.walking.ahead);
        fits = R.walking.fits;
        width = R.walking.width;
        narrow = R.walking.narrow;
        near = l;
        few = omega (arith, R.walking.few);
        room = r;
      }

  end_is : pos + (n - pos) ≡ n
  end_is = omega (arith, read.start)

  pub returns_ends : op ≡ 0 → EndsBy m a w Returned x (count + 1) used
  returns_ends o = last 0 o Returned x used refl

  pub jump_ends : op ≡ 1 → w ≤ used → EndsBy m a w TooFewBits 0 (count + 1) used
  unfolding enough
  jump_ends o h = last 1 o TooFewBits 0 used (rw (le-ltb used w h))

  below_row : (k : ℕ) → op ≡ k → x < (operand_row k).least + span (operand_row k).sizes
  below_row k o = subst (λ (j : ℕ). x < (operand_row j).least + span (operand_row j).sizes) o read.below

  -- a JUMP lands further on, wherever it goes
  pub jump_onward : op ≡ 1 → (b : Bool) → (pos < cond b (n + x) n) × (cond b (n + x) n < 2 ^ 32)
  jump_onward o true = let l = below_row 1 o in (omega (arith, read.start), omega (arith, read.near))
  jump_onward o false = (read.start, omega (arith, read.near))

  -- b: whether the address bit is 1
  pub jump_goes : op ≡ 1 → used < w → (b : Bool) → eqb (address_bit a used) 1 ≡ b → Walking m a w (cond b (n + x) n) (used + 1) default (count + 1)
  unfolding enough
  jump_goes o h b e =
      let f = jump_onward o b in
      goes 1 o (cond b (n + x) n) (used + 1) default
      (rw (lt-ltb used w h, end_is, e) (ap (λ (u : ℕ). Goes i (record { at = cond b (n + x) n; used = u; width = w; default = default })) (omega arith)))
      f.0 f.1 (omega arith)

  -- a JUMP to the map's end or past it: no opcode is there, and its bit was read
  pub jump_past : op ≡ 1 → used < w → eqb (address_bit a used) 1 ≡ true → 8 * length m ≤ n + x → EndsBy m a w OpcodeCut 0 (count + 1) (used + 1)
  jump_past o h e k = cut_opcode (jump_goes o h true e) (past_end m (n + x) type_row (lit< tt) k)

  pub match_some : op ≡ 2 → 2 ≤ x
  match_some o = subst (λ (k : ℕ). (operand_row k).least ≤ x) o read.above

  pub match_most : op ≡ 2 → length_of x ≤ 8
  match_most o = let b = below_row 2 o in length-below x 8 (omega arith)

  pub match_ends : op ≡ 2 → w < used + length_of x → EndsBy m a w TooFewBits 0 (count + 1) used
  unfolding enough
  match_ends o h = last 2 o TooFewBits 0 used (rw (lt-leb (used + length_of x) w h))

  match_turn : used + length_of x ≤ w → (c : Compared) → compared (address_bit a) (length_of x) x used ≡ c → turn_whole (address_bit a) (map_of m) s' i 2 ≡ meeting s' i c
  unfolding enough
  match_turn h c z = rw (le-leb (used + length_of x) w h, z)

  -- d: the default, as the walk's state has it by then
  pub match_differs : op ≡ 2 → used + length_of x ≤ w → (u : ℕ) → compared (address_bit a) (length_of x) x used ≡ Different u → {d : ℕ} → d ≡ default
      → EndsBy m a w Differed d (count + 1) u
  match_differs o h u z e =
      subst (λ (d : ℕ). EndsBy m a w Differed d (count + 1) u) (sym e) (last 2 o Differed default u (match_turn h (Different u) z))

  pub match_goes : op ≡ 2 → used + length_of x ≤ w → compared (address_bit a) (length_of x) x used ≡ Equal → (u : ℕ) → u ≡ used + length_of x
      → {pos' d : ℕ} → pos' ≡ n → d ≡ default → Walking m a w pos' u d (count + 1)
  match_goes o h z u y {d = d} e q =
      subst (λ (p : ℕ). Walking m a w p u d (count + 1)) (sym e)
      (subst (λ (d : ℕ). Walking m a w n u d (count + 1)) (sym q)
      (goes 2 o n u default (match_turn h Equal z ∙ rw (end_is, y)) read.start (omega (arith, read.near)) (omega arith)))

  pub default_goes : op ≢ 0 → op ≢ 1 → op ≢ 2 → Walking m a w n used x (count + 1)
  default_goes z y t =
      let o : op ≡ 3 = omega (arith, read.known) in
      goes 3 o n used x (rw end_is) read.start (omega (arith, read.near)) R.walking.room

-- ---- a MATCH's bits, one by one

-- From `used₀` on, the MATCH of x was met by the address bits up to `used`; the `left` lowest bits of x are still to be compared.
pub record Comparing (a : List ℕ) (w x used₀ used left : ℕ) : Type 0 where
  pub from : used₀ ≤ used
  pub place : used + left ≡ used₀ + length_of x
  pub room : used₀ + length_of x ≤ w
  pub short : left ≤ 8
  pub rest : compared (address_bit a) (length_of x) x used₀ ≡ compared (address_bit a) left x used

pub comparing_start : {m a : List ℕ} {w pos used default count at x n : ℕ} {op : ℕ} → Taken m a w pos used default count op at x n → op ≡ 2
    → (left : ℕ) → left ≡ length_of x → used + left ≤ w → Comparing a w x used used left
comparing_start R o left e h = record { from = omega arith; place = omega arith; room = omega arith; short = omega (arith, match_most R o); rest = rw e }

module _ {a : List ℕ} {w x used₀ used left : ℕ} (C : Comparing a w x used₀ used left) where
  pub bit_left : 0 < left → used < w
  bit_left h = omega (arith, C.place, C.room)

  one_less : 0 < left → left ≡ suc (left - 1)
  one_less h = omega arith

  rest_less : 0 < left → compared (address_bit a) (length_of x) x used₀ ≡ compared (address_bit a) (suc (left - 1)) x used
  rest_less h = C.rest ∙ ap (λ (k : ℕ). compared (address_bit a) k x used) (one_less h)

  -- an equal bit is used
  pub equal_goes : 0 < left → address_bit a used ≡ bit_of x (left - 1) → Comparing a w x used₀ (used + 1) (left - 1)
  unfolding compared
  equal_goes h e =
      let z : suc used ≡ used + 1 = omega arith in
      record {
        from = omega (arith, C.from);
        place = omega (arith, C.place);
        room = C.room;
        short = omega (arith, C.short);
        rest = rest_less h ∙ rw (eq-eqb (bit_of x (left - 1)) (address_bit a used) (sym e), z);
      }

  -- another ends the walk, and was read
  pub different_ends : 0 < left → address_bit a used ≢ bit_of x (left - 1) → compared (address_bit a) (length_of x) x used₀ ≡ Different (used + 1)
  unfolding compared
  different_ends h e =
      let z : suc used ≡ used + 1 = omega arith in
      rest_less h ∙ rw (ne_eqb (bit_of x (left - 1)) (address_bit a used) (λ q. e (sym q)), z)

  pub all_equal : left ≡ 0 → compared (address_bit a) (length_of x) x used₀ ≡ Equal
  unfolding compared
  all_equal h = C.rest ∙ ap (λ (k : ℕ). compared (address_bit a) k x used) h

-- the same place, written otherwise
pub comparing_from : {a : List ℕ} {w x used₀ used₁ used left : ℕ} → used₀ ≡ used₁ → Comparing a w x used₀ used left → Comparing a w x used₁ used left
comparing_from {a} {w} {x} {used₀} {used₁} {used} {left} e C = subst (λ (i : ℕ). Comparing a w x i used left) e C

-- r equal bits are used
pub front_goes : {a : List ℕ} {w x used₀ used left : ℕ} (C : Comparing a w x used₀ used left) (r : ℕ) → r ≤ left
    → ((k : ℕ) → k < left → left ≤ k + r → bit_of x k ≡ address_bit a (used + (left - 1 - k))) → Comparing a w x used₀ (used + r) (left - r)
front_goes {a} {w} {x} {used₀} {used} {left} C zero h f =
    let u : used ≡ used + 0 = omega arith in
    let l : left ≡ left - 0 = omega arith in
    subst (λ (i : ℕ). Comparing a w x used₀ i (left - 0)) u (subst (λ (j : ℕ). Comparing a w x used₀ used j) l C)
front_goes {a} {w} {x} {used₀} {used} {left} C (suc r) h f =
    let p = front_goes C r (omega arith) (λ k l q. f k l (omega arith)) in
    let k = left - r - 1 in
    let z : used + (left - 1 - k) ≡ used + r = omega arith in
    let g = equal_goes p (omega arith) (ap (address_bit a) (sym z) ∙ sym (f k (omega arith) (omega arith))) in
    let u : used + r + 1 ≡ used + suc r = omega arith in
    let l : left - r - 1 ≡ left - suc r = omega arith in
    subst (λ (i : ℕ). Comparing a w x used₀ i (left - suc r)) u (subst (λ (j : ℕ). Comparing a w x used₀ (used + r + 1) j) l g)
