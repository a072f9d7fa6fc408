-- The shape of a load in a map: its instructions one after the other; that they are a tree, so that the check accepts them; and the walk of an
-- address that begins with the MATCH bits. By induction on the pairs. Assumes nothing.
use mathlib.Core.Path.{◌≡◌, ◌∙◌, refl, sym, ap, ap₂, subst}
use mathlib.Core.Bool.{false}
use mathlib.Core.Logic.{◌⊎◌, inl, inr, ◌≢◌}
use mathlib.Core.List.Memᴰ
use mathlib.Core.List.{List, [], ◌∷◌, ◌++◌, append_assoc, Memᴰ}
use Prim.Native.Nat.{ℕ, zero, suc, ◌+◌, ◌-◌, ◌*◌, ◌/◌, ◌%◌, ◌^◌, ◌≤◌, ◌<◌}
use native.Mathlib.Omega.{arith}
use lib.ListN.{length, drop, length-append}
use lib.Seq.{drop_at, drop-drop}
use borrow.Author.Tests.{le-leb, eq-eqb}
use Rattle.asmap_program.specs.declared.Instruction.{Instruction}
use Rattle.asmap_program.specs.declared.Previous.{Previous}
use Rattle.asmap_program.specs.declared.Previous.TheVariants.{Short, Default}
use Rattle.asmap_program.specs.declared.Kind.TheVariants.{Returned}
use Rattle.asmap_program.specs.declared.Walker.{Walker}
use Rattle.asmap_program.specs.Map.{RETURN, JUMP, MATCH, DEFAULT, end_of, Whole, Map, Laws, length_in, length_of}
use Rattle.asmap_program.specs.Check.{is_default, State}
use Rattle.asmap_program.specs.Tree.{Tree, return, match, default}
use Rattle.asmap_program.specs.Walk.{Walked, Equal, compared, enough, meeting, go_on, push, walk_from}
use Rattle.asmap_program.proofs.Tree.{closes, opened, matched, defaulted, Accepts, more}
use Rattle.asmap_program.proofs.Tree as run
use Rattle.asmap_program.proofs.Demand.{walk_at}
use Rattle.asmap_codes.specs.Bits.{map_bits}
use Rattle.asmap_codes.specs.Encode.{instruction_bits}
use Rattle.asmap_codes.specs.Instruction.{map_of}
use Rattle.asmap_records.proofs.Reading.{instruction, fetched}
use Rattle.load_draws.specs.Draw.{next, draw}
use Rattle.asmap_load.specs.Load.{number_by, bit_by, match_by, load_bits}
use Rattle.asmap_load.proofs.LoadLaws.{return_ranged, default_ranged, match_ranged}

-- a one_bit MATCH uses one address bit
one_bit : (b : ℕ) → b < 2 → length_of (2 + b) ≡ 1
unfolding length_of length_in
one_bit zero h = refl
one_bit (suc zero) h = refl
one_bit (suc (suc b)) h = absurd (omega arith)

pub match-length : (d : ℕ) → length_of (match_by d) ≡ 1
match-length d = one_bit (bit_by d) (omega arith)

module _ (m : Map) where
  -- the instructions of a load of n pairs, s being the draw before, from one place to another
  pub data Laid : ℕ → ℕ → ℕ → ℕ → List Instruction → Type 0 where
    last : {s at : ℕ} {i : Instruction} → m.fetch at ≡ Whole i → i.opcode ≡ RETURN → i.operand ≡ number_by (next s) → Laid zero s at (end_of i) (i ∷ [])
    pair : {n s at end : ℕ} {i j : Instruction} {is : List Instruction}
        → m.fetch at ≡ Whole i → i.opcode ≡ DEFAULT
        → m.fetch (end_of i) ≡ Whole j → j.opcode ≡ MATCH → j.operand ≡ match_by (next (next s))
        → Laid n (next (next s)) (end_of j) end is → Laid (suc n) s at end (i ∷ (j ∷ is))

  pub laid_count : {n s at end : ℕ} {is : List Instruction} → Laid n s at end is → length is ≡ 2 * n + 1
  laid_count (last f e v) = refl
  laid_count (pair {n} {is} f e g k v l) = omega (arith, laid_count l)

  -- with an address bit for each pair it is a tree
  pub laid_tree : {n s at end : ℕ} {is : List Instruction} → Laid n s at end is
      → (b : Previous) (left : ℕ) → is_default b ≡ false → n ≤ left → Tree m b at left end is
  laid_tree (last f e v) b left d h = return f e d
  laid_tree (pair {n} {s} {end} {j} {is} f e g k v l) b left d h =
      let one : length_of j.operand ≡ 1 = ap length_of v ∙ match-length (next (next s)) in
      let t : Tree m Short _ (left - 1) _ _ = laid_tree l Short (left - 1) refl (omega arith) in
      let fits : length_of j.operand ≤ left = omega (arith, one) in
      default f e d (match {b = Default} {end = end} {is = is} g k fits (rw one refl) (rw one t))

  -- ---- no jump is open in it

  abbrev pub NoJump : List Instruction → Type 0
  NoJump is = (i : Instruction) → Memᴰ i is → i.opcode ≢ JUMP

  no-jump_more : {i : Instruction} {is : List Instruction} → i.opcode ≢ JUMP → NoJump is → NoJump (i ∷ is)
  no-jump_more {i} {is} h g j p = go (Memᴰ.cases_cons p)
    where
      go : (j ≡ i) ⊎ Memᴰ j is → j.opcode ≢ JUMP
      go (inl e) = subst (λ (x : Instruction). x.opcode ≢ JUMP) (sym e) h
      go (inr q) = g j q

  pub laid_no-jump : {n s at end : ℕ} {is : List Instruction} → Laid n s at end is → NoJump is
  laid_no-jump (last f e v) = no-jump_more (λ q. omega arith) λ j p. absurd (Memᴰ.not-nil p)
  laid_no-jump (pair f e g k v l) = no-jump_more (λ q. omega arith) (no-jump_more (λ q. omega arith) (laid_no-jump l))

  -- an accepted run without a JUMP is as deep at its end as where it began
  pub flat : {s : State} {is : List Instruction} {c d : ℕ} → Accepts m s is c d → NoJump is → d ≡ s.deepest
  flat (run.last v) h = v.deep
  flat (more f (closes q e k z) a) h = flat a λ j p. h j (Memᴰ.tail p)
  flat (more f (opened e k z) a) h = absurd (h _ (Memᴰ.head refl) e)
  flat (more f (matched e k z) a) h = flat a λ j p. h j (Memᴰ.tail p)
  flat (more f (defaulted e k) a) h = flat a λ j p. h j (Memᴰ.tail p)

-- the instructions stand in a map whose bits from `at` on are the load's
pub laid : (m : List ℕ) (n s at : ℕ) (pad : List ℕ) → drop at (map_bits m) ≡ load_bits n s ++ pad
    → (is : List Instruction) × Laid (map_of m) n s at (at + length (load_bits n s)) is
unfolding map_of load_bits
laid m zero s at pad e = (_, last (fetched m at RETURN (number_by (next s)) pad (return_ranged (next s)) e) refl refl)
laid m (suc n) s at pad e =
    let d = next s in
    let t = next (next s) in
    let a = instruction_bits DEFAULT (number_by d) in
    let b = instruction_bits MATCH (match_by t) in
    let q : drop at (map_bits m) ≡ a ++ (b ++ (load_bits n t ++ pad)) = e ∙ append_assoc a (b ++ load_bits n t) pad ∙ ap (λ (l : List ℕ). a ++ l) (append_assoc b (load_bits n t) pad) in
    let q₁ : drop (at + length a) (map_bits m) ≡ b ++ (load_bits n t ++ pad) = sym (drop-drop (length a) at (map_bits m)) ∙ ap (drop (length a)) q ∙ drop_at a (b ++ (load_bits n t ++ pad)) (length a) refl in
    let q₂ : drop (at + length a + length b) (map_bits m) ≡ load_bits n t ++ pad
    = sym (drop-drop (length b) (at + length a) (map_bits m)) ∙ ap (drop (length b)) q₁ ∙ drop_at b (load_bits n t ++ pad) (length b) refl in
    let r = laid m n t (at + length a + length b) pad q₂ in
    let is = instruction DEFAULT (number_by d) at (length a) ∷ (instruction MATCH (match_by t) (at + length a) (length b) ∷ r.0) in
    let z : at + length a + length b + length (load_bits n t) ≡ at + length (a ++ (b ++ load_bits n t)) = omega (arith, length-append a (b ++ load_bits n t), length-append b (load_bits n t)) in (
      is,
      subst (λ (k : ℕ). Laid (map_of m) (suc n) s at k is) z
          (pair (fetched m at DEFAULT (number_by d) (b ++ (load_bits n t ++ pad)) (default_ranged d) q) refl
          (fetched m (at + length a) MATCH (match_by t) (load_bits n t ++ pad) (match_ranged t) q₁) refl refl r.1),
    )

-- ---- the walk

-- an address that begins with the MATCH bits, from its bit u on
abbrev pub BeginsAt : (ℕ → ℕ) → ℕ → ℕ → ℕ → Type 0
BeginsAt address u n s = (i : ℕ) → i < n → address (u + i) ≡ bit_by (draw (2 * i + 2) s)

begins_on : (address : ℕ → ℕ) (u n s : ℕ) → BeginsAt address u (suc n) s → BeginsAt address (u + 1) n (next (next s))
unfolding draw
begins_on address u n s h i k =
    let e : u + suc i ≡ u + 1 + i = omega arith in
    let f : 2 * suc i + 2 ≡ suc (suc (2 * i + 2)) = omega arith in
    ap address (sym e) ∙ h (suc i) (omega arith) ∙ ap (λ (x : ℕ). bit_by (draw x s)) f

begins-first : (address : ℕ → ℕ) (u n s : ℕ) → BeginsAt address u (suc n) s → address u ≡ bit_by (next (next s))
unfolding draw
begins-first address u n s h = let e : u + 0 ≡ u = omega arith in ap address (sym e) ∙ h 0 (omega arith)

-- the bit of such a MATCH is equal
equal : (address : ℕ → ℕ) (b u : ℕ) → b < 2 → address u ≡ b → compared address 1 (2 + b) u ≡ Equal
unfolding compared
equal address b u h e = let q : (2 + b) / 2 ^ 0 % 2 ≡ address u = omega arith in rw (eq-eqb ((2 + b) / 2 ^ 0 % 2) (address u) q)

module _ (address : ℕ → ℕ) (m : Map) (law : Laws m) (w : ℕ) where
  laid_forward : {n s at end : ℕ} {is : List Instruction} → Laid m n s at end is → at < end
  laid_forward (last f e v) = let h = law.stands _ _ f in omega (arith, h.here, h.some)
  laid_forward (pair f e g k v l) =
      let h = law.stands _ _ f in
      let h' = law.stands _ _ g in
      omega (arith, h.here, h.some, h'.here, h'.some, laid_forward l)

  abbrev from : ℕ → ℕ → ℕ → ℕ → Walked
  from f at u d = walk_from address m f (record { at = at; used = u; width = w; default = d })

  -- a DEFAULT, and a MATCH whose bit is equal
  past-default : (f at u d : ℕ) (i : Instruction) → m.fetch at ≡ Whole i → i.opcode ≡ DEFAULT → from (suc f) at u d ≡ push i (from f (end_of i) u i.operand)
  past-default f at u d i g e = walk_at address m law w f DEFAULT u d i g e

  past-match : (f at u d b : ℕ) (i : Instruction) → m.fetch at ≡ Whole i → i.opcode ≡ MATCH → i.operand ≡ 2 + b → b < 2 → u + 1 ≤ w → address u ≡ b
      → from (suc f) at u d ≡ push i (from f (end_of i) (u + 1) d)
  unfolding enough
  past-match f at u d b i g e v h k q =
      let one : length_of i.operand ≡ 1 = ap length_of v ∙ one_bit b h in
      let c : compared address (length_of i.operand) i.operand u ≡ Equal = rw (one, v) (equal address b u h q) in
      let t : Walker = record { at = at; used = u; width = w; default = d } in
      let r : u + length_of i.operand ≤ w = omega (arith, one) in
      walk_at address m law w f MATCH u d i g e
      ∙ ap (λ x. go_on (walk_from address m f) (enough x t i (meeting t i (compared address (length_of i.operand) i.operand u)))) (le-leb (u + length_of i.operand) w r)
      ∙ ap (λ x. go_on (walk_from address m f) (meeting t i x)) c
      ∙ ap (λ x. push i (from f (end_of i) (u + x) d)) one

  -- the walk from a place with turns enough: to the RETURN, and it reads every instruction
  pub laid_walk : {n s at end : ℕ} {is : List Instruction} → Laid m n s at end is
      → (f u d : ℕ) → end ≤ at + f → u + n ≤ w → BeginsAt address u n s
      → from f at u d ≡ record { kind = Returned; number = number_by (draw (2 * n + 1) s); bits = u + n; read = is }
  unfolding draw
  laid_walk l zero u d h k b = absurd (omega (arith, laid_forward l))
  laid_walk (last {s} {at} {i} g e v) (suc f) u d h k b =
      let z : u ≡ u + 0 = omega arith in
      walk_at address m law w f RETURN u d i g e ∙ ap₂ (λ (x y : ℕ). record { kind = Returned; number = x; bits = y; read = i ∷ [] }) v z
  laid_walk (pair {at} g e g' e' v l) (suc zero) u d h k b =
      let p = law.stands _ _ g in
      let p' = law.stands _ _ g' in
      absurd (omega (arith, p.here, p.some, p'.here, p'.some, laid_forward l))
  laid_walk (pair {n} {s} {at} {end} {i} {j} {is} g e g' e' v l) (suc (suc f)) u d h k b =
      let p = law.stands _ _ g in
      let p' = law.stands _ _ g' in
      let t = next (next s) in
      let rest = laid_walk {n = n} {s = t} {at = end_of j} {end = end} {is = is} l f (u + 1) i.operand (omega (arith, p.here, p.some, p'.here, p'.some)) (omega arith) (begins_on address u n s b) in
      let first = past-match f (end_of i) u i.operand (bit_by t) j g' e' v (omega arith) (omega arith) (begins-first address u n s b) in
      let draws : 2 * suc n + 1 ≡ suc (suc (2 * n + 1)) = omega arith in
      let bits : u + 1 + n ≡ u + suc n = omega arith in
      past-default (suc f) at u d i g e ∙ ap (push i) (first ∙ ap (push j) rest)
      ∙ ap₂ (λ (x y : ℕ). record { kind = Returned; number = x; bits = y; read = i ∷ (j ∷ is) }) (ap (λ (x : ℕ). number_by (draw x s)) (sym draws)) bits
