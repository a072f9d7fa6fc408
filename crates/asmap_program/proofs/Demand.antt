-- Demand 3: no walk of an accepted map aborts, what it reads stands in the list unpacked, and its count is at most twice its bits and
-- one. By induction on the tree; the count by a slack, 0 after a DEFAULT and else 1. What the number is at a difference is
-- `default_holds_until_another`, of every walk.
-- Assumes nothing.
use Prim.Native.Nat.{ℕ, zero, suc, ◌+◌, ◌-◌, ◌*◌, ◌≤◌, ◌<◌}
use mathlib.Core.Bool.{Bool, true, false, cond}
use mathlib.Core.Path.{◌≡◌, refl, sym, ap, subst, ◌∙◌}
use mathlib.Core.List.Memᴰ
use mathlib.Core.List.{List, [], ◌∷◌, ◌++◌, Memᴰ}
use mathlib.Core.Logic.{◌⊎◌, inl, inr}
use native.Mathlib.Omega.{arith}
use lib.Dec.{ltb, eqb}
use lib.ListN.{length}
use borrow.Author.Tests.{lt-ltb, le-leb}
use Rattle.asmap_program.specs.declared.Instruction.{Instruction}
use Rattle.asmap_program.specs.declared.Previous.{Previous}
use Rattle.asmap_program.specs.declared.Previous.TheVariants.{Other, Short, Default}
use Rattle.asmap_program.specs.declared.Kind.TheVariants.{Returned, Differed}
use Rattle.asmap_program.specs.Map.{RETURN, JUMP, MATCH, DEFAULT, end_of, target_of, Fetched, Whole, Map, Laws, length_of, bit_of}
use Rattle.asmap_program.specs.Check.{is_default, check, unpacked, after_match}
use Rattle.asmap_program.specs.declared.Walker.{Walker}
use Rattle.asmap_program.specs.Walk.{Walked, Compared, Equal, Different, compared, enough, meeting, turn_whole, turn_on, push, go_on, walk_from, walk}
use Rattle.asmap_program.specs.Demand.{last_default, NoDefault, ZeroSays, Answers, EndsWith, Finishes, Walks}
use Rattle.asmap_program.proofs.Length.{length_some}
use Rattle.asmap_program.proofs.Default.{default_holds_until_another, FromOne, reads_from_one, zero_none}
use Rattle.asmap_program.specs.Tree.{Tree, return, jump, match, default}
use Rattle.asmap_program.proofs.Tree.{program, forward}
use Rattle.asmap_program.specs.Verdict.{Accepted}

-- the count may be one more than twice the bits, but not after a DEFAULT
abbrev slack : Previous → ℕ
slack Default = 0
slack Short = 1
slack Other = 1

slack_one : (b : Previous) → is_default b ≡ false → slack b ≡ 1
slack_one Other e = refl
slack_one Short e = refl
slack_one Default e = let z : ◌≡◌ {A = ℕ} 0 1 = cc in omega arith

either : (t : Bool) → is_default (cond t Short Other) ≡ false
either true = refl
either false = refl

after-match : (n : ℕ) → is_default (after_match n) ≡ false
after-match n = either (ltb n 8)

-- What is said of a walk from the middle, with u address bits read and `left` left, over the instructions is. Its number at a difference is
-- left open here.
pub record Sound (is : List Instruction) (b : Previous) (u left : ℕ) (r : Walked) : Type 0 where
  pub ends : EndsWith r.number r
  pub low : u ≤ r.bits
  pub high : r.bits ≤ u + left
  pub count : length r.read + 2 * u ≤ 2 * r.bits + slack b
  pub inside : (i : Instruction) → Memᴰ i r.read → Memᴰ i is

-- an instruction more, in front
pushed : {is is' : List Instruction} {b b' : Previous} {u u' left left' : ℕ} {r : Walked} {i : Instruction}
    → Sound is b u left r → u' ≤ u → u + left ≤ u' + left' → suc (slack b) + 2 * u' ≤ 2 * u + slack b'
    → ((j : Instruction) → Memᴰ j is → Memᴰ j is') → Memᴰ i is'
    → Sound is' b' u' left' (push i r)
pushed {is} {is'} {r} {i} s h k c g p =
    let e = s.ends in
    record {
      ends = record { final = e.final; earlier = i ∷ e.earlier; split = ap (λ (l : List Instruction). i ∷ l) e.split; how = e.how };
      low = omega arith;
      high = omega arith;
      count = omega arith;
      inside = λ j q. pick j (Memᴰ.cases_cons q);
    }
  where
    pick : (j : Instruction) → (j ≡ i) ⊎ Memᴰ j r.read → Memᴰ j is'
    pick j (inl e) = Memᴰ.cast e p
    pick j (inr q) = g j (s.inside j q)

-- a difference is found among the bits compared
abbrev Within : ℕ → ℕ → Compared → Type 0
Within u n Equal = Unit {0}
Within u n (Different r) = (u < r) × (r ≤ u + n)

widen : (u n : ℕ) (c : Compared) → Within (suc u) n c → Within u (suc n) c
widen u n Equal h = tt
widen u n (Different r) h = omega arith

module _ (address : ℕ → ℕ) where
  within_next : (b : Bool) (n v u : ℕ) → eqb (bit_of v n) (address u) ≡ b
      → Within (suc u) n (compared address n v (suc u)) → Within u (suc n) (compared address (suc n) v u)
  unfolding compared
  within_next true n v u e h = rw e (widen u n (compared address n v (suc u)) h)
  within_next false n v u e h = rw e (omega arith)

  within : (n v u : ℕ) → Within u n (compared address n v u)
  unfolding compared
  within zero v u = tt
  within (suc n) v u = within_next (eqb (bit_of v n) (address u)) n v u refl (within n v (suc u))

  module _ (m : Map) (law : Laws m) (w : ℕ) where
    -- a turn at an instruction
    pub walk_at : (n k u d : ℕ) {at : ℕ} (i : Instruction) → m.fetch at ≡ Whole i → i.opcode ≡ k
        → walk_from address m (suc n) (record { at = at; used = u; width = w; default = d })
        ≡ go_on (walk_from address m n) (turn_whole address m (record { at = at; used = u; width = w; default = d }) i k)
    unfolding walk_from
    walk_at n k u d {at} i f e =
        let s : Walker = record { at = at; used = u; width = w; default = d } in
        ap (λ (r : Fetched). go_on (walk_from address m n) (turn_on address m s r)) f
        ∙ ap (λ (c : ℕ). go_on (walk_from address m n) (turn_whole address m s i c)) e

    -- a MATCH that goes on, or ends at the difference
    differs : {is : List Instruction} {b : Previous} {left : ℕ} (s : Walker) (i : Instruction) (c : Compared) → i.opcode ≡ MATCH → length_of i.operand ≤ left
        → Within s.used (length_of i.operand) c → (k : Walker → Walked)
        → Sound (i ∷ is) b s.used left (push i (k (record { at = end_of i; used = s.used + length_of i.operand; width = s.width; default = s.default })))
        → Sound (i ∷ is) b s.used left (go_on k (meeting s i c))
    differs s i Equal e q h k r = r
    differs s i (Different x) e q h k r =
        record { ends = record { final = i; earlier = []; split = refl; how = inr (refl, e, refl) }; low = omega arith; high = omega arith; count = omega arith; inside = λ j p. Memᴰ.head (Memᴰ.eq_of_singleton p) }

    -- a row for each instruction, over variables alone: what `sound` says of what follows is handed in
    abbrev Walk : ℕ → ℕ → ℕ → ℕ → Walked
    Walk n at u d = walk_from address m n (record { at = at; used = u; width = w; default = d })

    sound_return : {b : Previous} {at : ℕ} (left : ℕ) {i : Instruction} → m.fetch at ≡ Whole i → i.opcode ≡ RETURN → is_default b ≡ false
        → (n u d : ℕ) → Sound (i ∷ []) b u left (Walk (suc n) at u d)
    sound_return {b} left {i} f e q n u d =
        let z = slack_one b q in
        rw (walk_at n RETURN u d i f e)
        record { ends = record { final = i; earlier = []; split = refl; how = inl (refl, e, refl) }; low = omega arith; high = omega arith; count = omega arith; inside = λ j p. p }

    -- x: the address bit is 1
    sound_jump : (x : Bool) {b : Previous} {at left : ℕ} {i : Instruction} {is js : List Instruction}
        → m.fetch at ≡ Whole i → i.opcode ≡ JUMP → 1 ≤ left → (n u d : ℕ) → eqb (address u) 1 ≡ x → u + left ≤ w
        → ((v : ℕ) → v + (left - 1) ≤ w → Sound is Other v (left - 1) (Walk n (end_of i) v d))
        → ((v : ℕ) → v + (left - 1) ≤ w → Sound js Other v (left - 1) (Walk n (target_of i) v d))
        → Sound (i ∷ (is ++ js)) b u left (Walk (suc n) at u d)
    unfolding enough
    sound_jump true {i} {is} f e q n u d g k r r' =
        rw (walk_at n JUMP u d i f e, lt-ltb u w (omega arith), g)
        (pushed (r' _ (omega arith)) (omega arith) (omega arith) (omega arith) (λ j p. Memᴰ.tail (Memᴰ.append_right is p)) (Memᴰ.head refl))
    sound_jump false {i} {js} f e q n u d g k r r' =
        rw (walk_at n JUMP u d i f e, lt-ltb u w (omega arith), g)
        (pushed (r _ (omega arith)) (omega arith) (omega arith) (omega arith) (λ j p. Memᴰ.tail (Memᴰ.append_left js p)) (Memᴰ.head refl))

    sound_match : {b : Previous} {at left : ℕ} {i : Instruction} {is : List Instruction} → m.fetch at ≡ Whole i → i.opcode ≡ MATCH → length_of i.operand ≤ left
        → (n u d : ℕ) → u + left ≤ w
        → Sound is (after_match (length_of i.operand)) (u + length_of i.operand) (left - length_of i.operand) (Walk n (end_of i) (u + length_of i.operand) d)
        → Sound (i ∷ is) b u left (Walk (suc n) at u d)
    unfolding enough
    sound_match {at} {i} f e q n u d k r =
        let l = length_some i.operand ((law.stands _ _ f).wide e) in
        let z = slack_one (after_match (length_of i.operand)) (after-match (length_of i.operand)) in
        rw (walk_at n MATCH u d i f e, le-leb (u + length_of i.operand) w (omega arith))
        (differs (record { at = at; used = u; width = w; default = d }) i (compared address (length_of i.operand) i.operand u) e q
        (within (length_of i.operand) i.operand u) (walk_from address m n)
        (pushed r (omega arith) (omega arith) (omega arith) (λ j p. Memᴰ.tail p) (Memᴰ.head refl)))

    sound_default : {b : Previous} {at left : ℕ} {i : Instruction} {is : List Instruction} → m.fetch at ≡ Whole i → i.opcode ≡ DEFAULT → is_default b ≡ false
        → (n u d : ℕ) → Sound is Default u left (Walk n (end_of i) u i.operand)
        → Sound (i ∷ is) b u left (Walk (suc n) at u d)
    sound_default {b} {i} f e q n u d r =
        let z = slack_one b q in
        rw (walk_at n DEFAULT u d i f e)
        (pushed r (omega arith) (omega arith) (omega arith) (λ j p. Memᴰ.tail p) (Memᴰ.head refl))

    -- a walk through a tree, from the address bit u on, with turns enough
    pub sound : {b : Previous} {at left end : ℕ} {is : List Instruction} → Tree m b at left end is
        → (f u d : ℕ) → end ≤ at + f → u + left ≤ w
        → Sound is b u left (walk_from address m f (record { at = at; used = u; width = w; default = d }))
    sound t zero u d h k = let a = forward m law t in absurd (omega arith)
    sound (return {left} f e q) (suc n) u d h k = sound_return left f e q n u d
    sound {b} (jump f e q t t') (suc n) u d h k =
        let s = law.stands _ _ f in
        let a = forward m law t' in
        sound_jump (eqb (address u) 1) f e q n u d refl k (λ v z. sound {b = Other} t n v d (omega arith) z) (λ v z. sound {b = Other} t' n v d (omega arith) z)
    sound (match f e q p t) (suc n) u d h k =
        let s = law.stands _ _ f in
        sound_match f e q n u d k (sound t n _ d (omega arith) (omega arith))
    sound (default f e q t) (suc n) u d h k =
        let s = law.stands _ _ f in
        sound_default f e q n u d (sound t n u _ (omega arith) k)

-- the number at a difference, put in
numbered : {r : Walked} → EndsWith r.number r → (r.kind ≡ Differed → r.number ≡ last_default r.read) → Finishes r
numbered {r} e h = record { final = e.final; earlier = e.earlier; split = e.split; how = go e.how }
  where
    go : {A X : Type 0} → A ⊎ ((r.kind ≡ Differed) × X × (r.number ≡ r.number)) → A ⊎ ((r.kind ≡ Differed) × X × (r.number ≡ last_default r.read))
    go (inl x) = inl x
    go (inr x) = inr (x.0, x.1, h x.0)

-- a number 0 is no RETURN's, whose operand is 1 at least, and no DEFAULT's
zero_says : {r : Walked} → Finishes r → FromOne r.read → ZeroSays r
zero_says {r} e h z = go e.how
  where
    last : Memᴰ e.final r.read
    last = subst (λ (l : List Instruction). Memᴰ e.final l) (sym e.split) (Memᴰ.append_right e.earlier (Memᴰ.head refl))

    go : {A X : Type 0} → ((r.kind ≡ Returned) × A × (r.number ≡ e.final.operand)) ⊎ ((r.kind ≡ Differed) × X × (r.number ≡ last_default r.read))
        → (r.kind ≡ Differed) × NoDefault r.read
    go (inl x) = let k = x.2 in absurd (omega (arith, h e.final last, k, z))
    go (inr x) = (x.0, (zero_none 0 r.read h (sym x.2 ∙ z)).1)

-- Demand 3: each walk of a map that the check accepts over w address bits
pub demand3 : (m : Map) → Laws m → (w c d : ℕ) → check m w ≡ Accepted c d
    → (address : ℕ → ℕ) → Walks (unpacked m w) w (walk address m w)
unfolding walk
demand3 m law w c d h address =
    let p = program m law w h in
    let a = forward m law p.tree in
    let s = sound address m law w p.tree m.bits 0 0 (omega arith) (omega arith) in
    let e = numbered s.ends (default_holds_until_another address m law w) in
    record { ends = e; zero = zero_says e (reads_from_one address m law w); bits = omega arith; count = omega arith; most = omega arith; inside = s.inside }

-- a walk that ends so has an answer
pub ended_answers : {d : ℕ} {r : Walked} → EndsWith d r → Answers r.kind
ended_answers {r} e = go e.how
  where
    go : {A B C D : Type 0} → ((r.kind ≡ Returned) × A × B) ⊎ ((r.kind ≡ Differed) × C × D) → Answers r.kind
    go (inl x) = inl x.0
    go (inr x) = inr x.0

-- no walk of an accepted map aborts: its number, 0 too, is an answer
pub accepted_never_aborts : (m : Map) → Laws m → (w c d : ℕ) → check m w ≡ Accepted c d
    → (address : ℕ → ℕ) → Answers (walk address m w).kind
accepted_never_aborts m law w c d h address = ended_answers (demand3 m law w c d h address).ends
