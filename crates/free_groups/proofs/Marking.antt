-- What marking one group more keeps, and where marks and links lead.
-- Assumes nothing.
use mathlib.Core.Path.{◌≡◌, ◌∙◌, refl, sym, ap, subst}
use mathlib.Core.List.{List, [], ◌∷◌, ◌++◌, append_assoc}
use mathlib.Core.Bool.{Bool, true, false, ◌||◌, or-true, or-false}
use Prim.Native.Nat.{ℕ, zero, suc, ◌+◌, ◌-◌, ◌%◌, ◌≤◌, ◌<◌}
use native.Mathlib.Omega.{arith}
use native.Mathlib.Decide.{ℕ_discrete}
use native.Mathlib.Numerals.{add-one}
use borrow.Author.Tests.{eq-eqb, ne_eqb}
use lib.Dec.{eqb}
use lib.ListN.{length, take, drop, get_or, set, replicate, length-set, length-append, length-drop, length-replicate, take-append-drop, get_or-replicate, get_or-append}
use lib.Seq.{take-suc, take-suc-set, take-take, take-append-le, take-append-add, take-append_seam, length-take-le, get_or-take, get_or-drop, get_or-append_seam, get_or-append-add, get_or-set_same, get_or-set_other}
use Rattle.std.proofs.lemmas.List.{ext_get_or}
use Rattle.group_lists.specs.Groups.{has}
use Rattle.group_lists.proofs.Scans.{has-append}
use Rattle.free_groups.specs.models.Marks.{Last, Put, Linked}

-- ---- the last group with a mark

-- one group more, with that mark or with another
module _ (gs : List ℕ) (x h : ℕ) where
  last_here : x % 4096 ≡ h → Last h (gs ++ (x ∷ [])) (length gs + 1)
  last_here e =
      let n = length-append gs (x ∷ []) in
      let k : length gs + 1 - 1 ≡ length gs = omega arith in
      record {
        within = omega arith;
        none_behind = λ q l r z. omega arith;
        stands = λ l. ap (λ (i : ℕ). get_or (gs ++ (x ∷ [])) i 0 % 4096) k ∙ ap (λ (y : ℕ). y % 4096) (get_or-append_seam gs x [] 0) ∙ e;
      }

  last_other : (x % 4096 ≡ h → ⊥) → (k : ℕ) → Last h gs k → Last h (gs ++ (x ∷ [])) k
  last_other d k s =
      let n = length-append gs (x ∷ []) in
      record {
        within = omega (arith, s.within);
        none_behind = λ q l r z. go q l (ℕ_discrete q (length gs)) r z;
        stands = λ l. ap (λ (y : ℕ). y % 4096) (get_or-append gs (x ∷ []) 0 (k - 1) (omega (arith, s.within))) ∙ s.stands l;
      }
    where
      go : (q : ℕ) → k ≤ q → Dec (q ≡ length gs) → q < length (gs ++ (x ∷ [])) → get_or (gs ++ (x ∷ [])) q 0 % 4096 ≡ h → ⊥
      go q l (yes e) r z = d (sym (ap (λ (y : ℕ). y % 4096) (ap (λ (k : ℕ). get_or (gs ++ (x ∷ [])) k 0) e ∙ get_or-append_seam gs x [] 0)) ∙ z)
      go q l (no e) r z =
          let b : q < length gs = omega (arith, length-append gs (x ∷ [])) in
          s.none_behind q l b (sym (ap (λ (y : ℕ). y % 4096) (get_or-append gs (x ∷ []) 0 q b)) ∙ z)

-- a group that stands at no place is not in a list
has_none : (g : ℕ) (gs : List ℕ) → ((q : ℕ) → q < length gs → get_or gs q 0 ≡ g → ⊥) → has g gs ≡ false
has_none g [] h = refl
has_none g (x ∷ gs) h = rw (ne_eqb g x (λ e. h 0 (omega arith) (sym e))) (has_none g gs (λ q l. h (suc q) (omega arith)))

-- whoever has the mark is not behind its last
last_has : (g : ℕ) (gs : List ℕ) (k : ℕ) → Last (g % 4096) gs k → has g gs ≡ has g (take k gs)
last_has g gs k s = ap (has g) (sym (take-append-drop k gs)) ∙ has-append g (take k gs) (drop k gs) ∙ rw (has_none g (drop k gs) behind) (or-false (has g (take k gs)))
  where
    behind : (q : ℕ) → q < length (drop k gs) → get_or (drop k gs) q 0 ≡ g → ⊥
    behind q l e = s.none_behind (k + q) (omega arith) (omega (arith, length-drop k gs)) (ap (λ (y : ℕ). y % 4096) (sym (get_or-drop k gs q 0) ∙ e))

-- ---- marking

-- no group is used
pub linked_none : (links : List ℕ) → Linked [] (replicate 4096 0) links
linked_none links =
    record {
      long = length-replicate {A = ℕ} 4096 0;
      room = omega arith;
      marked = λ h l. rw (get_or-replicate {A = ℕ} 4096 h 0 0 l) (record { within = omega arith; none_behind = λ q a b z. omega arith; stands = λ z. absurd (omega arith) });
      linked = λ p l. absurd (omega arith);
    }

-- where no group is used none is marked
pub none_marked : (marks links : List ℕ) → Linked [] marks links → marks ≡ replicate 4096 0
none_marked marks links s =
    ext_get_or 0 marks (replicate 4096 0) (s.long ∙ sym (length-replicate {A = ℕ} 4096 0)) (λ h l. zero_at h (omega (arith, s.long)))
  where
    zero_at : (h : ℕ) → h < 4096 → get_or marks h 0 ≡ get_or (replicate 4096 0) h 0
    zero_at h l = let z : get_or marks h 0 ≡ 0 = omega (arith, (s.marked h l).within) in z ∙ sym (get_or-replicate {A = ℕ} 4096 h 0 0 l)

-- one group more is used
module _ (used marks links : List ℕ) (x : ℕ) (s : Linked used marks links) (room : length used < length links) where
  marked_on : (h : ℕ) → h < 4096 → Dec (h ≡ x % 4096) → Last h (used ++ (x ∷ [])) (get_or (set marks (x % 4096) (length used + 1)) h 0)
  marked_on h l (yes e) =
      rw (e, get_or-set_same marks (x % 4096) (length used + 1) 0 (omega (arith, s.long))) (last_here used x (x % 4096) refl)
  marked_on h l (no e) =
      rw (get_or-set_other marks (x % 4096) h (length used + 1) 0 e) (last_other used x h (λ z. e (sym z)) (get_or marks h 0) (s.marked h l))

  abbrev links' : List ℕ
  links' = set links (length used) (get_or marks (x % 4096) 0)

  linked_on : (p : ℕ) → p < length (used ++ (x ∷ [])) → Dec (p ≡ length used) → Last (get_or (used ++ (x ∷ [])) p 0 % 4096) (take p (used ++ (x ∷ []))) (get_or links' p 0)
  linked_on p l (yes e) =
      rw (e, get_or-append_seam used x [] 0, take-append_seam used (x ∷ []), get_or-set_same links (length used) (get_or marks (x % 4096) 0) 0 room)
      (s.marked (x % 4096) (omega arith))
  linked_on p l (no e) =
      let b : p < length used = omega (arith, length-append used (x ∷ [])) in
      rw (get_or-append used (x ∷ []) 0 p b, take-append-le p used (x ∷ []) (omega arith), get_or-set_other links (length used) p (get_or marks (x % 4096) 0) 0 e)
      (s.linked p b)

  pub linked_more : Linked (used ++ (x ∷ [])) (set marks (x % 4096) (length used + 1)) links'
  linked_more =
      record {
        long = length-set marks (x % 4096) (length used + 1) ∙ s.long;
        room = omega (arith, length-append used (x ∷ []), length-set links (length used) (get_or marks (x % 4096) 0));
        marked = λ h l. marked_on h l (ℕ_discrete h (x % 4096));
        linked = λ p l. linked_on p l (ℕ_discrete p (length used));
      }

-- as `mark` leaves them, the group having a place behind the used ones
pub linked_then : (used marks links marks' links' : List ℕ) (x n : ℕ) → n ≡ length used → n < length links → Linked used marks links
    → (marks' ≡ set marks (x % 4096) (n + 1)) × (links' ≡ set links n (get_or marks (x % 4096) 0)) → (length links' ≡ length links) × (Linked (used ++ (x ∷ [])) marks' links')
linked_then used marks links marks' links' x n q room s e =
    rw (e.0, e.1, q) (length-set links (length used) (get_or marks (x % 4096) 0), linked_more used marks links x s (omega arith))

-- the next occupied group
pub linked-put : (gs marks links marks' : List ℕ) (i r : ℕ) → i < length gs → length gs ≤ length links → Linked (take i gs) marks links → Put marks (get_or gs i 0) i r marks'
    → (length (set links i r) ≡ length links) × (Linked (take (i + 1) gs) marks' (set links i r))
linked-put gs marks links marks' i r l room s p =
    let t = linked_then (take i gs) marks links marks' (set links i r) (get_or gs i 0) i (sym (length-take-le i gs (omega arith))) (omega arith) s (p.put, ap (set links i) p.stood) in
    (t.0, rw (add-one i, take-suc gs i 0 l) t.1)

-- the next four, whose links follow each other
module _ (gs m0 m1 m2 m3 m4 links : List ℕ) (i a b c d : ℕ) (h : i + 4 ≤ length gs) (room : length gs ≤ length links) (s : Linked (take i gs) m0 links) where
  pub linked_four : Put m0 (get_or gs i 0) i a m1 → Put m1 (get_or gs (i + 1) 0) (i + 1) b m2 → Put m2 (get_or gs (i + 2) 0) (i + 2) c m3
      → Put m3 (get_or gs (i + 3) 0) (i + 3) d m4 → Linked (take (i + 4) gs) m4 (set (set (set (set links i a) (i + 1) b) (i + 2) c) (i + 3) d)
  linked_four p q t u =
      let e : i + 1 + 1 ≡ i + 2 = omega arith in
      let f : i + 2 + 1 ≡ i + 3 = omega arith in
      let k : i + 3 + 1 ≡ i + 4 = omega arith in
      let x = linked-put gs m0 links m1 i a (omega arith) room s p in
      let y = linked-put gs m1 (set links i a) m2 (i + 1) b (omega arith) (omega (arith, x.0)) x.1 q in
      let y' = subst (λ (n : ℕ). Linked (take n gs) m2 (set (set links i a) (i + 1) b)) e y.1 in
      let z = linked-put gs m2 (set (set links i a) (i + 1) b) m3 (i + 2) c (omega arith) (omega (arith, x.0, y.0)) y' t in
      let z' = subst (λ (n : ℕ). Linked (take n gs) m3 (set (set (set links i a) (i + 1) b) (i + 2) c)) f z.1 in
      let w = linked-put gs m3 (set (set (set links i a) (i + 1) b) (i + 2) c) m4 (i + 3) d (omega arith) (omega (arith, x.0, y.0, z.0)) z' u in
      subst (λ (n : ℕ). Linked (take n gs) m4 (set (set (set (set links i a) (i + 1) b) (i + 2) c) (i + 3) d)) k w.1

-- a group that is taken
pub linked-taken : (occupied groups marks links marks' links' : List ℕ) (taken x : ℕ) → taken < length groups → length occupied + taken < length links
    → Linked (occupied ++ take taken groups) marks links
    → (marks' ≡ set marks (x % 4096) (length occupied + taken + 1)) × (links' ≡ set links (length occupied + taken) (get_or marks (x % 4096) 0))
    → (length links' ≡ length links) × (Linked (occupied ++ take (taken + 1) (set groups taken x)) marks' links')
linked-taken occupied groups marks links marks' links' taken x l room s e =
    let n : length occupied + taken ≡ length (occupied ++ take taken groups) = omega (arith, length-append occupied (take taken groups), length-take-le taken groups (omega arith)) in
    let r = linked_then (occupied ++ take taken groups) marks links marks' links' x (length occupied + taken) n room s e in
    (r.0, rw (add-one taken, take-suc-set groups taken x l, ← append_assoc occupied (take taken groups) (x ∷ [])) r.1)

-- ---- asking

-- k used groups are left to look at for the group g, and of these the last has its mark
pub record Following (g : ℕ) (used : List ℕ) (k : ℕ) : Type 0 where
  pub within : k ≤ length used
  pub decide : has g used ≡ has g (take k used)
  pub stands : 0 < k → get_or used (k - 1) 0 % 4096 ≡ g % 4096

-- a group at a place of the list is in it
pub has_at : (g : ℕ) (gs : List ℕ) (i : ℕ) → i < length gs → get_or gs i 0 ≡ g → has g gs ≡ true
has_at g [] i h e = absurd (omega arith)
has_at g (x ∷ gs) zero h e = rw (eq-eqb g x (sym e))
has_at g (x ∷ gs) (suc i) h e = ap (λ (b : Bool). eqb g x || b) (has_at g gs i (omega arith) e) ∙ or-true (eqb g x)

module _ (g : ℕ) (used marks links : List ℕ) (s : Linked used marks links) where
  pub follow_mark : Following g used (get_or marks (g % 4096) 0)
  follow_mark =
      let l = s.marked (g % 4096) (omega arith) in
      record { within = l.within; decide = last_has g used (get_or marks (g % 4096) 0) l; stands = l.stands }

  -- the group at the place is another one: its link leads on
  pub follow_link : (k p : ℕ) → k ≡ p + 1 → Following g used k → (get_or used p 0 ≡ g → ⊥) → Following g used (get_or links p 0)
  follow_link k p e f d =
      let b : p < length used = omega (arith, f.within) in
      let i : p ≡ k - 1 = omega arith in
      let z : get_or used p 0 % 4096 ≡ g % 4096 = ap (λ (i : ℕ). get_or used i 0 % 4096) i ∙ f.stands (omega arith) in
      let l : Last (g % 4096) (take p used) (get_or links p 0) = subst (λ (h : ℕ). Last h (take p used) (get_or links p 0)) z (s.linked p b) in
      let m : get_or links p 0 ≤ p = omega (arith, l.within, length-take-le p used (omega arith)) in
      record {
        within = omega arith;
        decide =
            f.decide
            ∙ ap (λ (n : ℕ). has g (take n used)) (e ∙ add-one p)
            ∙ ap (has g) (take-suc used p 0 b)
            ∙ has-append g (take p used) (get_or used p 0 ∷ [])
            ∙ rw (ne_eqb g (get_or used p 0) (λ q. d (sym q))) (or-false (has g (take p used)))
            ∙ last_has g (take p used) (get_or links p 0) l
            ∙ ap (has g) (take-take (get_or links p 0) p used m);
        stands = λ q. sym (ap (λ (y : ℕ). y % 4096) (get_or-take p used (get_or links p 0 - 1) 0 (omega arith))) ∙ l.stands q;
      }

-- ---- the used groups by the two lists

module _ (occupied taken : List ℕ) (n : ℕ) where
  pub at_occupied : n < length occupied → get_or (occupied ++ taken) n 0 ≡ get_or occupied n 0
  at_occupied h = get_or-append occupied taken 0 n h

  pub at_taken : length occupied ≤ n → get_or (occupied ++ taken) n 0 ≡ get_or taken (n - length occupied) 0
  at_taken h =
      let e : n ≡ length occupied + (n - length occupied) = omega arith in
      ap (λ (i : ℕ). get_or (occupied ++ taken) i 0) e ∙ get_or-append-add occupied taken (n - length occupied) 0

  -- the first n of them
  pub first_occupied : n ≤ length occupied → take n (occupied ++ taken) ≡ take n occupied
  first_occupied h = take-append-le n occupied taken h

  pub first_taken : length occupied ≤ n → take n (occupied ++ taken) ≡ occupied ++ take (n - length occupied) taken
  first_taken h =
      let e : n ≡ length occupied + (n - length occupied) = omega arith in
      ap (λ (i : ℕ). take i (occupied ++ taken)) e ∙ take-append-add occupied taken (n - length occupied)
