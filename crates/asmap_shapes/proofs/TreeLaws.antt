-- A shape's bits in a map are a tree of the map, and a walk through them finds what the address finds in the shape.
-- Assumes nothing.
use Prim.Native.Nat.{ℕ, zero, suc, ◌+◌, ◌-◌, ◌≤◌, ◌<◌}
use mathlib.Core.Bool.{Bool, true, false}
use mathlib.Core.Path.{◌≡◌, refl, sym, ap, ◌∙◌}
use mathlib.Core.List.{List, [], ◌∷◌, ◌++◌, append_assoc}
use native.Mathlib.Omega.{arith}
use native.Mathlib.Nat.{le-max_left, le-max_right}
use lib.Dec.{eqb}
use lib.ListN.{length, drop, length-append}
use lib.Seq.{drop-drop, drop-append_seam}
use borrow.Author.Tests.{lt-ltb}
use Rattle.asmap_program.specs.declared.Instruction.{Instruction}
use Rattle.asmap_program.specs.declared.Previous.TheVariants.{Other}
use Rattle.asmap_program.specs.declared.Kind.TheVariants.{Returned}
use Rattle.asmap_program.specs.Map.{RETURN, JUMP, Whole}
use Rattle.asmap_program.specs.Tree.{Tree, return, jump}
use Rattle.asmap_program.specs.Walk.{Walked, enough, walk_from}
use Rattle.asmap_program.proofs.Demand.{walk_at}
use Rattle.asmap_codes.specs.Bits.{map_bits}
use Rattle.asmap_codes.specs.Row.{operand_row}
use Rattle.asmap_codes.specs.Encode.{instruction_bits}
use Rattle.asmap_codes.specs.Instruction.{map_of}
use Rattle.asmap_codes.proofs.BitLaws.{AllBits}
use Rattle.asmap_codes.proofs.RoundTrip.{length_encode}
use Rattle.asmap_codes.proofs.Instructions.{written_then_fetched, instruction-length}
use Rattle.asmap_codes.proofs.MapLaws.{laws, map_fetch}
use Rattle.asmap_bit_writer.proofs.InstructionBits.{bits-append, bits_instruction}
use Rattle.asmap_shapes.specs.Shape.{Shape, Leaf, Fork, bits_of}
use Rattle.asmap_shapes.proofs.ShapeLaws.{depth, Each, found}

-- ---- its instructions

abbrev instruction_of : ℕ → ℕ → ℕ → Instruction
instruction_of op v p = record { opcode = op; operand = v; place = p; size = length (instruction_bits op v) }

-- the instructions of a shape, from the place p on
unfoldable pub list_of : ℕ → Shape → List Instruction
list_of p (Leaf n) = instruction_of RETURN n p ∷ []
list_of p (Fork t u) =
    instruction_of JUMP (length (bits_of t)) p
    ∷ (list_of (p + length (instruction_bits JUMP (length (bits_of t)))) t
    ++ list_of (p + length (instruction_bits JUMP (length (bits_of t))) + length (bits_of t)) u)

-- a number that a RETURN can have
abbrev pub Number : ℕ → Type 0
Number n = (1 ≤ n) × (n ≤ 33521664)

-- ---- how long it is

-- a RETURN has 17 bits at least
pub return-length : (n : ℕ) → 17 ≤ length (instruction_bits RETURN n)
unfolding instruction_bits
return-length n = let l = length_encode (operand_row 0).sizes (n - 1) in omega (arith, l.0)

-- so has every shape: what a JUMP's operand must be
pub shape-length : (t : Shape) → 17 ≤ length (bits_of t)
unfolding bits_of
shape-length (Leaf n) = return-length n
shape-length (Fork t u) =
    omega (arith, shape-length t, length-append (instruction_bits JUMP (length (bits_of t))) (bits_of t ++ bits_of u), length-append (bits_of t) (bits_of u))

pub fork-length : (t u : Shape) → length (bits_of (Fork t u)) ≡ length (instruction_bits JUMP (length (bits_of t))) + length (bits_of t) + length (bits_of u)
unfolding bits_of
fork-length t u =
    omega (arith, length-append (instruction_bits JUMP (length (bits_of t))) (bits_of t ++ bits_of u), length-append (bits_of t) (bits_of u))

pub all-bits : (t : Shape) → AllBits (bits_of t)
unfolding bits_of
all-bits (Leaf n) = bits_instruction RETURN n
all-bits (Fork t u) =
    bits-append (instruction_bits JUMP (length (bits_of t))) (bits_of t ++ bits_of u) (bits_instruction JUMP (length (bits_of t)))
    (bits-append (bits_of t) (bits_of u) (all-bits t) (all-bits u))

module _ (m : List ℕ) where
  -- the bits stand at p
  abbrev At : ℕ → List ℕ → Type 0
  At p bs = (rest : List ℕ) × (drop p (map_bits m) ≡ bs ++ rest)

  at_first : (p : ℕ) (a b : List ℕ) → At p (a ++ b) → At p a
  at_first p a b h = (b ++ h.0, h.1 ∙ append_assoc a b h.0)

  at_then : (p : ℕ) (a b : List ℕ) → At p (a ++ b) → At (p + length a) b
  at_then p a b h = (
    h.0,
    sym (drop-drop (length a) p (map_bits m)) ∙ ap (drop (length a)) (h.1 ∙ append_assoc a b h.0) ∙ drop-append_seam a (b ++ h.0),
  )

  -- a shape that stands at p, its instructions
  pub record Stands (p : ℕ) (t : Shape) : Type 0 where
    pub bits : At p (bits_of t)
    pub numbers : Each Number t
    pub short : length (bits_of t) ≤ 134217728

  leaf_fetched : (p n : ℕ) → Stands p (Leaf n) → (map_of m).fetch p ≡ Whole (instruction_of RETURN n p)
  unfolding bits_of
  leaf_fetched p n s =
      map_fetch m p ∙ written_then_fetched m p RETURN n s.bits.0 (omega arith) s.numbers.0 (omega (arith, s.numbers.1)) s.bits.1

  module _ (p : ℕ) (t u : Shape) (s : Stands p (Fork t u)) where
    abbrev J : List ℕ
    J = instruction_bits JUMP (length (bits_of t))

    fork_fetched : (map_of m).fetch p ≡ Whole (instruction_of JUMP (length (bits_of t)) p)
    unfolding bits_of
    fork_fetched =
        let h = at_first p J (bits_of t ++ bits_of u) s.bits in
        let l = fork-length t u in
        let k = s.short in
        map_fetch m p
        ∙ written_then_fetched m p JUMP (length (bits_of t)) h.0 (omega arith) (omega (arith, shape-length t)) (omega (arith, l, k)) h.1

    fork-zero : Stands (p + length J) t
    unfolding bits_of
    fork-zero =
        let l = fork-length t u in
        record {
          bits = at_first (p + length J) (bits_of t) (bits_of u) (at_then p J (bits_of t ++ bits_of u) s.bits);
          numbers = s.numbers.0;
          short = omega (arith, l, s.short);
        }

    fork_one : Stands (p + length J + length (bits_of t)) u
    unfolding bits_of
    fork_one =
        let l = fork-length t u in
        record {
          bits = at_then (p + length J) (bits_of t) (bits_of u) (at_then p J (bits_of t ++ bits_of u) s.bits);
          numbers = s.numbers.1;
          short = omega (arith, l, s.short);
        }

  leaf_tree : (p n left : ℕ) → Stands p (Leaf n) → Tree (map_of m) Other p left (p + length (bits_of (Leaf n))) (list_of p (Leaf n))
  unfolding list_of bits_of
  leaf_tree p n left s = return (leaf_fetched p n s) refl refl

  fork_tree : (t u : Shape) (p left : ℕ) → 1 ≤ left → (s : Stands p (Fork t u))
      → Tree (map_of m) Other (p + length (J p t u s)) (left - 1) (p + length (J p t u s) + length (bits_of t)) (list_of (p + length (J p t u s)) t)
      → Tree (map_of m) Other (p + length (J p t u s) + length (bits_of t)) (left - 1) (p + length (J p t u s) + length (bits_of t) + length (bits_of u)) (list_of (p + length (J p t u s) + length (bits_of t)) u)
      → Tree (map_of m) Other p left (p + length (bits_of (Fork t u))) (list_of p (Fork t u))
  unfolding list_of
  fork_tree t u p left h s a b =
      let e : p + length (bits_of (Fork t u)) ≡ p + length (J p t u s) + length (bits_of t) + length (bits_of u) = omega (arith, fork-length t u) in
      rw e (jump (fork_fetched p t u s) refl h a b)

  -- what stands so is a tree
  pub tree_of : (t : Shape) (p left : ℕ) → depth t ≤ left → Stands p t → Tree (map_of m) Other p left (p + length (bits_of t)) (list_of p t)
  tree_of (Leaf n) p left h s = leaf_tree p n left s
  tree_of (Fork t u) p left h s =
      fork_tree t u p left (omega arith) s
      (tree_of t (p + length (J p t u s)) (left - 1) (omega (arith, le-max_left (depth t) (depth u))) (fork-zero p t u s))
      (tree_of u (p + length (J p t u s) + length (bits_of t)) (left - 1) (omega (arith, le-max_right (depth t) (depth u))) (fork_one p t u s))

  module _ (a : ℕ → ℕ) (w : ℕ) where
    -- a walk that ends at a RETURN with the number that the address finds
    pub record Finds (t : Shape) (u : ℕ) (r : Walked) : Type 0 where
      pub kind : r.kind ≡ Returned
      pub number : r.number ≡ found a t u

    abbrev Walk : ℕ → ℕ → ℕ → ℕ → Walked
    Walk n at u d = walk_from a (map_of m) n (record { at = at; used = u; width = w; default = d })

    leaf_finds : (n p f u d : ℕ) → Stands p (Leaf n) → Finds (Leaf n) u (Walk (suc f) p u d)
    unfolding found
    leaf_finds n p f u d s =
        rw (walk_at a (map_of m) (laws m) w f RETURN u d (instruction_of RETURN n p) (leaf_fetched p n s) refl)
        record { kind = refl; number = refl }

    fork_finds : (x : Bool) (t v : Shape) (p f u d : ℕ) → eqb (a u) 1 ≡ x → u < w → (s : Stands p (Fork t v))
        → Finds t (suc u) (Walk f (p + length (J p t v s)) (suc u) d)
        → Finds v (suc u) (Walk f (p + length (J p t v s) + length (bits_of t)) (suc u) d)
        → Finds (Fork t v) u (Walk (suc f) p u d)
    unfolding found enough
    fork_finds true t v p f u d e h s l r =
        rw (walk_at a (map_of m) (laws m) w f JUMP u d (instruction_of JUMP (length (bits_of t)) p) (fork_fetched p t v s) refl, lt-ltb u w h, e)
        record { kind = r.kind; number = rw e r.number }
    fork_finds false t v p f u d e h s l r =
        rw (walk_at a (map_of m) (laws m) w f JUMP u d (instruction_of JUMP (length (bits_of t)) p) (fork_fetched p t v s) refl, lt-ltb u w h, e)
        record { kind = l.kind; number = rw e l.number }

    -- a walk from where the shape stands finds what the address finds in it
    pub walk_of : (t : Shape) (p f u d : ℕ) → length (bits_of t) ≤ f → u + depth t ≤ w → Stands p t → Finds t u (Walk f p u d)
    walk_of t p zero u d h k s = absurd (omega (arith, shape-length t))
    walk_of (Leaf n) p (suc f) u d h k s = leaf_finds n p f u d s
    walk_of (Fork t v) p (suc f) u d h k s =
        let l = fork-length t v in
        let j = shape-length t in
        let i = shape-length v in
        let o : 1 ≤ length (J p t v s) = omega (arith, instruction-length JUMP (length (bits_of t)) (omega arith)) in
        fork_finds (eqb (a u) 1) t v p f u d refl (omega arith) s
        (walk_of t (p + length (J p t v s)) f (suc u) d (omega arith) (omega (arith, le-max_left (depth t) (depth v))) (fork-zero p t v s))
        (walk_of v (p + length (J p t v s) + length (bits_of t)) f (suc u) d (omega arith) (omega (arith, le-max_right (depth t) (depth v))) (fork_one p t v s))
