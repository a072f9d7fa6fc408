-- What a reader owns, what its map owns, and how one is had from the other; and a reader's machine value.
-- Assumes nothing.
use mathlib.Core.Path.{◌≡◌, refl}
use Prim.Native.Nat.{ℕ, ◌<◌, ◌^◌}
use mathlib.Core.List.{List, [], ◌∷◌}
use lib.ListN.{length}
use seplogic.Ra.Ura.{Ura}
use mir.Syntax.{named, w64}
use mir.Val.{Val, vstruct}
use base.Logic.{ent}
use base.Fml.{Fml}
use types.Logic.{Logic, sem}
use contract.Lifetimes.{Lfts}
use types.Kit.{‵, given, ◌⊛◌, ◌$◌, ◌∵◌, !, qed, by, move, drop, use1, split, learn, fjoin, done}
use denote.RattleType.{RattleType}
use denote.Laws.{Is, Tells, Typed}
use denote.Plain.{uint_Makes}
use denote.Builtin.{u8, usize}
use denote.Ref.{Bor, NamedLft}
use denote.Signature.{named_lft}
use denote.Slice.{slice_val, ShrSlice}
use denote.Steps.{nothing, owned}
use denote.Struct.At.{spelled}
use denote.Struct.Laws as LL
use denote.Struct.Rest.{all_own, rest, own_open, own_out, own_shut}
use Rattle.asmap_reader.specs.declared.BitReader.{BitReader}
use Rattle.asmap_reader.specs.declared.Read.{Read}
use Rattle.asmap_reader.specs.contracts.BitReader as T
use Rattle.asmap_reader.proofs.BitReader.TheLaws as T'
use Rattle.asmap_reader.specs.contracts.Read as R
use Rattle.asmap_reader.proofs.Read.TheLaws as R'

-- the one lifetime of a signature, and a reader's type at it
abbrev pub lft : Lfts 1 → NamedLft
lft κs = named_lft 1 0 tt κs

abbrev pub Reader : Lfts 1 → RattleType
Reader κs = T.the_row (lft κs)

-- the machine values of a slice and of a reader
abbrev pub bytes : Bor (List ℕ) → List Val
bytes s = slice_val s.ref_ptr (length s.now) ∷ []

abbrev pub machine : BitReader → List Val
machine d = T'.lowered d ∷ []

-- that a reader has no other
abbrev pub reader_vals : Lfts 1 → BitReader → List Val
reader_vals κs = LL.vals (T.the_type (lft κs)) (T'.the_laws (lft κs))

pub reader_tells : (κs : Lfts 1) → Tells (Reader κs) (Is (Reader κs)) (reader_vals κs)
reader_tells κs = LL.tells (T.the_type (lft κs)) (T'.the_laws (lft κs))

-- a reader of the same map at n
pub reader_at : (κs : Lfts 1) (d : BitReader) → Is (Reader κs) d (machine d) → (n : ℕ) → n < 2 ^ 64 → Is (Reader κs) (record { map = d.map; at = n }) (machine (record { map = d.map; at = n }))
reader_at κs d is n ok = LL.owes (T.the_type (lft κs)) (T'.the_laws (lft κs)) (record { map = d.map; at = n }) ((LL.owed (T.the_type (lft κs)) (T'.the_laws (lft κs)) d _ is).0, ((refl, ok), tt))

module _ {M : Type 1} {𝓤 : Ura M} (𝓛 : Logic 𝓤) where
  pub reader_typed : (α : NamedLft) (d : BitReader) (vs : List Val) → Is (T.the_row α) d vs → Typed (T.the_row α).mir vs
  reader_typed α d vs is = (LL.lawful (T.the_type α) (T'.the_laws α) 𝓛).typed d vs is

  module _ (κs : Lfts 1) where
    -- what a map owns
    abbrev pub Map : Bor (List ℕ) → Fml
    Map s = (ShrSlice (named 0) κs.0 u8).own_val s (bytes s)

    -- from a reader to its map
    pub map_of : (d : BitReader) → ent 𝓤 (sem 𝓛 ((Reader κs).own_val d (machine d))) (sem 𝓛 (Map d.map))
    map_of d =
        let D = T.the_type (lft κs) in
        let L = T'.the_laws (lft κs) in
        qed 𝓛 (‵ ((Reader κs).own_val d (machine d)) ∷ []) ∵
        use1 𝓛 (given (machine d ≡ machine d) (‵ (all_own D.parts L (d.map, (d.at, tt))))) (own_open 𝓛 D L (d.map, (d.at, tt)) (T'.lowered d)) $ learn ! (λ _.
        use1 𝓛 (‵ (Map d.map) ⊛ ‵ (rest D.parts L 0 (d.map, (d.at, tt)))) (own_out 𝓛 D.parts L 0 (d.map, (d.at, tt))) $ split ! $ move ! (1 ∷ []) $ drop ! $ done !)

    -- from a map to a reader of it
    pub reader_of : (d : BitReader) → d.at < 2 ^ 64 → ent 𝓤 (sem 𝓛 (Map d.map)) (sem 𝓛 ((Reader κs).own_val d (machine d)))
    reader_of d ok =
        qed 𝓛 (‵ (Map d.map) ∷ []) ∵
        nothing ! $ owned ! usize (Is usize) (uint_Makes 𝓛 w64) d.at _ (refl, ok) $ fjoin ! $ move ! (1 ∷ 0 ∷ []) $ fjoin ! $ by ! (own_shut 𝓛 (T.the_type (lft κs)) (T'.the_laws (lft κs)) (d.map, (d.at, tt)))

    -- from what a read hands back to its reader
    pub reader-back : (r : Read) (u : Val) → ent 𝓤 (sem 𝓛 ((R.the_row (lft κs)).own_val r (u ∷ []))) (sem 𝓛 ((Reader κs).own_val r.reader (machine r.reader)))
    reader-back r u =
        let D = R.the_type (lft κs) in
        let L = R'.the_laws (lft κs) in
        qed 𝓛 (‵ ((R.the_row (lft κs)).own_val r (u ∷ [])) ∷ []) ∵
        use1 𝓛 (given (u ∷ [] ≡ vstruct (spelled D.parts L (r.got, (r.reader, tt))) ∷ []) (‵ (all_own D.parts L (r.got, (r.reader, tt))))) (own_open 𝓛 D L (r.got, (r.reader, tt)) u) $ learn ! (λ _.
        use1 𝓛 (‵ ((Reader κs).own_val r.reader (machine r.reader)) ⊛ ‵ (rest D.parts L 1 (r.got, (r.reader, tt)))) (own_out 𝓛 D.parts L 1 (r.got, (r.reader, tt))) $ split ! $ move ! (1 ∷ []) $ drop ! $ done !)
