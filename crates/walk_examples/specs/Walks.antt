-- Document 01's examples of the walk, as one list ("Examples to hold to"). `8b` and `fb` are of document 02, CR 5: the one is cut in an
-- opcode, behind a MATCH, the other in its operand.
-- Assumes nothing.
use Rattle.std.specs.Prelude.{ℕ, zero, suc, List, [], ◌∷◌, Result, Ok}
use Rattle.asmap_program.specs.declared.Kind.{Kind}
use Rattle.asmap_program.specs.declared.Kind.TheVariants.{Returned, Differed, OpcodeCut, OperandCut}
use Rattle.asmap_program.specs.Map.{ipv4_mapped}
use Rattle.asmap_walk.specs.Interpret.{interpret_of}
use Rattle.asmap_walk_bits.specs.declared.Ending.{Ending}
use Rattle.refusals.specs.declared.Refusal.{Refusal}

-- a map's bytes, an address's, and what the call hands back of the walk
pub record Example : Type 0 where
  pub bytes : List ℕ
  pub address : List ℕ
  pub kind : Kind
  pub number : ℕ
  pub count : ℕ
  pub bits : ℕ

abbrev pub zeros : List ℕ
zeros = 0x00 ∷ 0x00 ∷ 0x00 ∷ 0x00 ∷ 0x00 ∷ 0x00 ∷ 0x00 ∷ 0x00 ∷ 0x00 ∷ 0x00 ∷ 0x00 ∷ 0x00 ∷ 0x00 ∷ 0x00 ∷ 0x00 ∷ 0x00 ∷ []

abbrev pub two_prefix : List ℕ
two_prefix = 0xfb ∷ 0x03 ∷ 0xec ∷ 0x0f ∷ 0xb0 ∷ 0x3f ∷ 0xc0 ∷ 0xfe ∷ 0x00 ∷ 0xfb ∷ 0x03 ∷ 0xec ∷ 0x0f ∷ 0xb0 ∷ 0x3f ∷ 0xc0 ∷ 0xfe ∷ 0x00 ∷ 0xfb ∷ 0x03 ∷ 0xec ∷ 0x0f ∷ 0xb0 ∷ 0xff ∷ 0xff ∷ 0xfe ∷ 0xff ∷ 0xfb ∷ 0x80 ∷ 0x00 ∷ 0x00 ∷ 0x00 ∷ 0x00 ∷ 0x00 ∷ 0x01 ∷ []

-- n times DEFAULT 1 and a MATCH of one bit, 0, then RETURN 1
unfoldable pub pairs : ℕ → List ℕ
pairs zero = 0x00 ∷ 0x00 ∷ 0x00 ∷ []
pairs (suc n) = 0x07 ∷ 0x00 ∷ 0x18 ∷ pairs n

abbrev pub walks : List Example
walks =
    record { bytes = 0x01 ∷ []; address = zeros; kind = OpcodeCut; number = 0; count = 1; bits = 1 }
    ∷ record { bytes = 0x8b ∷ []; address = zeros; kind = OpcodeCut; number = 0; count = 1; bits = 2 }
    ∷ record { bytes = 0xfb ∷ []; address = zeros; kind = OperandCut; number = 0; count = 0; bits = 0 }
    ∷ record { bytes = 0x00 ∷ 0x00 ∷ 0x00 ∷ []; address = zeros; kind = Returned; number = 1; count = 1; bits = 0 }
    ∷ record { bytes = two_prefix; address = ipv4_mapped (1 ∷ 2 ∷ 0 ∷ 0 ∷ []); kind = Returned; number = 1; count = 15; bits = 103 }
    ∷ record { bytes = two_prefix; address = ipv4_mapped (3 ∷ 4 ∷ 0 ∷ 0 ∷ []); kind = Returned; number = 2; count = 15; bits = 103 }
    ∷ record { bytes = two_prefix; address = ipv4_mapped (8 ∷ 8 ∷ 8 ∷ 8 ∷ []); kind = Differed; number = 0; count = 13; bits = 101 }
    ∷ record { bytes = pairs 128; address = zeros; kind = Returned; number = 1; count = 257; bits = 128 }
    ∷ []

-- what the definition hands back, and what the list says
abbrev pub computed : Example → Result Ending Refusal
computed x = interpret_of x.bytes x.address

abbrev pub expected : Example → Result Ending Refusal
expected x = Ok (record { kind = x.kind; number = x.number; count = x.count; bits = x.bits })
