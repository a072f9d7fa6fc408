-- Small maps, each with what it lists (document 02, CR 1): a prefix as the number that its bits are, its length, the number. And the bytes of
-- two listings.
-- Assumes nothing.
use Rattle.std.specs.Prelude.{ℕ, List, [], ◌∷◌}
use Rattle.prefix_records.specs.Tiling.{Piece}
use Rattle.asmap_listing.specs.Listing.{piece}

-- A lone RETURN gives one piece. A JUMP gives its end's list, then its target's. A MATCH bit of 1 has the side that differs before what follows, with
-- 0 where no DEFAULT was met. DEFAULT 5, MATCH 10, RETURN 7: a bit of 1, before; a bit of 0, after. DEFAULT 5 before a JUMP holds in its second
-- half too.
abbrev pub examples : List (List ℕ × List Piece)
examples =
    ((0x00 ∷ 0x00 ∷ 0x00 ∷ []), (piece 0 0 1 ∷ []))
    ∷ ((0x01 ∷ 0x00 ∷ 0x00 ∷ 0x00 ∷ 0x00 ∷ 0x02 ∷ []), (piece 0 1 1 ∷ piece 1 1 2 ∷ []))
    ∷ ((0x13 ∷ 0x00 ∷ 0x20 ∷ []), (piece 0 1 0 ∷ piece 1 1 2 ∷ []))
    ∷ ((0x07 ∷ 0x00 ∷ 0x59 ∷ 0x01 ∷ 0x00 ∷ 0x03 ∷ []), (piece 0 1 5 ∷ piece 2 2 7 ∷ piece 3 2 5 ∷ []))
    ∷ ((0x07 ∷ 0x00 ∷ 0x09 ∷ 0x00 ∷ 0x00 ∷ 0x30 ∷ 0x00 ∷ 0x00 ∷ 0x02 ∷ []), (piece 0 1 1 ∷ piece 2 2 2 ∷ piece 3 2 5 ∷ []))
    ∷ []

-- The records of the first and of the third.
abbrev pub written : List (List ℕ × List ℕ)
written =
    ((0x00 ∷ 0x00 ∷ 0x00 ∷ []), (0 ∷ 0 ∷ 0 ∷ 0 ∷ 0 ∷ 0 ∷ 0 ∷ 0 ∷ 0 ∷ 0 ∷ 0 ∷ 0 ∷ 0 ∷ 0 ∷ 0 ∷ 0 ∷ 0 ∷ 0 ∷ 0 ∷ 0 ∷ 1 ∷ 0 ∷ 0 ∷ 0 ∷ []))
    ∷ (
      (0x13 ∷ 0x00 ∷ 0x20 ∷ []),
      (0 ∷ 0 ∷ 0 ∷ 0 ∷ 0 ∷ 0 ∷ 0 ∷ 0 ∷ 0 ∷ 0 ∷ 0 ∷ 0 ∷ 0 ∷ 0 ∷ 0 ∷ 0 ∷ 1 ∷ 0 ∷ 0 ∷ 0 ∷ 0 ∷ 0 ∷ 0 ∷ 0
          ∷ 0x80 ∷ 0 ∷ 0 ∷ 0 ∷ 0 ∷ 0 ∷ 0 ∷ 0 ∷ 0 ∷ 0 ∷ 0 ∷ 0 ∷ 0 ∷ 0 ∷ 0 ∷ 0 ∷ 1 ∷ 0 ∷ 0 ∷ 0 ∷ 2 ∷ 0 ∷ 0 ∷ 0 ∷ []),
    )
    ∷ []
