-- The words of a line and the numbers that they are (oracle/src/bin/replay_vectors, "The list": numbers are little-endian).
-- Assumes nothing.
use Rattle.std.specs.Prelude.{ℕ, ◌+◌, ◌-◌, ◌*◌, ◌%◌, true, false, cond, Option, Some, None, List, [], ◌∷◌, ltb, eqb, length, take, drop, get_or, set, replicate}
use Rattle.replay_words.specs.declared.Words.{Words}

-- A line before its first word.
abbrev pub no_words : Words
no_words = record { count = 0; unread = false; ends = replicate 10 0; last = 0 }

-- A word more, whose bytes lie from the last place to a further one; a tenth is not kept, and one that cannot be read is marked.
abbrev pub with_word : Words → Option ℕ → Words
with_word w None = record { count = w.count; unread = true; ends = w.ends; last = w.last }
with_word w (Some place) =
    cond (ltb w.count 9) (record { count = w.count + 1; unread = w.unread; ends = set w.ends (w.count + 1) place; last = place }) w

-- The place of the first such byte in bytes that begin at a place; behind the last where there is none.
unfoldable pub place_of : ℕ → List ℕ → ℕ → ℕ
place_of at [] byte = at
place_of at (b ∷ bs) byte = cond (eqb b byte) at (place_of (at + 1) bs byte)

-- A number with a byte more below it, in 64 bits: what they cannot hold is lost at the top.
abbrev pub below : ℕ → ℕ → ℕ
below x byte = x % 72057594037927936 * 256 + byte

-- The number that bytes are, little-endian, in 64 bits.
unfoldable pub number_of : List ℕ → ℕ
number_of [] = 0
number_of (b ∷ bs) = below (number_of bs) b

-- The bytes from one place to another; none where these are no such places.
abbrev pub between : List ℕ → ℕ → ℕ → List ℕ
between bytes from to = cond (ltb (length bytes) to) [] (cond (ltb to from) [] (take (to - from) (drop from bytes)))

-- The bytes of a line's word, the first being number 0: each word lies from one of the line's places to the next.
abbrev pub word_of : List ℕ → Words → ℕ → List ℕ
word_of bytes words i = between bytes (get_or words.ends i 0) (get_or words.ends (i + 1) 0)
