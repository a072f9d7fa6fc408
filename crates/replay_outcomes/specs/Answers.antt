-- An answer as the list of answers has it, and what is seen of it (oracle/src/bin/replay_vectors, "The list").
-- Assumes nothing.
use Rattle.std.specs.Prelude.{ℕ, zero, suc, ◌+◌, ◌/◌, ◌%◌, Bool, true, false, cond, List, ltb, take, set, replicate}
use Rattle.candidate_bytes.specs.Candidate.{same}
use Rattle.replay_outcomes.specs.declared.Seen.{Seen}
use Rattle.replay_outcomes.specs.declared.Seen.TheVariants.{Same, Differs}
use Rattle.replay_outcomes.specs.declared.Out.{Out}

-- An answer of ours is its first n bytes. A byte more stands behind them; no answer has more than 40.
abbrev pub with_byte : Out → ℕ → Out
with_byte out x = cond (ltb out.n 40) (record { bytes = set out.bytes out.n x; n = out.n + 1 }) out

-- A number more, little-endian, in so many bytes.
unfoldable pub with_number : ℕ → Out → ℕ → Out
with_number zero out x = out
with_number (suc k) out x = with_number k (with_byte out (x % 256)) (x / 256)

-- An answer begins with a byte: the refusal's number, or 0 of a call that is done; its results come behind it.
abbrev pub begun_with : ℕ → Out
begun_with x = with_byte (record { bytes = replicate 40 0; n = 0 }) x

abbrev pub seen_as : Bool → Seen
seen_as true = Same
seen_as false = Differs

-- Our answer beside the list's: the same, byte for byte, or not.
abbrev pub compared_to : Out → List ℕ → Seen
compared_to out answer = cond (ltb 40 out.n) Differs (seen_as (same (take out.n out.bytes) answer))

-- What came of an answer, with whether a call left its output as the list has it.
abbrev pub and_left : Seen → Bool → Seen
and_left seen left = cond left seen Differs
