-- The number of each refusal (document 01, "What a call hands back", and document 02), which callers in C are handed.
-- Assumes nothing.
use Rattle.std.specs.Prelude.{ℕ, ◌+◌, Result, Ok, Err}
use Rattle.refusals.specs.declared.Fault.{Fault}
use Rattle.refusals.specs.declared.Fault.TheVariants.{MapTooLong, MapEnds, PastTarget, CutOpcode, AfterDefault, Padding, NotAtTarget, NoBits, TargetsCross, ShortMatches, CutOperand}
use Rattle.refusals.specs.declared.Refusal.{Refusal}
use Rattle.refusals.specs.declared.Refusal.TheVariants.{Map, NewMap, AddressLength, TooMany, Candidate, OutputTooShort, OutOfRange, Record, RelayLength, Width, Load, Prefix, Number}

-- What is wrong with a map. "19 where the operand is cut; 4 keeps the opcode" (document 02, CR 5).
abbrev pub fault_number : Fault → ℕ
fault_number MapTooLong = 1
fault_number MapEnds = 2
fault_number PastTarget = 3
fault_number CutOpcode = 4
fault_number AfterDefault = 5
fault_number Padding = 6
fault_number NotAtTarget = 7
fault_number NoBits = 8
fault_number TargetsCross = 9
fault_number ShortMatches = 10
fault_number CutOperand = 19

-- Why a call is refused. The new one of two maps has its check's number and 100 more.
abbrev pub refusal_number : Refusal → ℕ
refusal_number (Map f) = fault_number f
refusal_number (NewMap f) = 100 + fault_number f
refusal_number AddressLength = 11
refusal_number TooMany = 12
refusal_number Candidate = 13
refusal_number OutputTooShort = 14
refusal_number OutOfRange = 15
refusal_number Record = 16
refusal_number RelayLength = 17
refusal_number Width = 18
refusal_number Load = 20
refusal_number Prefix = 21
refusal_number Number = 22

-- What a call comes to that is refused for its map's fault, and else answers.
abbrev pub of_map : {A : Type 0} → Result A Fault → Result A Refusal
of_map (Ok a) = Ok a
of_map (Err f) = Err (Map f)
