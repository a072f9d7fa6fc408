-- Where the next record may begin at the earliest, as code holds it. Assumes nothing.
use Rattle.std.specs.Prelude.{ℕ, ◌%◌, ◌^◌, ◌≤◌, ◌≡◌, Bool, not, ◌&&◌, ◌||◌, eqb, leb}
use Rattle.prefix_records.specs.declared.Address.{Address}
use Rattle.prefix_records.specs.models.Cursor.{value_of}

-- The address a stands for the number e; 0 also stands for the one behind all addresses.
abbrev pub Ends : ℕ → Address → Type 0
Ends e a = (value_of a ≡ e % 2 ^ 128) × (e ≤ 2 ^ 128)

-- Whether record i may begin at the address x where e is held as its earliest: the first one may begin anywhere, none behind all addresses.
abbrev pub may_begin : ℕ → ℕ → ℕ → Bool
may_begin i e x = eqb i 0 || (not (eqb e 0) && leb e x)
