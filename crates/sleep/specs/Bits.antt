-- Fields of a register word, and the fields that show whether a PLL or the crystal runs (docs/SLEEP.md).
use Rattle.std.specs.Prelude.{ℕ, ◌+◌, ◌*◌, ◌/◌, ◌%◌, ◌^◌, Bool, ◌&&◌, not, eqb}

-- the field of size bits from bit low up
abbrev pub field : ℕ → ℕ → ℕ → ℕ
field low size w = w / 2 ^ low % 2 ^ size

-- the word with that field set to v
abbrev pub with_field : ℕ → ℕ → ℕ → ℕ → ℕ
with_field low size v w = w / 2 ^ (low + size) * 2 ^ (low + size) + v * 2 ^ low + w % 2 ^ low

-- PLL PWR with PD and VCOPD set to 1
abbrev pub pll_off : ℕ → ℕ
pll_off w = with_field 5 1 1 (with_field 0 1 1 w)

-- a PLL runs where neither PD nor VCOPD is 1
abbrev pub pll_runs : ℕ → Bool
pll_runs w = eqb (field 0 1 w) 0 && eqb (field 5 1 w) 0

-- the crystal runs unless its ENABLE is DISABLE
abbrev pub crystal_runs : ℕ → Bool
crystal_runs w = not (eqb (field 12 12 w) 0xd1e)
