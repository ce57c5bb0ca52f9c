-- The lengths in bytes that a sheet may have.
use Rattle.std.specs.Prelude.{ℕ, ◌%◌, Bool, ◌||◌, not, eqb, ltb}
use Rattle.step.specs.Sheet.{max_bytes}

-- No sheet has a length over that of 66 steps or one that is not a multiple of 8.
abbrev pub bad_size : ℕ → Bool
bad_size n = ltb max_bytes n || not (eqb (n % 8) 0)
