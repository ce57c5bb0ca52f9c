-- The frequency of a divided clock (docs/FORMAT.md, Frequencies and delays).
use Rattle.std.specs.Prelude.{ℕ, ◌+◌, ◌*◌, ◌/◌}

-- Source × scale / (whole × scale + fraction), rounded down; `n / 0` is 0. The scale of the fraction is 256 on the RP2040 and
-- 65536 on the RP235x.
unfoldable pub divided_hz : ℕ → ℕ → ℕ → ℕ → ℕ
divided_hz scale source whole fraction = source * scale / (whole * scale + fraction)
