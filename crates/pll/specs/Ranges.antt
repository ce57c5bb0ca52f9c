-- The ranges of the numbers of a PLL (docs/PLL.md, Valid PLLs), ends included.
use Rattle.std.specs.Prelude.{ℕ}

-- the reference frequency: 5 to 800 MHz
abbrev pub reference_min : ℕ
reference_min = 5000000

abbrev pub reference_max : ℕ
reference_max = 800000000

-- the feedback divider: 16 to 320
abbrev pub feedback_min : ℕ
feedback_min = 16

abbrev pub feedback_max : ℕ
feedback_max = 320

-- the VCO frequency: 750 to 1600 MHz
abbrev pub vco_min : ℕ
vco_min = 750000000

abbrev pub vco_max : ℕ
vco_max = 1600000000
