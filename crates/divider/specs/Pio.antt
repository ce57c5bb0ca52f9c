-- The clock divider of a PIO state machine, the Rust's `calculate_pio_clock_divider_value` (docs/FORMAT.md, PIO divider).
use Rattle.std.specs.Prelude.{ℕ, ◌*◌, ◌/◌, eqb}
use Rattle.base.specs.{Choice.pick, Choice.in_range, Answer.Answer, Answer.value, Answer.refusal, Widths.u24}

-- System × 256 / target, rounded down, must be 256 to 16777215 (24 bits); else, and for a target of 0, the answer is 17.
unfoldable pub pio_of : ℕ → ℕ → Answer ℕ
pio_of system target =
    pick (eqb target 0) (refusal 17)
    (pick (in_range 256 u24 (system * 256 / target)) (value (system * 256 / target)) (refusal 17))
