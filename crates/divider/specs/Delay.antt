-- The crystal's startup delay and the settling delay of the core voltage (docs/FORMAT.md, Frequencies and delays).
use Rattle.std.specs.Prelude.{ℕ, ◌+◌, ◌*◌, ◌/◌, eqb}
use Rattle.base.specs.Choice.{pick}

-- The startup delay is ((Hz / 1000) × multiplier + 128) / 256, rounded down at each division. This is the sum in it.
unfoldable pub startup_sum : ℕ → ℕ → ℕ
startup_sum hz multiplier = hz / 1000 * multiplier + 128

-- The startup delay itself; a plan with a delay over 16383 is refused with 4.
abbrev pub delay_of : ℕ → ℕ → ℕ
delay_of hz multiplier = startup_sum hz multiplier / 256

-- Cycles per microsecond are the ring's MHz rounded up, or 12 where the stored ring frequency is 0.
unfoldable pub cycles_per_us : ℕ → ℕ
cycles_per_us hz = pick (eqb hz 0) 12 ((hz + 999999) / 1000000)

-- The cycles of a settling time in µs; a plan with cycles over 32 bits is refused with 3.
unfoldable pub settling_cycles : ℕ → ℕ → ℕ
settling_cycles time hz = time * cycles_per_us hz
