-- The settling cycles take at least the settling time at the ring's frequency.
use Rattle.std.specs.Prelude.{◌≡◌, refl, ℕ, ◌*◌, ◌≤◌, eqb}
use native.Mathlib.{Nat.le_refl, Nat.mul-le-mul, Omega.arith}
use borrow.Author.Tests.{eqb-true}
use Rattle.base.proofs.Bools.{either_way}
use Rattle.divider.specs.Delay.{cycles_per_us, settling_cycles}

-- The cycles per microsecond take at least a microsecond.
covers : (hz : ℕ) → hz ≤ cycles_per_us hz * 1000000
unfolding cycles_per_us
covers hz = either_way (eqb hz 0) (λ e. rw e (omega (arith, eqb-true hz 0 e))) (λ e. rw e (omega arith))

-- Cycles × 1000000 ≥ time × ring Hz, for every time and ring.
pub settles : (time hz : ℕ) → time * hz ≤ settling_cycles time hz * 1000000
unfolding settling_cycles
settles time hz = omega (arith, mul-le-mul (le_refl time) (covers hz))

-- Without a ring there are 12 cycles for each microsecond.
pub settles-ringless : (time : ℕ) → settling_cycles time 0 ≡ time * 12
unfolding settling_cycles cycles_per_us
settles-ringless time = refl
