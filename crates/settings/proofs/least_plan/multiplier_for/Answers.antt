-- `multiplier_for` meets its contract: rounding up by `div_ceil` is the quotient of the sum with one less than the divisor.
use mathlib.Core.Path.{◌≡◌, sym}
use Prim.Native.Nat.{ℕ, ◌+◌, ◌-◌, ◌/◌, ◌<◌}
use native.Mathlib.{Nat.div-eq_of_lt-le, Omega.arith}
use Rattle.std.specs.Int.{div_ceil}
use Rattle.std.proofs.lemmas.Grind.{div_ceil_times}
use Rattle.settings.specs.LeastPlan.{multiplier_for}
use Rattle.settings.proofs.least_plan.multiplier_for.Goals as goal

rounded-up : (n k : ℕ) → 0 < k → div_ceil n k ≡ (n + (k - 1)) / k
rounded-up n k some =
    let q : ℕ = div_ceil n k in
    let h = div_ceil_times n k some in
    sym (div-eq_of_lt-le {k = q} k (omega (arith, h.1)) (omega (arith, h.0)))

pub returns-else-khz-eq0 : goal.returns-else-khz-eq0
unfolding multiplier_for
returns-else-khz-eq0 c =
    let up = rounded-up c.saturating_sub-least.result c.from-khz.result (omega arith) in
    rw (c.div_ceil.ensures, up, c.saturating_sub-least.ensures, c.from-khz.ensures)
