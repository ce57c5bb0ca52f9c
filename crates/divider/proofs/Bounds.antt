-- A divided clock has at most the frequency of its source.
use Prim.Native.Nat.{ℕ, ◌+◌, ◌*◌, ◌≤◌}
use native.Mathlib.{Nat.le_refl, Nat.mul-le-mul, Nat.div-le_of_le-mul, Omega.arith}
use Rattle.base.proofs.Products.{product-most}
use Rattle.divider.specs.Clock.{divided_hz}

-- This holds for a whole part of at least 1, as the divider is then at least the scale.
pub divided-le : (scale source whole fraction : ℕ) → 1 ≤ whole → divided_hz scale source whole fraction ≤ source
unfolding divided_hz
divided-le scale source whole fraction h =
    let least : 1 * scale ≤ whole * scale = mul-le-mul h (le_refl scale) in
    let more : scale ≤ whole * scale + fraction = omega arith in
    div-le_of_le-mul (whole * scale + fraction) (omega (arith, mul-le-mul more (le_refl source)))

-- What bounds the products and the quotients of this crate.
pub ruleset bounds = (product-most, divided-le)
