-- The product of two 32-bit numbers fits 64 bits.
use Prim.Native.Nat.{ℕ, ◌*◌, ◌≤◌, ◌<◌}
use native.Mathlib.{Nat.mul-le-mul, Omega.arith}

-- the largest product is 2 ^ 33 - 1 below 2 ^ 64
pub product-most : (a b : ℕ) → a < 4294967296 → b < 4294967296 → a * b ≤ 18446744065119617025
product-most a b ha hb = mul-le-mul {n₂ = 4294967295} {m₂ = 4294967295} (omega arith) (omega arith)
