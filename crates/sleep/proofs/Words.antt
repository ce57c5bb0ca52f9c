-- Shifts and masks of a 32-bit word are expressed by `*`, `/`, `%` and `+`.
use mathlib.Core.Path.{◌≡◌, ap, ◌∙◌}
use Prim.Native.Nat.{ℕ, ◌+◌, ◌-◌, ◌*◌, ◌/◌, ◌%◌, ◌^◌, ◌<◌}
use native.Mathlib.{Nat.one-mul, Nat.mod-lt, Omega.arith}
use lib.{Arith.digits_lt, Bits.bit_and, Bits.and_mask, Pow.pow_pos, Pow.pow-add, Pow.shr_lt, Pow.shl_exact}
use Rattle.sleep.specs.Bits.{with_field}

-- `1 << w`
pub one_shl : (w : ℕ) → w < 32 → (1 * 2 ^ w) % 2 ^ 32 ≡ 2 ^ w
one_shl w h = shl_exact {a = 1} 1 w 32 (omega arith) (omega arith) ∙ one-mul (2 ^ w)

-- `x & ((1 << w) - 1)`
pub low_bits : (x w : ℕ) → w < 32 → bit_and x ((1 * 2 ^ w) % 2 ^ 32 - 1) ≡ x % 2 ^ w
low_bits x w h = ap (λ (m : ℕ). bit_and x (m - 1)) (one_shl w h) ∙ and_mask x w

module _ (low size v w : ℕ) (inside : low + size < 32) (small : v < 2 ^ size) (word : w < 4294967296) where
  abbrev above : ℕ
  above = low + size

  high_lt : w / 2 ^ above < 2 ^ (32 - above)
  high_lt =
      let n : (32 - above) + above ≡ 32 = omega arith in
      shr_lt (32 - above) above (rw n (omega arith))

  -- `(w >> above) << above`
  pub high_exact : (w / 2 ^ above * 2 ^ above) % 2 ^ 32 ≡ w / 2 ^ above * 2 ^ above
  high_exact = shl_exact (32 - above) above 32 high_lt (omega arith)

  -- `v << low`
  pub value_exact : (v * 2 ^ low) % 2 ^ 32 ≡ v * 2 ^ low
  value_exact = shl_exact size low 32 small (omega arith)

  rest_lt : v * 2 ^ low + w % 2 ^ low < 2 ^ above
  rest_lt =
      let n : 2 ^ above ≡ 2 ^ size * 2 ^ low = ap (λ (k : ℕ). 2 ^ k) (omega arith) ∙ pow-add 2 size low in
      rw n (digits_lt small (mod-lt w (pow_pos low)))

  -- the result fits 32 bits
  pub word_fits : with_field low size v w < 4294967296
  word_fits =
      let n : 32 ≡ (32 - above) + above = omega arith in
      let all : 2 ^ 32 ≡ 2 ^ (32 - above) * 2 ^ above = ap (λ (k : ℕ). 2 ^ k) n ∙ pow-add 2 (32 - above) above in
      omega (arith, all, digits_lt high_lt rest_lt)
