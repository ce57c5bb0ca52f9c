-- `RightMargin` leaves no choice: two answers that are right are equal.
use Rattle.std.specs.Prelude.{Option, Some, None, ◌≡◌, refl, ℕ, ◌<◌}
use mathlib.Core.Path.{sym, ap, ◌∙◌}
use native.Mathlib.Omega.{arith}
use Rattle.base.specs.Answer.{Answer, value, refusal}
use Rattle.margin.specs.{declared.Margin.Margin, Law.RightLower, Law.RightHigher, Law.RightMargin}

module _ (input target : ℕ) where
  lower-unique : (l m : Option ℕ) → RightLower input target l → RightLower input target m → l ≡ m
  lower-unique (Some l) (Some m) h k =
      let a : l < m → ⊥ = λ e. k.1 (h.2 m e (omega (arith, k.0))) in
      let b : m < l → ⊥ = λ e. h.1 (k.2 l e (omega (arith, h.0))) in
      let e : l ≡ m = omega arith in
      ap Some e
  lower-unique (Some l) None h k = absurd (h.1 (k l (omega (arith, h.0))))
  lower-unique None (Some m) h k = absurd (k.1 (h m (omega (arith, k.0))))
  lower-unique None None h k = refl

  higher-unique : (l m : Option ℕ) → RightHigher input target l → RightHigher input target m → l ≡ m
  higher-unique (Some l) (Some m) h k =
      let a : l < m → ⊥ = λ e. h.2 (k.3 l (omega (arith, h.0)) e) in
      let b : m < l → ⊥ = λ e. k.2 (h.3 m (omega (arith, k.0)) e) in
      let e : l ≡ m = omega arith in
      ap Some e
  higher-unique (Some l) None h k = absurd (h.2 (k l (omega (arith, h.0)) h.1))
  higher-unique None (Some m) h k = absurd (k.2 (h m (omega (arith, k.0)) k.1))
  higher-unique None None h k = refl

  pub margin-unique : (a b : Answer Margin) → RightMargin input target a → RightMargin input target b → a ≡ b
  margin-unique (value s) (value t) h k =
      let l = lower-unique s.lower t.lower h.1 k.1 in
      let g = higher-unique s.higher t.higher h.2 k.2 in
      ap value (λ i. record { lower = l i; higher = g i })
  margin-unique (value s) (refusal n) h k = let z = sym k.1 ∙ h.0.1 in cc
  margin-unique (refusal n) (value t) h k = let z = sym h.1 ∙ k.0.1 in cc
  margin-unique (refusal n) (refusal m) h k = ap refusal (h.0 ∙ sym k.0)
