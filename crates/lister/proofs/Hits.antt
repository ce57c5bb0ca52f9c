-- The settings with one feedback divider that give the target with no remainder are those whose post product is the
-- quotient of the VCO frequency and the target.
use Rattle.std.specs.Prelude.{◌≡◌, refl, [], ◌∷◌, map, Bool, true, false, ◌&&◌, ℕ, zero, suc, ◌+◌, ◌-◌, ◌*◌, ◌/◌, ◌%◌, ◌≤◌, ◌<◌}
use Rattle.std.specs.Prelude.{leb, eqb}
use mathlib.Core.{Path.sym, Path.◌∙◌, Path.ap, List.flat_map, Logic.⊎_elim}
use native.Mathlib.Omega.{arith}
use native.Mathlib.Nat.{eq-or-lt_of_le, eq_of_mul-eq-mul_left, div-one, div-add-mod', mul-mod_right, mul-div_cancel_left}
use borrow.Author.Tests.{le-leb, leb-true, eqb-true, eq-eqb, ne_eqb}
use Rattle.base.specs.Choice.{in_range}
use Rattle.std.proofs.lemmas.Bool.{and_parts, false_from_ne_true, false≢true}
use Rattle.base.proofs.Bools.{in-range}
use Rattle.pll.specs.Ranges.{reference_min, feedback_min, feedback_max, vco_min, vco_max}
use Rattle.pll.specs.Search.{falling, rising, setting, keep}
use Rattle.pll.specs.Law.{InVco, VcoPermits, HighestPermitted, LowestPermitted}
use Rattle.lister.specs.{Lister.meets, Lister.in_order, Lister.list_of, Order.at_post1, Order.at_feedback, Order.has_product}
use Rattle.lister.proofs.Walks.{same-feedback, none_kept, none-given, between}

-- two tests, each of which holds where the other does, are the same
same_test : (a b : Bool) → (a ≡ true → b ≡ true) → (b ≡ true → a ≡ true) → a ≡ b
same_test true b to from = sym (to refl)
same_test false b to from = sym (false_from_ne_true b (λ e. absurd (false≢true (from e))))

-- of the post 2 from n down to 1, at most one makes a product with post 1
module _ (fb p1 : ℕ) (positive : 1 ≤ p1) where
  no-product : (q n : ℕ) → ((k : ℕ) → 1 ≤ k → k ≤ n → p1 * k ≡ q → ⊥)
      → keep (has_product q) (map (setting fb p1) (falling n)) ≡ []
  unfolding keep falling
  no-product q zero h = refl
  no-product q (suc n) h =
      rw (ne_eqb (p1 * suc n) q (h (suc n) (omega arith) (omega arith)))
      (no-product q n (λ k lo hi. h k lo (omega arith)))

  one_product : (k n : ℕ) → 1 ≤ k → k ≤ n
      → keep (has_product (p1 * k)) (map (setting fb p1) (falling n)) ≡ setting fb p1 k ∷ []
  unfolding keep falling
  one_product k zero lo hi = absurd (omega arith)
  one_product k (suc n) lo hi =
      ⊎_elim
      (λ e. rw (
        e,
        eq-eqb (p1 * suc n) (p1 * suc n) refl,
        no-product (p1 * k) n (λ j l h m. let c = eq_of_mul-eq-mul_left p1 positive j k m in omega arith),
      ))
      (λ l. rw (ne_eqb (p1 * suc n) (p1 * k)
      (λ m. let c = eq_of_mul-eq-mul_left p1 positive (suc n) k m in omega arith))
      (one_product k n lo (omega arith)))
      (eq-or-lt_of_le hi)

  pub product_kept : (q : ℕ) → 1 ≤ q / p1 → q / p1 ≤ p1 → q % p1 ≡ 0
      → keep (has_product q) (at_post1 fb p1) ≡ setting fb p1 (q / p1) ∷ []
  product_kept q low high whole =
      let m : p1 * (q / p1) ≡ q = omega (arith, div-add-mod' q p1) in
      rw m at (one_product (q / p1) p1 low high)

  pub no-product-kept : (q : ℕ) → (1 ≤ q / p1 → q / p1 ≤ p1 → q % p1 ≡ 0 → ⊥)
      → keep (has_product q) (at_post1 fb p1) ≡ []
  no-product-kept q none =
      no-product q p1
      (λ k lo hi m.
      let d : q / p1 ≡ k = rw (← m) (mul-div_cancel_left k positive) in
      none (omega arith) (omega arith) (rw (← m) (mul-mod_right p1 k)))

module _ (input target fb : ℕ) where
  -- where no product gives the target, or the divider is not permitted, there is no setting
  pub none-meets : ((posts : ℕ) → reference_min ≤ input → feedback_min ≤ fb → InVco (input * fb)
      → target * posts ≡ input * fb → ⊥)
      → keep (meets input target) (at_feedback fb) ≡ []
  none-meets h = none_kept (meets input target) fb missed
    where
      missed : (p1 p2 : ℕ) → meets input target (setting fb p1 p2) ≡ false
      missed p1 p2 =
          false_from_ne_true (meets input target (setting fb p1 p2))
          (λ e.
          let v : input / 1 * fb ≡ input * fb = rw div-one in
          let t = and_parts (leb reference_min input && leb feedback_min fb && in_range vco_min vco_max (input / 1 * fb))
          (eqb (target * (p1 * p2)) (input / 1 * fb)) e in
          let p = and_parts (leb reference_min input && leb feedback_min fb) (in_range vco_min vco_max (input / 1 * fb)) t.0 in
          let l = and_parts (leb reference_min input) (leb feedback_min fb) p.0 in
          let r = in-range vco_min vco_max (input / 1 * fb) p.1 in
          h (p1 * p2) (leb-true reference_min input l.0) (leb-true feedback_min fb l.1)
          (record { low = omega arith; high = omega arith })
          (eqb-true (target * (p1 * p2)) (input / 1 * fb) t.1 ∙ v))

  -- where the target goes into the VCO frequency, the quotient is the product
  pub product-meets : reference_min ≤ input → VcoPermits input fb → 0 < target → input * fb % target ≡ 0
      → keep (meets input target) (at_feedback fb) ≡ keep (has_product (input * fb / target)) (at_feedback fb)
  product-meets least permits positive whole =
      same-feedback (meets input target) (has_product (input * fb / target)) fb
      (λ p1 p2.
      let m : target * (input * fb / target) ≡ input * fb = omega (arith, div-add-mod' (input * fb) target) in
      rw (
        div-one,
        le-leb reference_min input least,
        le-leb feedback_min fb permits.low,
        le-leb vco_min (input * fb) permits.vco.low,
        le-leb (input * fb) vco_max permits.vco.high,
      )
      (same_test (eqb (target * (p1 * p2)) (input * fb)) (eqb (p1 * p2) (input * fb / target))
      (λ e. eq-eqb (p1 * p2) (input * fb / target)
      (eq_of_mul-eq-mul_left target positive (p1 * p2) (input * fb / target)
      (eqb-true (target * (p1 * p2)) (input * fb) e ∙ sym m)))
      (λ e. eq-eqb (target * (p1 * p2)) (input * fb)
      (ap (λ (n : ℕ). target * n) (eqb-true (p1 * p2) (input * fb / target) e) ∙ m))))

module _ (input target : ℕ) where
  -- the settings between the two ends are the whole list
  pub whole-list : (low high : ℕ) → LowestPermitted input low → HighestPermitted input high
      → keep (meets input target) (flat_map at_feedback (rising (high + 1 - low) low)) ≡ list_of input target
  unfolding list_of in_order
  whole-list low high l h =
      between (meets input target) at_feedback low high l.one.low (h.last low l.one) h.one.high
      (λ fb least lower. none-meets input target fb (λ p r lo v e.
      let most : fb ≤ feedback_max = omega (arith, l.one.high) in
      omega (arith, l.last fb (record { low = lo; high = most; vco = v }))))
      (λ fb higher most. none-meets input target fb (λ p r lo v e.
      omega (arith, h.last fb (record { low = lo; high = most; vco = v }))))

  -- where there is no end, it is empty
  pub none-listed : ((fb : ℕ) → reference_min ≤ input → VcoPermits input fb → ⊥) → list_of input target ≡ []
  unfolding list_of in_order
  none-listed none =
      none-given (meets input target) at_feedback (feedback_max + 1 - feedback_min) feedback_min
      (λ fb lo hi. none-meets input target fb (λ p r low v e.
      let most : fb ≤ feedback_max = omega arith in
      none fb r (record { low = low; high = most; vco = v })))
