-- `margin_of` is right by `RightMargin` (specs/Law), and so any right answer equals it.
use Rattle.std.specs.Prelude.{◌≡◌, refl, Bool, true, false, ℕ, zero, suc, ◌+◌, ◌-◌, ◌≤◌, ◌<◌}
use mathlib.Core.{Path.sym, Path.ap, Path.◌∙◌, Logic.⊎_elim}
use native.Mathlib.{Omega.arith, Nat.eq-or-lt_of_le}
use Rattle.base.specs.Answer.{Answer, value, refusal}
use Rattle.base.proofs.Bools.{either_way}
use Rattle.pll.specs.{Search.search_of, declared.PllConfig.PllConfig}
use Rattle.margin.specs.Margin.{is_setting, lower_from, higher_from, margin_at, margin_of}
use Rattle.margin.specs.{declared.Margin.Margin, Law.RightLower, Law.RightHigher, Law.RightMargin}
use Rattle.pll.proofs.Same.{same-path, same_self}
use Rattle.margin.proofs.{Sides.refused-15, Unique.margin-unique}

-- the test says whether the answer is the setting
is-setting : (c : PllConfig) (a : Answer PllConfig) → is_setting c a ≡ true → a ≡ value c
is-setting c (value d) e = ap value (same-path d c e)
is-setting c (refusal n) e = cc

setting-is : (c : PllConfig) (a : Answer PllConfig) → a ≡ value c → is_setting c a ≡ true
setting-is c (value d) e = same_self d c cc
setting-is c (refusal n) e = cc

module _ (input target : ℕ) (c : PllConfig) (given : search_of input target ≡ value c) where
  abbrev test : ℕ → Bool
  test t = is_setting c (search_of input t)

  shares : (t : ℕ) → test t ≡ true → search_of input t ≡ search_of input target
  shares t e = is-setting c (search_of input t) e ∙ sym given

  differs : (t : ℕ) → test t ≡ false → search_of input t ≡ search_of input target → ⊥
  differs t e s = let z = sym e ∙ setting-is c (search_of input t) (s ∙ given) in cc

  -- every target that the walk down passes shares the setting
  lower-right : (t : ℕ) → t ≤ target → ((u : ℕ) → t ≤ u → u ≤ target → search_of input u ≡ search_of input target)
      → RightLower input target (lower_from test t)
  unfolding lower_from
  lower-right zero l passed = λ u b. passed u (omega arith) b
  lower-right (suc t) l passed =
      either_way (test t)
      (λ e.
      rw e
      (lower-right t (omega arith)
      (λ u a b. ⊎_elim (λ f. ap (search_of input) (sym f) ∙ shares t e) (λ m. passed u m b) (eq-or-lt_of_le a))))
      (λ e. rw e (l, differs t e, passed))

  higher-right : (n t : ℕ) → n + t ≡ 4294967295 → target ≤ t
      → ((u : ℕ) → target ≤ u → u ≤ t → search_of input u ≡ search_of input target)
      → RightHigher input target (higher_from test n t)
  unfolding higher_from
  higher-right zero t e l passed = λ u a b. passed u a (omega arith)
  higher-right (suc n) t e l passed =
      either_way (test (suc t))
      (λ f.
      rw f
      (higher-right n (suc t) (omega arith) (omega arith)
      (λ u a b.
      ⊎_elim (λ g. ap (search_of input) g ∙ shares (suc t) f) (λ m. passed u a (omega arith)) (eq-or-lt_of_le b))))
      (λ f. rw f (omega arith, omega arith, differs (suc t) f, λ u a b. passed u a (omega arith)))

module _ (input target : ℕ) where
  at_target : (u : ℕ) → target ≤ u → u ≤ target → search_of input u ≡ search_of input target
  at_target u a b = let e : u ≡ target = omega arith in ap (search_of input) e

  -- for every 32-bit target `margin_of` is right
  pub margin-right : target < 4294967296 → RightMargin input target (margin_of input target)
  unfolding margin_of
  margin-right fits = go (search_of input target) refl
    where
      go : (a : Answer PllConfig) → search_of input target ≡ a → RightMargin input target (margin_at input target a)
      go (value c) e = (
        (c, e),
        lower-right input target c e target (omega arith) at_target,
        higher-right input target c e (4294967295 - target) target (omega arith) (omega arith) at_target,
      )
      go (refusal n) e = refused-15 input target n e

  pub right-is-margin : target < 4294967296 → (a : Answer Margin) → RightMargin input target a
      → a ≡ margin_of input target
  right-is-margin fits a r = margin-unique input target a (margin_of input target) r (margin-right fits)
