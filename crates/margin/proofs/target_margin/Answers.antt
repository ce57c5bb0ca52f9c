-- `margin::target_margin` meets its contract: the first target with the setting has the lower side below it, and the first
-- without it above the target is the higher side.
use Rattle.std.specs.Prelude.{◌≡◌, true, false, ℕ, zero, suc, ◌+◌, ◌-◌, ◌≤◌, ◌<◌, Option, Some, None, Result, Ok, Err}
use mathlib.Core.{Path.sym, Path.subst, Path.◌∙◌, Logic.⊎_elim}
use native.Mathlib.{Omega.arith, Nat.eq-or-lt_of_le}
use Rattle.std.proofs.lemmas.Result.{err_from_is_err_and}
use Rattle.std.specs.{Option.SomeIff, Result.OkIff, Result.result_ok}
use Rattle.pll.specs.declared.PllConfig.{PllConfig}
use Rattle.pll.proofs.Near.{search-between}
use Rattle.margin.specs.{Law.RightLower, Law.RightHigher, Walk.Has, Walk.First}
use Rattle.margin.proofs.{Right.right-is-margin, Sides.refused-15}
use Rattle.margin.proofs.target_margin.Goals as goal

module _ (input target : ℕ) (c : PllConfig) (has : Has input c target) where
  -- from the first target with the setting on all up to the target have it
  has-from : (first t : ℕ) → First input c false 0 target first → first ≤ t → t ≤ target → Has input c t
  has-from first t f a b = ⊎_elim
      (λ e. let same : t ≡ target = omega arith in rw same has)
      (λ inside. search-between input first t target c a b (f.here inside) has)
      (eq-or-lt_of_le f.to)

  -- n is the number that the code takes as that first target
  lower-side : (lower : Option ℕ) (first n : ℕ) → First input c false 0 target first → n ≡ first
      → SomeIff lower (1 ≤ n) (n - 1) → RightLower input target lower
  lower-side (Some l) first n f same is =
      let to = f.to in (
        omega (arith, is.0, is.1),
        λ d. f.before l (omega arith) (omega (arith, is.0, is.1)) (d ∙ has),
        λ t a b. has-from first t f (omega (arith, is.1)) b ∙ sym has,
      )
  lower-side None first n f same none = λ t b. has-from first t f (zero-unless first t (rw same at none)) b ∙ sym has
    where
      zero-unless : (first t : ℕ) → (1 ≤ first → ⊥) → first ≤ t
      zero-unless zero t n = omega arith
      zero-unless (suc k) t n = absurd (n (omega arith))

  has-to : (first t : ℕ) → First input c true (target + 1) 4294967296 first → target ≤ t → t < first → Has input c t
  has-to first t f a b = ⊎_elim (λ e. subst (Has input c) e has) (λ above. f.before t (omega arith) b) (eq-or-lt_of_le a)

  higher-side : (higher : Option ℕ) (first n : ℕ) → First input c true (target + 1) 4294967296 first → n ≡ first
      → SomeIff higher (n < 4294967296) n → RightHigher input target higher
  higher-side (Some h) first n f same is =
      let above = f.from in
      let edge : first ≡ h = omega (arith, is.1) in (
        omega arith,
        omega (arith, is.0),
        λ d. f.here (omega (arith, is.0)) (rw edge (d ∙ has)),
        λ t a b. has-to first t f a (omega arith) ∙ sym has,
      )
  higher-side None first n f same none = λ t a b. has-to first t f a (past first t (rw same at none) b) ∙ sym has
    where
      past : (first t : ℕ) → (first < 4294967296 → ⊥) → t < 4294967296 → t < first
      past first t n b = omega arith

-- what `ok` leaves of a conversion
converted : {E : Type 0} (r : Result ℕ E) (Fits : Type 0) (n : ℕ) → OkIff r Fits n → SomeIff (result_ok r) Fits n
converted (Ok x) Fits n is = is
converted (Err e) Fits n is = is

pub returns-in_err-c : goal.returns-in_err-c
returns-in_err-c c =
    let p = err_from_is_err_and c.from_residual.result c.from_residual.ensures.1 in
    rw (p.1, p.2) (right-is-margin _ _ (omega arith) _ (refused-15 _ _ _ (sym c.in_err-c.ensures)))

pub first_other-lowest-requires-clause-turns : goal.first_other-lowest-requires-clause-turns
first_other-lowest-requires-clause-turns c t u a b below none has =
    none (search-between _ t u _ _ b (omega arith) has (sym c.in_ok-c.ensures))

pub first_other-higher-requires-clause-turns : goal.first_other-higher-requires-clause-turns
first_other-higher-requires-clause-turns c t u a b below has =
    search-between _ c.args.target_hz t u _ (omega arith) b (sym c.in_ok-c.ensures) has

pub returns : goal.returns
returns c =
    let has = sym c.in_ok-c.ensures in
    let higher = converted c.try_from.result _ _ c.try_from.ensures in
    right-is-margin _ _ (omega arith) _ (
      (_, has),
      lower-side _ _ _ has _ _ _ (rw c.from-target.ensures at c.first_other-lowest.ensures) (omega arith) c.checked_sub.ensures,
      higher-side _ _ _ has _ _ _ (rw c.from-target.ensures at c.first_other-higher.ensures) (omega arith)
          (rw (sym c.ok.ensures.value) at higher),
    )
