-- `pll::usb::at_reference` meets its contract: proofs/UsbSteps has one law for each outcome: the crystal is not
-- divisible, the setting of the search is exact, it is not exact, or the search refuses.
use Rattle.std.specs.Prelude.{◌≡◌, refl, Bool, true, false, ℕ, ◌*◌, ◌/◌, ◌%◌, ◌≤◌, eqb, Option, Some, None, Result, Ok, Err, ok_or}
use mathlib.Core.Path.{sym, ap, ◌∙◌}
use native.Mathlib.Omega.{arith}
use borrow.Author.Tests.{eqb-true, eq-eqb}
use Rattle.std.specs.{Result.result_ok, Bool.then_some}
use Rattle.base.specs.Answer.{Answer, value, refusal, answer_of}
use Rattle.base.specs.{Refusals.number_of, declared.refusal.Refusal.Refusal, declared.refusal.Refusal.TheVariants.NoUsbPll}
use Rattle.pll.specs.Setting.{vco_of, posts_of}
use Rattle.pll.specs.{Search.search_of, Usb.with_reference, UsbWalk.UsbRightAt, declared.PllConfig.PllConfig}
use Rattle.pll.proofs.UsbSteps.{posts-found, exact-right, inexact-right, refused-right}
use Rattle.pll.proofs.{Candidates.vco-is, Inputs.found-candidate}
use Rattle.pll.proofs.usb.at_reference.Goals as goal

-- the answer that `ok` leaves of the search
is-value : (r : Result PllConfig Refusal) (p : PllConfig) → Some p ≡ result_ok r → answer_of r ≡ value p
is-value (Ok q) p e = let same : p ≡ q = cc in ap value (sym same)
is-value (Err why) p e = cc

is-refused : (r : Result PllConfig Refusal) → ◌≡◌ {A = Option PllConfig} None (result_ok r) → (n : ℕ) × (answer_of r ≡ refusal n)
is-refused (Ok q) e = cc
is-refused (Err why) e = (number_of why, refl)

-- the setting of the search is answered where it is exact
decided : (crystal r : ℕ) (a : Answer PllConfig) → a ≡ search_of (crystal / r) 48000000 → (p : PllConfig) → a ≡ value p
    → 1 ≤ r → r ≤ 63 → crystal % r ≡ 0
    → (exact : Bool) → exact ≡ eqb (48000000 * posts_of p) (vco_of p (crystal / r))
    → UsbRightAt crystal r (answer_of (ok_or (then_some exact (with_reference r p)) NoUsbPll))
decided crystal r a s p e low high divides true x =
    exact-right crystal r a s p e low high divides (eqb-true _ _ (sym x))
decided crystal r a s p e low high divides false x =
    inexact-right crystal r a s p 25 e (λ y. let z = x ∙ eq-eqb _ _ y in cc)

pub returns-in_err-found : goal.returns-in_err-found
returns-in_err-found c =
    let f = c.find_pll_params in
    let none = is-refused f.result c.in_err-found.ensures.value in
    rw c.from_residual.ensures
    (rw c.from-by.ensures at (refused-right _ _ (answer_of f.result) f.ensures none.0 25 none.1))

pub overflow_mul-exact : goal.overflow_mul-exact
overflow_mul-exact c =
    let f = c.find_pll_params in
    omega (arith, posts-found _ _ (answer_of f.result) f.ensures _ (is-value f.result _ c.in_ok-found.ensures.value))

pub overflow_mul-exact-2 : goal.overflow_mul-exact-2
overflow_mul-exact-2 c =
    let f = c.find_pll_params in
    let m = found-candidate _ _ _ (sym f.ensures ∙ is-value f.result _ c.in_ok-found.ensures.value) in
    let vco = vco-is (c.args.crystal_hz / c.from-by.result) c.in_ok-found.found m.reference in
    rw c.from.ensures (omega (arith, m.vco.high, vco))

pub returns : goal.returns
returns c =
    let f = c.find_pll_params in
    let e = is-value f.result _ c.in_ok-found.ensures.value in
    let m = found-candidate _ _ _ (sym f.ensures ∙ e) in
    rw (c.then_some.ensures, c.posts.ensures, c.from.ensures, c.from-by.ensures)
    (rw c.from-by.ensures at (decided _ c.from-by.result (answer_of f.result) f.ensures _ e (omega arith) (omega arith)
    (omega arith) _ (sym (ap (eqb _) (vco-is _ c.in_ok-found.found m.reference)))))
