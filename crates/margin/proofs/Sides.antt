-- A comparison of two settings decides whether the search gives c, and the lowest and the highest target with c give
-- the two sides.
use Rattle.std.specs.Prelude.{◌≡◌, Bool, false, ℕ}
use mathlib.Core.Path.{sym, ap, subst, ◌∙◌}
use Rattle.base.specs.Answer.{Answer, value, refusal}
use Rattle.pll.specs.{Search.search_of, Law.RightAnswer, Setting.same_setting, declared.PllConfig.PllConfig}
use Rattle.pll.proofs.{Right.search-right, Same.same-path, Same.same_self}
use Rattle.margin.specs.Walk.{Tells}

pub value_same : (c d : PllConfig) → ◌≡◌ {A = Answer PllConfig} (value c) (value d) → c ≡ d
value_same c d e = cc

pub refused-not : (n : ℕ) (c : PllConfig) → ◌≡◌ {A = Answer PllConfig} (refusal n) (value c) → ⊥
refused-not n c e = cc

-- the comparison of c with the search's setting decides
pub found-tells : (input t : ℕ) (d c : PllConfig) (r : Bool) → search_of input t ≡ value d → r ≡ same_setting d c
    → Tells input t c r
found-tells input t d c r e s =
    record {
      yes = λ y. e ∙ ap value (same-path d c (sym s ∙ y));
      no = λ h. s ∙ same_self d c (value_same d c (sym e ∙ h));
    }

pub refused-tells : (input t n : ℕ) (c : PllConfig) → search_of input t ≡ refusal n → Tells input t c false
refused-tells input t n c e = record { yes = λ y. cc; no = λ h. absurd (refused-not n c (sym e ∙ h)) }

-- the search refuses only with 15
pub refused-15 : (input target n : ℕ) → search_of input target ≡ refusal n
    → (n ≡ 15) × (search_of input target ≡ refusal 15)
refused-15 input target n e =
    let k : n ≡ 15 = (subst (RightAnswer input target) e (search-right input target)).0 in
    (k, e ∙ ap refusal k)
