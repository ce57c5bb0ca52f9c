-- The margin of a target (docs/PLL.md, Margin): the definition steps hertz by hertz to either side until the search
-- gives another setting.
use Rattle.std.specs.Prelude.{Bool, false, ℕ, zero, suc, ◌-◌, Option, Some, None}
use Rattle.base.specs.{Answer.Answer, Answer.value, Answer.refusal, Choice.pick}
use Rattle.pll.specs.{Search.search_of, Setting.same_setting, declared.PllConfig.PllConfig}
use Rattle.margin.specs.declared.Margin.{Margin}

-- an answer is the setting c
abbrev pub is_setting : PllConfig → Answer PllConfig → Bool
is_setting c (value d) = same_setting d c
is_setting c (refusal n) = false

-- the greatest number below t that does not pass the test
unfoldable pub lower_from : (ℕ → Bool) → ℕ → Option ℕ
lower_from test zero = None
lower_from test (suc t) = pick (test t) (lower_from test t) (Some t)

-- the smallest of the n numbers above t that does not pass the test
unfoldable pub higher_from : (ℕ → Bool) → ℕ → ℕ → Option ℕ
higher_from test zero t = None
higher_from test (suc n) t = pick (test (suc t)) (higher_from test n (suc t)) (Some (suc t))

-- the margin of a target, given the answer of the search; the greatest 32-bit target is 4294967295
abbrev pub margin_at : ℕ → ℕ → Answer PllConfig → Answer Margin
margin_at input target (value c) =
    value (record {
      lower = lower_from (λ t. is_setting c (search_of input t)) target;
      higher = higher_from (λ t. is_setting c (search_of input t)) (4294967295 - target) target;
    })
margin_at input target (refusal n) = refusal n

-- `target_margin`: both sides, or the refusal of the search
unfoldable pub margin_of : ℕ → ℕ → Answer Margin
margin_of input target = margin_at input target (search_of input target)
