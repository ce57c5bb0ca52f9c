-- The margin of a target, stated declaratively (docs/PLL.md, Margin). `proofs/Right.antt` proves it of `margin_of`;
-- `proofs/Unique.antt` shows that it has one solution.
use Rattle.std.specs.Prelude.{◌≡◌, ℕ, ◌≤◌, ◌<◌, Option, Some, None}
use Rattle.base.specs.Answer.{Answer, value, refusal}
use Rattle.pll.specs.{Search.search_of, declared.PllConfig.PllConfig}
use Rattle.margin.specs.declared.Margin.{Margin}

-- two targets share the setting
abbrev pub Share : ℕ → ℕ → ℕ → Type 0
Share input t u = search_of input t ≡ search_of input u

-- the greatest lower target whose setting differs: those between it and the target share the setting; none where all
-- lower targets do
abbrev pub RightLower : ℕ → ℕ → Option ℕ → Type 0
RightLower input target (Some l) =
    (l < target)
    × (Share input l target → ⊥)
    × ((t : ℕ) → l < t → t ≤ target → Share input t target)
RightLower input target None = (t : ℕ) → t ≤ target → Share input t target

-- the smallest higher 32-bit target whose setting differs, in the same way
abbrev pub RightHigher : ℕ → ℕ → Option ℕ → Type 0
RightHigher input target (Some h) =
    (target < h)
    × (h < 4294967296)
    × (Share input h target → ⊥)
    × ((t : ℕ) → target ≤ t → t < h → Share input t target)
RightHigher input target None = (t : ℕ) → target ≤ t → t < 4294967296 → Share input t target

-- an answer is right: both sides where the search finds a setting, else refusal 15
abbrev pub RightMargin : ℕ → ℕ → Answer Margin → Type 0
RightMargin input target (value s) =
    ((c : PllConfig) × (search_of input target ≡ value c))
    × RightLower input target s.lower
    × RightHigher input target s.higher
RightMargin input target (refusal n) = (n ≡ 15) × (search_of input target ≡ refusal 15)
