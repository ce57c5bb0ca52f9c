-- The search for a setting (docs/PLL.md, Search): of all candidates in order, the first with no remainder, else the
-- first that is nearest.
use Rattle.std.specs.Prelude.{List, [], ◌∷◌, map, Bool, ◌&&◌, ℕ, zero, suc, ◌+◌, ◌-◌, ◌*◌, leb, eqb}
use mathlib.Core.List.{flat_map}
use Rattle.base.specs.{Choice.pick, Choice.in_range, Answer.Answer, Answer.value, Answer.refusal}
use Rattle.pll.specs.Ranges.{reference_min, feedback_min, feedback_max, vco_min, vco_max}
use Rattle.pll.specs.{Setting.vco_of, Setting.posts_of, Setting.output_hz, declared.PllConfig.PllConfig}

-- n, n - 1, .., 1
unfoldable pub falling : ℕ → List ℕ
falling zero = []
falling (suc n) = suc n ∷ falling n

-- n numbers from k on: k, k + 1, ..
unfoldable pub rising : ℕ → ℕ → List ℕ
rising zero k = []
rising (suc n) k = k ∷ rising n (suc k)

-- the search uses reference divider 1
abbrev pub setting : ℕ → ℕ → ℕ → PllConfig
setting fb p1 p2 = record { refdiv = 1; fbdiv = fb; post_div1 = p1; post_div2 = p2 }

-- the order: feedback divider, post 1, post 2, each falling, post 2 at most post 1
unfoldable pub settings : List PllConfig
settings = flat_map (λ fb. flat_map (λ p1. map (setting fb p1) (falling p1)) (falling 7)) (falling feedback_max)

-- the settings of the list that pass the test, in its order. The library's `filter` is the same, but it would unfold in every
-- goal, and of its laws only the one over `++` is of use here.
unfoldable pub keep : (PllConfig → Bool) → List PllConfig → List PllConfig
keep test [] = []
keep test (c ∷ cs) = pick (test c) (c ∷ keep test cs) (keep test cs)

-- a reference, which is the input, of 5 MHz or more, a feedback divider from 16 on, and a VCO of 750 to 1600 MHz
abbrev pub permitted : ℕ → PllConfig → Bool
permitted input c = leb reference_min input && leb feedback_min c.fbdiv && in_range vco_min vco_max (vco_of c input)

unfoldable pub candidates : ℕ → List PllConfig
candidates input = keep (permitted input) settings

-- c gives the target with no remainder
abbrev pub exact : ℕ → ℕ → PllConfig → Bool
exact input target c = eqb (target * posts_of c) (vco_of c input)

-- the distance between a and b
abbrev pub apart : ℕ → ℕ → ℕ
apart a b = (a - b) + (b - a)

-- the distance of the whole-hertz output of c from the target
abbrev pub distance : ℕ → ℕ → PllConfig → ℕ
distance input target c = apart (output_hz c input) target

-- c, unless what was found after it is nearer
abbrev pub unless_nearer : ℕ → ℕ → PllConfig → Answer PllConfig → Answer PllConfig
unless_nearer input target c (value d) =
    value (pick (leb (distance input target c) (distance input target d)) c d)
unless_nearer input target c (refusal n) = value c

-- the nearest of the list, of equals the first; refusal 15 where the list is empty
unfoldable pub nearest : ℕ → ℕ → List PllConfig → Answer PllConfig
nearest input target [] = refusal 15
nearest input target (c ∷ cs) = unless_nearer input target c (nearest input target cs)

-- the first of the list, else `other`
abbrev pub first_or : Answer PllConfig → List PllConfig → Answer PllConfig
first_or other [] = other
first_or other (c ∷ cs) = value c

-- `find_pll_params`: the first candidate with no remainder, else the nearest; refusal 15 where there is no candidate
unfoldable pub search_of : ℕ → ℕ → Answer PllConfig
search_of input target =
    first_or (nearest input target (candidates input)) (keep (exact input target) (candidates input))
