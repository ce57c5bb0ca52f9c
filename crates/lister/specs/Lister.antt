-- The lister (docs/PLL.md, Lister) writes each setting of the search that has no remainder, once, the lowest feedback
-- divider first.
use Rattle.std.specs.Prelude.{List, [], ◌∷◌, ◌++◌, map, Bool, ◌&&◌, ℕ, ◌+◌, ◌-◌, ◌*◌, ◌/◌, ◌%◌, leb, eqb, length, drop}
use mathlib.Core.List.{flat_map}
use Rattle.base.specs.{Choice.pick, Choice.in_range, Answer.Answer, Answer.value, Answer.refusal}
use Rattle.pll.specs.Search.{falling, rising, setting, keep, permitted, exact}
use Rattle.pll.specs.{Setting.same_setting, Ranges.feedback_min, Ranges.feedback_max, declared.PllConfig.PllConfig}

-- remainder-free, in the search's ranges: input from 5 MHz, VCO 750 to 1600 MHz, reference divider 1, feedback
-- divider 16 to 320, post 1 from 1 to 7, post 2 from 1 to post 1
abbrev pub remainder_free : ℕ → ℕ → PllConfig → Bool
remainder_free input target c =
    permitted input c
    && exact input target c
    && eqb c.refdiv 1
    && in_range feedback_min feedback_max c.fbdiv
    && in_range 1 7 c.post_div1
    && in_range 1 c.post_div1 c.post_div2

-- the order: feedback divider from the least to the greatest, then post 1 from 7 and post 2 from post 1, each falling
unfoldable pub in_order : List PllConfig
in_order =
    flat_map (λ fb. flat_map (λ p1. map (setting fb p1) (falling p1)) (falling 7))
    (rising (feedback_max + 1 - feedback_min) feedback_min)

-- c is permitted and gives the target with no remainder
abbrev pub meets : ℕ → ℕ → PllConfig → Bool
meets input target c = permitted input c && exact input target c

-- the settings that are listed
unfoldable pub list_of : ℕ → ℕ → List PllConfig
list_of input target = keep (meets input target) in_order

-- the number of times that c is in the list
unfoldable pub how_often : PllConfig → List PllConfig → ℕ
how_often c [] = 0
how_often c (d ∷ ds) = pick (same_setting c d) 1 0 + how_often c ds

-- a setting as 16 bits: feedback (9), posts (3)(3), a zero bit
abbrev pub setting_word : PllConfig → ℕ
setting_word c = c.fbdiv * 128 + c.post_div1 * 16 + c.post_div2 * 2

-- two bytes each, the most significant first
unfoldable pub list_bytes : List PllConfig → List ℕ
list_bytes [] = []
list_bytes (c ∷ cs) = setting_word c / 256 ∷ setting_word c % 256 ∷ list_bytes cs

-- the number of bytes of the list
abbrev pub length_of : ℕ → ℕ → ℕ
length_of input target = 2 * length (list_of input target)

-- the buffer has room for the list
abbrev pub has_room : ℕ → ℕ → ℕ → Bool
has_room input target room = leb (length_of input target) room

-- `list_exact`: the number of bytes, or refusal 19 where the buffer is too short
abbrev pub listed_of : ℕ → ℕ → ℕ → Answer ℕ
listed_of input target room = pick (has_room input target room) (value (length_of input target)) (refusal 19)

-- the buffer after it: the bytes past the list keep their values; after a refusal all bytes do
abbrev pub listed_in : ℕ → ℕ → List ℕ → List ℕ
listed_in input target before =
    pick (has_room input target (length before)) (list_bytes (list_of input target) ++ drop (length_of input target) before)
    before
