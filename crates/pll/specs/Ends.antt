-- The highest and the lowest feedback divider that the search may take at an input, and the walk between them.
use Rattle.std.specs.Prelude.{◌≡◌, ◌⊎◌, List, [], ◌∷◌, ℕ, zero, suc, leb}
use Rattle.base.specs.{Choice.pick, Answer.Answer, Answer.value, Answer.refusal}
use Rattle.pll.specs.{Ranges.feedback_max, Search.falling, Search.rising, Search.setting, Search.permitted}

-- the first permitted divider of the list, whatever the post dividers; refusal 15 where there is none
unfoldable pub first_permitted : ℕ → List ℕ → Answer ℕ
first_permitted input [] = refusal 15
first_permitted input (fb ∷ fbs) = pick (permitted input (setting fb 1 1)) (value fb) (first_permitted input fbs)

-- the highest permitted divider; refusal 15 where there is none
unfoldable pub highest_of : ℕ → Answer ℕ
highest_of input = first_permitted input (falling feedback_max)

-- the lowest permitted divider; refusal 15 where there is none
unfoldable pub lowest_of : ℕ → Answer ℕ
lowest_of input = first_permitted input (rising feedback_max 1)

-- the dividers that the walk takes from fb down to `low`; a setting with no remainder may end the walk earlier
unfoldable pub walk_down : ℕ → ℕ → List ℕ
walk_down low zero = []
walk_down low (suc n) = suc n ∷ pick (leb (suc n) low) [] (walk_down low n)

-- the dividers of the walk at an input: from the highest down to the lowest; none where no divider is permitted
abbrev pub walked_between : Answer ℕ → Answer ℕ → List ℕ
walked_between (value high) (value low) = walk_down low high
walked_between (value high) (refusal n) = []
walked_between (refusal n) low = []

unfoldable pub walked_of : ℕ → List ℕ
walked_of input = walked_between (highest_of input) (lowest_of input)

-- fb is one of the list
abbrev pub Among : ℕ → List ℕ → Type 0
Among fb [] = ⊥
Among fb (k ∷ ks) = (fb ≡ k) ⊎ Among fb ks
