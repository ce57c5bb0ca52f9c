-- A target is looked up in a table by a bisection. In the book the result is that of the search (`lookup-searches`,
-- proofs/Lookups).
use Rattle.std.specs.Prelude.{List, Bool, ◌&&◌, ◌||◌, ℕ, zero, suc, ◌+◌, ◌-◌, ◌*◌, ◌/◌, ◌%◌, ltb, eqb, get_or}
use Rattle.base.specs.{Answer.Answer, Answer.value, Choice.pick}
use Rattle.pll.specs.declared.PllConfig.{PllConfig}
use Rattle.speed_book.specs.Book.{entries, output_in, setting_in}

abbrev pub middle : ℕ → ℕ → ℕ
middle low high = (low + high) / 2

-- the indices from low to high after n halvings: below `low` each entry is less than the bound, from `high` on none is
unfoldable pub halved : List ℕ → ℕ → ℕ → ℕ → ℕ → ℕ
halved l bound zero low high = low
halved l bound (suc n) low high =
    pick (ltb low high)
    (pick (ltb (get_or l (middle low high) 0) bound)
    (halved l bound n (middle low high + 1) high) (halved l bound n low (middle low high)))
    (halved l bound n low high)

-- the first index whose entry is not less than the bound, in a sorted table
abbrev pub first_from : List ℕ → ℕ → ℕ
first_from l bound = halved l bound 11 0 entries

-- the entry at an index; past the end it is one whose output is more than twice any target, and so never the nearer
abbrev pub far : ℕ
far = 858993459200000

abbrev pub entry_at : List ℕ → ℕ → ℕ
entry_at l k = pick (ltb k entries) (get_or l k 0) far

-- the digits of the dividers: the greater come first in the order of the search
abbrev pub dividers_in : ℕ → ℕ
dividers_in n = n % 100000

-- the nearer of an entry below the target and one that is not; of equally near ones the first in the order of the search
abbrev pub lower_is : ℕ → ℕ → ℕ → Bool
lower_is target lower upper =
    ltb (2 * target) (output_in lower + output_in upper)
    || (eqb (2 * target) (output_in lower + output_in upper) && ltb (dividers_in upper) (dividers_in lower))

unfoldable pub nearer_entry : ℕ → ℕ → ℕ → ℕ
nearer_entry target lower upper = pick (lower_is target lower upper) lower upper

-- the first entry whose output is not below the target; then the first of the entries with the next lower output
abbrev pub above_in : List ℕ → ℕ → ℕ
above_in l target = first_from l (target * 100000)

abbrev pub below_in : List ℕ → ℕ → ℕ
below_in l above = first_from l (output_in (entry_at l (above - 1)) * 100000)

unfoldable pub lookup_in : List ℕ → ℕ → Answer PllConfig
lookup_in l target =
    let above = above_in l target in
    value (setting_in (nearer_entry target (entry_at l (below_in l above)) (entry_at l above)))
