-- Tests on a row of numbers: the numbers from an index on are within their limits, and those of an absent part are all 0.
use Rattle.std.specs.Prelude.{Bool, true, ◌&&◌, List, [], ◌∷◌, ℕ, suc, eqb, leb}
use Rattle.base.specs.Choice.{pick}
use Rattle.numbers.specs.Fields.{nth}

-- each number is at most its limit, and 0 in an absent part
abbrev pub fit_from : Bool → List ℕ → ℕ → List ℕ → Bool
fit_from there n i [] = true
fit_from there n i (limit ∷ limits) = leb (nth n i) (pick there limit 0) && fit_from there n (suc i) limits

-- an optional part: its first number is the flag 1 where it is present, and otherwise all its numbers are 0
unfoldable pub is_part : List ℕ → ℕ → List ℕ → Bool
is_part n i limits = fit_from (eqb (nth n i) 1) n i limits
