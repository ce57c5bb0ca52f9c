-- Inside: the code finds the two sides by a bisection.
use Rattle.std.specs.Prelude.{◌≡◌, Bool, true, false, not, ℕ, ◌≤◌, ◌<◌}
use Rattle.base.specs.Answer.{value}
use Rattle.pll.specs.{Search.search_of, declared.PllConfig.PllConfig}

-- the search gives the setting c for a target
abbrev pub Has : ℕ → PllConfig → ℕ → Type 0
Has input c t = search_of input t ≡ value c

-- r says whether the search gives c
pub record Tells (input t : ℕ) (c : PllConfig) (r : Bool) : Type 0 where
  pub yes : r ≡ true → Has input c t
  pub no : Has input c t → r ≡ true

-- the search gives c for a target, or it does not
abbrev pub Given : Bool → ℕ → PllConfig → ℕ → Type 0
Given true input c t = Has input c t
Given false input c t = Has input c t → ⊥

-- from low to below high, whatever is given for a target is given for those before it
abbrev pub Turns : ℕ → PllConfig → Bool → ℕ → ℕ → Type 0
Turns input c given low high =
    (t u : ℕ) → low ≤ t → t ≤ u → u < high → Given given input c u → Given given input c t

-- r is the first from low to below high for which it is the other way round, and high where there is none
pub record First (input : ℕ) (c : PllConfig) (given : Bool) (low high r : ℕ) : Type 0 where
  pub from : low ≤ r
  pub to : r ≤ high
  pub before : (t : ℕ) → low ≤ t → t < r → Given given input c t
  pub here : r < high → Given (not given) input c r
