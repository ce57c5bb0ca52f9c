-- Inside: the stores of a sheet, which only the proofs of this crate use.
use Rattle.std.specs.Prelude.{ℕ, ◌+◌, List, [], ◌∷◌}
use Rattle.base.specs.Choice.{pick}
use Rattle.step.specs.{declared.Step.Step, Kinds.is}
use Rattle.sheet.specs.Steps.{store_step}
use Rattle.step.specs.declared.kind.Kind.TheVariants as kind

-- The stores among steps, in their order.
abbrev pub stores_in : List Step → List Step
stores_in [] = []
stores_in (x ∷ xs) = pick (is x.kind kind.Store) (x ∷ stores_in xs) (stores_in xs)

-- A store for each frequency; the clock numbers rise from `clock`.
abbrev pub stores_from : ℕ → List ℕ → List Step
stores_from clock [] = []
stores_from clock (hz ∷ hzs) = store_step clock hz ∷ stores_from (clock + 1) hzs
