-- `steps::names::name_of` meets its contract: on each chip the table has the definition's rows.
use mathlib.Core.Path.{refl}
use Rattle.wording.specs.StepNames.{name_rows}
use Rattle.wording.proofs.steps.names.name_of.Goals as goal

pub name_in-requires : goal.name_in-requires
unfolding name_rows
name_in-requires c = record { old = refl; new = refl }
