-- `numbers::plan_row::Row::of` meets its contract: a row of 48 holds the numbers of every plan (`begins`).
use mathlib.Core.Path.{refl}
use Rattle.numbers.proofs.Whole.{begins}
use Rattle.numbers.proofs.plan_row.Row.of.Goals as goal

pub returns : goal.returns
returns c = (begins refl c.put_plan-count.ensures).numbers
