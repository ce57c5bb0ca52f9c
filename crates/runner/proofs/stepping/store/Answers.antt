-- `stepping::store` meets its contract: the test of the kind is the definition's, and the bounds of a store are `storing`.
use Rattle.std.proofs.Common.{arith}
use Rattle.runner.specs.Run.{stored_by}
use Rattle.runner.proofs.Steps.{storing}
use Rattle.runner.proofs.stepping.store.Goals as goal

pub returns-then-ne : goal.returns-then-ne
unfolding stored_by
returns-then-ne c = grind (arith, storing)

pub returns : goal.returns
unfolding stored_by
returns c = grind (arith, storing)
