-- `rules::startup_over` meets its contract: the two cases of a crystal, present and absent, are the definition's.
use Rattle.std.proofs.Common.{arith}
use Rattle.refusals.specs.Rules.{startup_over}
use Rattle.refusals.proofs.rules.startup_over.Goals as goal

pub returns : goal.returns
unfolding startup_over
returns c = grind arith
