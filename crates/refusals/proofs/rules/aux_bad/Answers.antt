-- `rules::aux_bad` meets its contract: the two cases of a clock, present and absent, are the definition's.
use Rattle.std.proofs.Common.{arith}
use Rattle.refusals.specs.Rules.{aux_bad}
use Rattle.refusals.proofs.rules.aux_bad.Goals as goal

pub returns : goal.returns
unfolding aux_bad
returns c = grind arith
