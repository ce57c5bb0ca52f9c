-- `rules::ring_divider_over` meets its contract: the two cases of a ring, present and absent, are the definition's.
use Rattle.std.proofs.Common.{arith}
use Rattle.refusals.specs.Rules.{ring_divider_over}
use Rattle.refusals.proofs.rules.ring_divider_over.Goals as goal

pub returns : goal.returns
unfolding ring_divider_over
returns c = grind arith
