-- `rules::strength_over` meets its contract: its tests are the definition's, in the same order.
use Rattle.std.proofs.Common.{refl}
use Rattle.refusals.proofs.rules.strength_over.Goals as goal

pub returns : goal.returns
returns c = refl
