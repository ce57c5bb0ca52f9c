-- `Stage::too_high` meets its contract: by `farther` the product shows that the score is above d.
use Rattle.std.proofs.Common.{arith}
use Rattle.pll.proofs.Scores.{farther}
use Rattle.pll.proofs.walk.Stage.too_high.Goals as goal

pub returns : goal.returns
returns c = grind (arith, farther)
