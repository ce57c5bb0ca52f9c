-- `words::write_number` meets its contract: the range of refusals decides between the two texts.
use Rattle.std.proofs.Common.{arith}
use Rattle.cases.proofs.words.write_number.Goals as goal

pub returns-then-contains : goal.returns-then-contains
returns-then-contains c = grind arith
