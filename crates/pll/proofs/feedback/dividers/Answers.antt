-- `feedback::dividers` meets its contract: by `ends` the divisions give the ends of an input in range, and no other has any.
use Rattle.std.proofs.Common.{arith}
use Rattle.pll.proofs.Ends.{ends}
use Rattle.pll.proofs.feedback.dividers.Goals as goal

pub returns-then-not-contains : goal.returns-then-not-contains
returns-then-not-contains c = record { lowest = grind (arith, ends); highest = grind (arith, ends) }

pub returns : goal.returns
returns c = record { lowest = grind (arith, ends); highest = grind (arith, ends) }
