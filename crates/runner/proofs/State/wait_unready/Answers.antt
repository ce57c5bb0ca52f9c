-- `State::wait_unready` meets its contract: its two tests decide the case of `unready`, and `counting` gives the total.
use Rattle.std.proofs.Common.{arith}
use Rattle.runner.specs.Run.{unready}
use Rattle.runner.proofs.Calls.{counting}
use Rattle.runner.proofs.State.wait_unready.Goals as goal

pub returns-then-ne : goal.returns-then-ne
unfolding unready
returns-then-ne c = grind (arith, counting)

pub returns-then-self-lt-MOST_LOCK_POLLS : goal.returns-then-self-lt-MOST_LOCK_POLLS
unfolding unready
returns-then-self-lt-MOST_LOCK_POLLS c = grind (arith, counting)

pub returns : goal.returns
unfolding unready
returns c = grind (arith, counting)
