-- `State::take_step` meets its contract: at a wait that is ready the two tests decide the case.
use Rattle.runner.specs.Run.{take_step}
use Rattle.runner.proofs.State.take_step.Goals as goal

pub returns : goal.returns
unfolding take_step
returns c = rw (← c.is_wait.ensures, c.if-not-is_wait.false, c.if-not-ready.false)
