-- `Runner::start` meets its contract: the test decides the case of `start_of`, and `keep` gives the kept bytes.
use Rattle.runner.specs.Run.{start_of}
use Rattle.runner.proofs.Runner.start.Goals as goal

pub returns-then-bad_size : goal.returns-then-bad_size
unfolding start_of
returns-then-bad_size c = rw (← c.bad_size.ensures, c.if-bad_size.true)

pub returns : goal.returns
unfolding start_of
returns c = rw (← c.bad_size.ensures, c.if-bad_size.false, c.keep-self.ensures, c.new-self.ensures)
