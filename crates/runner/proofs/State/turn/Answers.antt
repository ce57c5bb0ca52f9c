-- `State::turn` meets its contract: at the refusals 22 and 27 the tests so far decide the case of `turn_of`.
use Rattle.runner.specs.Run.{turn_of, outside}
use Rattle.runner.proofs.State.turn.Goals as goal

pub returns-then-self : goal.returns-then-self
unfolding turn_of outside
returns-then-self c = rw (← c.bad_size.ensures, c.if-self-bad_size.false, c.if-self.true)

pub returns-then-not-same_bytes : goal.returns-then-not-same_bytes
unfolding turn_of outside
returns-then-not-same_bytes c = rw (
  ← c.bad_size.ensures,
  c.if-self-bad_size.false,
  c.if-self.false,
  ← c.same_bytes.ensures,
  c.if-not-same_bytes.true,
)
