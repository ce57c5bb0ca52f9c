-- `board::run::put_store` meets its contract: by `storing` a store names one of the ten frequencies, which follow five numbers.
use Rattle.std.proofs.Common.{arith}
use Rattle.runner.specs.Run.{stored_by}
use Rattle.numbers.proofs.Runners.{storing}
use Rattle.numbers.proofs.board.run.put_store.Goals as goal

pub returns-then-eq : goal.returns-then-eq
unfolding stored_by
returns-then-eq c = grind (arith, storing)
