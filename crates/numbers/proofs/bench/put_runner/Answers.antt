-- `numbers::bench::put_runner` meets its contract: the two runs of numbers are written one after the other.
use native.Mathlib.Omega.{arith}
use Rattle.numbers.proofs.Words.{two_runs}
use Rattle.numbers.proofs.bench.put_runner.Goals as goal

pub returns : goal.returns
returns c = two_runs c.args.r.now (omega arith) (rw c.from.ensures at c.put_all-freqs.ensures) c.put_all.ensures
