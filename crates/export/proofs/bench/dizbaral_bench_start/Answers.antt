-- `export::bench::dizbaral_bench_start` meets its contract: what refuses a start of a fresh runner refuses it for any bench.
use Rattle.numbers.proofs.Boards.{runner-refused}
use Rattle.export.proofs.bench.dizbaral_bench_start.Goals as goal

pub returns-in-Err : goal.returns-in-Err
returns-in-Err c = rw c.refused.ensures (runner-refused _ _ _ _ _ _ c.in-Err.ensures)
