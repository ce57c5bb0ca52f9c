-- `calls::write_bench_start` meets its contract: the equations of `dizbaral_bench_start` give what is written.
use Rattle.cases.specs.Calls.{bench_start_of}
use Rattle.cases.proofs.calls.write_bench_start.Goals as goal

pub returns : goal.returns
unfolding bench_start_of
returns c = rw (
  c.dizbaral_bench_start-r.ensures.answer,
  c.dizbaral_bench_start-r.ensures.numbers,
  c.dizbaral_bench_start-r.ensures.bytes,
  c.part-bench.ensures,
  c.sheet_at.ensures,
) at c.write_kept.ensures
