-- `bench::runner_at` meets its contract: by `finished` the numbers that the writer put stand at the start of the row.
use Rattle.std.proofs.Common.{rules}
use Rattle.base.specs.Writing.{written}
use Rattle.base.proofs.Writing.{put_then, finished}
use Rattle.numbers.proofs.bench.runner_at.Goals as goal

pub returns : goal.returns
returns c =
    let all =
    put_then (written c.new-out.result) (written c.put_all.new.self) (written c.put_all-2.new.self) _ _ c.put_all.ensures
    c.put_all-2.ensures in
    let p = finished c.new-out.result c.put_all-2.new.self _ c.new-out.ensures all in
    let bytes = p.placed.bytes in
    search rules
