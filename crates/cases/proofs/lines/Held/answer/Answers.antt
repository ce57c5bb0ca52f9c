-- `Held::answer` meets its contract: what a new writer was given stands at the start of the buffer, by `finished`.
use Rattle.std.proofs.Common.{rules}
use Rattle.base.proofs.Writing.{finished}
use Rattle.cases.proofs.lines.Held.answer.Goals as goal

pub returns : goal.returns
returns c = let p = finished c.new-out.result c.write_answer.new.out _ c.new-out.ensures c.write_answer.ensures.puts in
    record { placed = search rules; short = c.write_answer.ensures.short }
