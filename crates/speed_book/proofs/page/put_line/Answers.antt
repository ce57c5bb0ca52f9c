-- `speed_book::page::put_line` meets its contract: what a new writer writes stands at the start of its buffer.
use Rattle.std.proofs.Common.{rules}
use Rattle.base.proofs.Writing.{finished}
use Rattle.speed_book.proofs.page.put_line.Goals as goal

pub returns : goal.returns
returns c =
    let done = finished c.new-writer.result c.write_line.new.out _ c.new-writer.ensures c.write_line.ensures in
    rw (← c.entry_in.ensures) (search rules)
