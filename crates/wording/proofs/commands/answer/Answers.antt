-- `commands::answer` meets its contract: the buffer holds what the writer put.
use Rattle.std.proofs.Common.{rules}
use Rattle.base.proofs.Writing.{finished}
use Rattle.wording.proofs.commands.answer.Goals as goal

pub returns : goal.returns
returns c = let p = finished c.new-writer.result c.write_answer.new.out _ c.new-writer.ensures c.write_answer.ensures in search rules
