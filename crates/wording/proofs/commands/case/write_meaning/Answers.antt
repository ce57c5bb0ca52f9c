-- `commands::case::write_meaning` meets its contract: after `refused` the next word is the number.
use Rattle.std.proofs.Common.{arith}
use Rattle.base.proofs.Writing.{writing}
use Rattle.wording.specs.Case.{meaning_of}
use Rattle.wording.proofs.commands.case.write_meaning.Goals as goal

pub returns-then-eq : goal.returns-then-eq
unfolding meaning_of
returns-then-eq c = grind (arith, writing)
