-- `registers::row::row` meets its contract: the arm of a release, which the search leaves.
use Rattle.registers.proofs.row.row.Goals as goal

pub returns-in-Release : goal.returns-in-Release
returns-in-Release c = rw (c.in-Release.is, c.field-in-Release.ensures.0, c.on-in-Release.ensures)
