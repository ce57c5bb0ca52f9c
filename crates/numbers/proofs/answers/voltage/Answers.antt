-- `numbers::answers::voltage` meets its contract: the chip picks the case, by the equations of the chip's `try_from` and of
-- `level`.
use Rattle.numbers.specs.Answers.{voltage_number}
use Rattle.numbers.proofs.answers.voltage.Goals as goal

pub returns-in-Rp2040 : goal.returns-in-Rp2040
unfolding voltage_number
returns-in-Rp2040 c = rw (c.in-Rp2040.is, c.level.ensures, c.try_from.ensures)

pub returns-in-Rp235x : goal.returns-in-Rp235x
unfolding voltage_number
returns-in-Rp235x c = rw (c.in-Rp235x.is, c.level-in-Rp235x.ensures, c.try_from-in-Rp235x.ensures)
