-- `sources::put_voltage` meets its contract: the equations of the calls are the steps in turn, and `pushes_append` joins the delay.
use borrow.Author.Tests.{ne_eqb}
use Rattle.sheet.specs.Steps.{voltage_part}
use Rattle.sheet.proofs.Gathering.{pushes_append}
use Rattle.sheet.proofs.sources.put_voltage.Goals as goal

pub returns : goal.returns
unfolding voltage_part
returns c = rw (
  ne_eqb _ _ c.if-chip-reading.false,
  pushes_append,
  c.put_brownout.ensures,
  c.put_settling-at.ensures,
  c.put_code-at.ensures,
  c.from.ensures,
  c.from-2.ensures,
)
