-- `clocks::put_sys` meets its contract: the equations of the calls are the steps in turn, and `pushes_append` joins the switch.
use Rattle.sheet.specs.Steps.{sys_part}
use Rattle.sheet.proofs.Gathering.{pushes_append}
use Rattle.sheet.proofs.clocks.put_sys.Goals as goal

pub returns : goal.returns
unfolding sys_part
returns c = rw (
  pushes_append,
  c.put_divider.ensures,
  c.add-at-2.ensures,
  c.add-at.ensures,
  c.put_switch-at.ensures,
  c.store-at.ensures,
  c.from-select.ensures,
  c.from-aux.ensures,
  c.from.ensures,
  c.from-2.ensures,
  c.select.ensures,
  c.aux.ensures,
)
