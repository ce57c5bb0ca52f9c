-- `steps::names::name_in` meets its contract: the name is that of the row that is found.
use Rattle.wording.proofs.Named.{name_there}
use Rattle.wording.proofs.steps.names.name_in.Goals as goal

pub returns-in-Some : goal.returns-in-Some
returns-in-Some c =
    rw (c.as_bytes.ensures.value, name_there c.args.chip c.args.address c.args.rows.now c.requires, ← c.in-Some.ensures)

pub returns-in-None : goal.returns-in-None
returns-in-None c = rw (name_there c.args.chip c.args.address c.args.rows.now c.requires, ← c.in-None.ensures)
