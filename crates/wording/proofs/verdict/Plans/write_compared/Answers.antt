-- `verdict::Plans::write_compared` meets its contract: an order that is accepted leaves it to the settings that differ.
use Rattle.wording.proofs.Compared.{accepted_order}
use Rattle.wording.proofs.verdict.Plans.write_compared.Goals as goal

pub returns-in-Ok : goal.returns-in-Ok
returns-in-Ok c =
    let self = c.args.self.now in
    rw (
      accepted_order self.reading self.delivered self.ordered _ (rw c.settings_of-asked.ensures.0 at c.in-Ok.ensures.0),
      ← c.settings_of-asked.ensures.0,
      ← c.settings_of-was.ensures.0,
      ← c.differences.ensures,
    )
    c.write_by_bits.ensures
