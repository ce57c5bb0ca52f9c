-- `sources::configure_pll` meets its contract: the equations of the calls are the nine steps in turn.
use Rattle.sheet.proofs.sources.configure_pll.Goals as goal

pub returns-in-Some : goal.returns-in-Some
returns-in-Some c = rw (
  c.in-Some.is,
  c.add.ensures,
  c.add-at-in-Some-7.ensures,
  c.add-at-in-Some-6.ensures,
  c.add-at-in-Some-5.ensures,
  c.add-at-in-Some-4.ensures,
  c.add-at-in-Some-3.ensures,
  c.add-at-in-Some-2.ensures,
  c.add-at-in-Some.ensures,
  c.add-at.ensures,
  c.from.ensures,
  c.from-in-Some.ensures,
  c.from-post1.ensures,
  c.from-post2.ensures,
  c.from-which.ensures,
)
