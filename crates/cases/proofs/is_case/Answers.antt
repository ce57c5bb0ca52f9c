-- `cases::is_case` meets its contract: a word is the name of a case where `find_named` finds one.
use Rattle.cases.proofs.is_case.Goals as goal

pub returns : goal.returns
returns c = rw (c.is_some.ensures, c.find_named.ensures)
