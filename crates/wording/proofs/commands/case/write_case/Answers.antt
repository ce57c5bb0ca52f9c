-- `commands::case::write_case` meets its contract: the buffer holds what it has room for of the answer.
use Rattle.wording.specs.Case.{case_of}
use Rattle.wording.proofs.Said.{kept}
use Rattle.wording.proofs.commands.case.write_case.Goals as goal

pub slice_bounds-said-end : goal.slice_bounds-said-end
unfolding case_of
slice_bounds-said-end c = (kept c.answer-n.ensures.placed).inside

pub returns : goal.returns
unfolding case_of
returns c = rw (← (kept c.answer-n.ensures.placed).bytes) c.write_said.ensures
