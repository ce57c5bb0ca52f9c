-- `calls::write_change` meets its contract: the equations of `change` give the answer and the row that is written.
use Rattle.cases.specs.Calls.{change_of}
use Rattle.cases.proofs.calls.write_change.Goals as goal

pub returns : goal.returns
unfolding change_of
returns c = rw (
  c.changed_row.ensures,
  c.change-r.ensures.answer,
  c.change-r.ensures.words_left,
  c.change-r.ensures.slots_left,
  c.change-r.ensures.steps_left,
  c.part-words.ensures,
  c.part-slots.ensures,
  c.byte_at-slot.ensures,
) at c.write.ensures
