-- `calls::write_sheet` meets its contract: `take_same` says that the buffer lent has as many bytes of 0xEE as the case asks for.
use native.Mathlib.Omega.{arith}
use Rattle.cases.specs.Calls.{sheet_text}
use Rattle.cases.proofs.Lent.{take_same}
use Rattle.cases.proofs.calls.write_sheet.Goals as goal

pub returns : goal.returns
unfolding sheet_text
returns c = rw (
  c.dizbaral_plan_sheet-r.ensures.answer,
  c.dizbaral_plan_sheet-r.ensures.bytes,
  take_same c.room_at.result 1024 238 (omega arith),
  c.plan_at.ensures,
  c.byte_at.ensures,
  c.byte_at-2.ensures,
  c.room_at.ensures,
) at c.write_written.ensures
