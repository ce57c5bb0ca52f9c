-- `report::write_plan` meets its contract: where `init` answers a length, the bytes up to it are the sheet, and its run has the
-- numbers of the report (`written-report`); a refusal is the plan's own, since the buffer is enough for every RP2040 sheet
-- (`refused-report`).
use mathlib.Core.Path.{refl}
use Rattle.sheet.proofs.Kept.{kept}
use Rattle.report.proofs.{Ends.written-report, Ends.refused-report}
use Rattle.report.proofs.write_plan.Goals as goal

pub slice_bounds-bytes-end : goal.slice_bounds-bytes-end
slice_bounds-bytes-end c = (kept c.init.ensures _ c.in-Ok.is).inside

pub slice_bounds-run-end : goal.slice_bounds-run-end
slice_bounds-run-end c = (kept c.init.ensures _ c.in-Ok.is).whole

pub returns-in-Ok : goal.returns-in-Ok
returns-in-Ok c = rw (← written-report _ c.init.ensures c.in-Ok.n c.in-Ok.is, ← c.run.ensures) c.write_numbers.ensures

pub returns-in-Err : goal.returns-in-Err
returns-in-Err c =
    rw (← refused-report _ c.init.ensures c.requires refl c.in-Err.why c.in-Err.is, ← c.from.ensures) c.write_refused_line.ensures
