-- `report::write_report` meets its contract: the equation of `line_number` decides between a target, whose report
-- `write_target` puts, and the line of the refusal.
use Rattle.report.specs.Report.{report_of}
use Rattle.report.proofs.write_report.Goals as goal

pub returns-in-Ok : goal.returns-in-Ok
unfolding report_of
returns-in-Ok c = rw (← c.line_number.ensures, c.in-Ok.is) c.write_target.ensures

pub returns-in-Err : goal.returns-in-Err
unfolding report_of
returns-in-Err c = rw (← c.line_number.ensures, c.in-Err.is, ← c.from.ensures) c.write_refused_line.ensures
