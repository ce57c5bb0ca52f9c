-- `report::write_target` meets its contract: the plan that `system_freq` gives is one of the RP2040, as `write_plan` requires.
use mathlib.Core.Path.{sym, ap, ◌∙◌}
use Rattle.base.specs.Answer.{answer_of}
use Rattle.report.proofs.{Systems.on-rp2040}
use Rattle.report.proofs.write_target.Goals as goal

pub write_plan-requires : goal.write_plan-requires
write_plan-requires c = on-rp2040 c.args.hz c.in-Ok.plan
    (sym c.system_freq.ensures ∙ ap answer_of c.in-Ok.is)

pub returns-in-Ok : goal.returns-in-Ok
returns-in-Ok c = rw (← c.system_freq.ensures, c.in-Ok.is) c.write_plan.ensures

pub returns-in-Err : goal.returns-in-Err
returns-in-Err c = rw (← c.system_freq.ensures, c.in-Err.is, ← c.from.ensures) c.write_refused_line.ensures
