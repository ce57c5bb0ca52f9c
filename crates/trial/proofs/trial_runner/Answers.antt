-- `trial::trial_runner` meets its contract: the preset is accepted, so `init` does not refuse (`never-refused`), and the bytes
-- that it wrote are the sheet of the trial (`written`).
use mathlib.Core.{List.List, Path.refl, Path.ap, Path.◌∙◌}
use Rattle.std.proofs.Common.{ℕ}
use Rattle.chip.specs.declared.Chip.TheVariants.{Rp2040}
use Rattle.config.specs.Presets.{crystal_plan}
use Rattle.bring_up.specs.Wait.{runner_after}
use Rattle.bring_up.proofs.Run.{sheet-size}
use Rattle.trial.specs.Load.{flags}
use Rattle.trial.proofs.{Sheets.written, Sheets.never-refused}
use Rattle.trial.proofs.trial_runner.Goals as goal

pub returns-in_default : goal.returns-in_default
returns-in_default c = absurd (never-refused c.crystal-plan.ensures c.init.ensures refl _ c.in_default.is)

pub slice_bounds-bytes-end : goal.slice_bounds-bytes-end
slice_bounds-bytes-end c = (written c.crystal-plan.ensures c.init.ensures _ c.in-Ok.is).inside

pub slice_bounds-run-end : goal.slice_bounds-run-end
slice_bounds-run-end c = (written c.crystal-plan.ensures c.init.ensures _ c.in-Ok.is).whole

pub run-requires : goal.run-requires
run-requires c =
    rw (written c.crystal-plan.ensures c.init.ensures _ c.in-Ok.is).bytes (sheet-size (crystal_plan Rp2040 12000000) 11)

pub returns : goal.returns
returns c =
    c.run.ensures
    ∙ ap (λ (s : List ℕ). runner_after s (flags c.args.seed) c.args.count)
    (written c.crystal-plan.ensures c.init.ensures _ c.in-Ok.is).bytes
