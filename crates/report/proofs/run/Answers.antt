-- `report::run` meets its contract: `runs-next` makes one call of those that are left, and with none left the current
-- runner and mask are the result (`runs_none`).
use mathlib.Core.Path.{◌≡◌, ◌∙◌}
use Prim.Native.Nat.{◌+◌, ◌-◌}
use native.Mathlib.Omega.{arith}
use Rattle.report.proofs.{Runs.runs-next, Runs.runs_none}
use Rattle.report.proofs.run.Goals as goal

pub loop-preserved : goal.loop-preserved
loop-preserved c =
    let sheet = c.args.sheet.now in
    let left = c.args.calls - c.loop.counter in
    let less : c.args.calls - (c.loop.counter + 1) ≡ left - 1 = omega arith in
    rw (less, c.mask_after-mask.ensures)
    (runs-next sheet left c.loop.runner c.loop.mask c.poll.result c.poll.new.self (omega arith) c.poll.ensures
    ∙ c.loop.invariant)

pub returns : goal.returns
returns c =
    runs_none c.args.sheet.now (c.args.calls - c.loop.counter) c.loop.runner c.loop.mask (omega arith) ∙ c.loop.invariant
