-- `readback::gives` meets its contract: a length means that the plan is accepted and the buffer starts with its sheet (`kept`); as
-- every sheet has room, a refusal means that it is not accepted (`turned-back`).
use Rattle.std.proofs.Common.{rules}
use Rattle.sheet.proofs.{Ends.sheet-most, Kept.kept, Kept.turned-back}
use Rattle.readback.specs.Read.{gives}
use Rattle.readback.proofs.Accepting.{some-held}
use Rattle.readback.proofs.gives.Goals as goal

pub slice_bounds-written-end : goal.slice_bounds-written-end
slice_bounds-written-end c = (kept c.init.ensures _ c.in-Ok.is).inside

pub slice_bounds-eq-end : goal.slice_bounds-eq-end
slice_bounds-eq-end c = (kept c.init.ensures _ c.in-Ok.is).whole

pub returns-in-Ok : goal.returns-in-Ok
unfolding gives
returns-in-Ok c = let k = kept c.init.ensures _ c.in-Ok.is in rw (k.accepted, ← k.bytes) (search rules)

pub returns-in-Err : goal.returns-in-Err
unfolding gives
returns-in-Err c =
    rw (some-held _ (turned-back c.init.ensures (sheet-most c.args.plan c.args.reading) _ c.in-Err.is))
