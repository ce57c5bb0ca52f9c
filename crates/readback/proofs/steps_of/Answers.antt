-- `readback::steps_of` meets its contract: each call gives the step that is added, and at the end all that are read are there.
use mathlib.Core.Path.{◌∙◌}
use Rattle.readback.proofs.Gathered.{unwrapped, one_onward, all_read, at_end}
use Rattle.readback.proofs.steps_of.Goals as goal

pub loop-step-preserved : goal.loop-step-preserved
loop-step-preserved c =
    let s = c.in-Some.ensures.steps in
    one_onward _ _ _ _ _ _ _ _ _ c.loop-step.invariant s.0 s.1 (c.unwrap_or.ensures ∙ unwrapped c.in-Some.step)
    c.push.ensures.room

pub returns : goal.returns
returns c =
    let on = c.loop-step.invariant in
    all_read _ _ _ _ on (λ h. at_end _ _ _ on.whole (c.in-None.ensures.steps h))
