-- `numbers::slots::put::put_steps` meets its contract: `one_put` puts the numbers of one more item.
use native.Mathlib.Omega.{arith}
use Rattle.numbers.specs.Slots.{step_numbers}
use Rattle.numbers.proofs.Each.{none_put, one_put}
use Rattle.numbers.proofs.slots.put.put_steps.Goals as goal

pub loop-step-init : goal.loop-step-init
loop-step-init c = none_put step_numbers c.as_slice-step-items.result.now _

pub loop-step-preserved : goal.loop-step-preserved
loop-step-preserved c =
    let steps = c.as_slice-step-items.result.now in
    one_put step_numbers steps _ c.loop-step.step-index _ _ _ (omega arith) c.loop-step.invariant c.put_step.ensures
