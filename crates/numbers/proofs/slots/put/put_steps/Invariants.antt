-- The numbers of the first items are put.
use Rattle.std.specs.Prelude.{flat_map, take}
use Rattle.base.specs.Writing.{Puts}
use Rattle.numbers.specs.Slots.{step_numbers}
use Rattle.numbers.proofs.slots.put.put_steps.Given as goal

abbrev pub invariant-loop-step : goal.invariant-loop-step
invariant-loop-step l = Puts l.initial.out (flat_map step_numbers (take l.step-index l.step-items)) l.out
