-- The steps so far are the first steps of the sheet, and the reader is at the position after them.
use Rattle.std.specs.Iterator.Adapters.{take_source, take_count}
use Rattle.readback.proofs.Gathered.{Onward}
use Rattle.readback.proofs.steps_of.Given as goal

abbrev pub invariant-loop-step : goal.invariant-loop-step
invariant-loop-step l = Onward l.sheet l.steps.list (take_source l.step-iterator) (take_count l.step-iterator)
