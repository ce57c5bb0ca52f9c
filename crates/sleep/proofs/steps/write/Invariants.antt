-- After i registers their writes are appended.
use Rattle.std.specs.Prelude.{◌≡◌, ◌++◌, take}
use Rattle.sleep.specs.Sleep.{writes}
use Rattle.sleep.proofs.steps.write.Given as goal

abbrev pub invariant-loop-register : goal.invariant-loop-register
invariant-loop-register l = l.steps.list ≡ l.initial.steps.list ++ writes l.words (take l.register-index l.registers)
