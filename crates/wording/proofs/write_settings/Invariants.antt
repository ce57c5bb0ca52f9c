-- `wording::write_settings` meets its contract: the lines of the settings before k are written.
use Rattle.base.specs.Writing.{Puts}
use Rattle.wording.specs.Words.{setting_lines}
use Rattle.wording.proofs.write_settings.Given as goal

abbrev pub invariant-loop-k : goal.invariant-loop-k
invariant-loop-k l = Puts l.initial.out (setting_lines l.plan l.reading l.k) l.out
