-- After i draws the last draw and the lines written are those of the definitions.
use Rattle.std.proofs.Common.{◌≡◌}
use Rattle.base.specs.Writing.{Puts}
use Rattle.trial.specs.{Lcg.drawn, Targets.target_lines}
use Rattle.trial.proofs.lcg.write_targets.Given as goal

abbrev pub invariant-loop : goal.invariant-loop
invariant-loop l = (l.x ≡ drawn l.seed l.counter) × Puts l.initial.out (target_lines l.seed l.counter) l.out
