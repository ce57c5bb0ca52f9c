-- After i calls the runner and the last draw are those of the definitions.
use Rattle.std.proofs.Common.{◌≡◌}
use Rattle.bring_up.specs.Wait.{runner_after}
use Rattle.trial.specs.{Lcg.drawn, Load.flags}
use Rattle.trial.proofs.run.Given as goal

abbrev pub invariant-loop : goal.invariant-loop
invariant-loop l = (l.x ≡ drawn l.seed l.counter) × (l.runner ≡ runner_after l.sheet (flags l.seed) l.counter)
