-- The calls that are left, from the current runner and mask, end as all calls do.
use Rattle.std.specs.Prelude.{◌≡◌, ◌-◌}
use Rattle.report.specs.Ran.{runs, ran_of}
use Rattle.report.proofs.run.Given as goal

abbrev pub invariant-loop : goal.invariant-loop
invariant-loop l = runs l.sheet (l.calls - l.counter) l.runner l.mask ≡ ran_of l.sheet l.calls
