-- The lines of the first k parts are put.
use Rattle.base.specs.Writing.{Puts}
use Rattle.wording.specs.Differences.{part_lines}
use Rattle.wording.proofs.meanings.compared.write_differences.Given as goal

abbrev pub invariant-loop-k : goal.invariant-loop-k
invariant-loop-k l = Puts l.initial.out (part_lines l.mask l.k) l.out
