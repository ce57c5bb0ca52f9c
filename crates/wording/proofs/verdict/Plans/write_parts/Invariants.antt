-- The texts of the first k settings are written.
use Rattle.base.specs.Writing.{Puts}
use Rattle.wording.specs.Differs.{part_texts}
use Rattle.wording.proofs.verdict.Plans.write_parts.Given as goal

abbrev pub invariant-loop-k : goal.invariant-loop-k
invariant-loop-k l =
    Puts l.initial.out (part_texts l.mask l.self.reading l.self.delivered l.self.ordered l.k) l.out
