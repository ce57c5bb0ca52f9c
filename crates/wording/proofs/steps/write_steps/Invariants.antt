-- The lines before a position are put, and the chunks that are left are the sheet from there on.
use Rattle.std.specs.{Iterator.Adapters.enumerate_source, Iterator.Adapters.enumerate_count, Slice.Iter.chunks_rest, Slice.Iter.chunks_size}
use Rattle.base.specs.Writing.{written}
use Rattle.wording.proofs.StepLines.{Listed}
use Rattle.wording.proofs.steps.write_steps.Given as goal

abbrev pub invariant-loop-position : goal.invariant-loop-position
invariant-loop-position l =
    Listed l.chip l.sheet (enumerate_count l.position-iterator) (chunks_size (enumerate_source l.position-iterator))
    (chunks_rest (enumerate_source l.position-iterator)) (written l.out) (written l.initial.out)
