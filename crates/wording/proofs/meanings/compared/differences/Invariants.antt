-- The mask has the bits of the parts that are not left.
use Rattle.std.specs.{Slice.Iter.iter_rest, Iterator.Adapters.rev_source}
use Rattle.wording.specs.{Parts.parts_of, Inside.agreeing}
use Rattle.wording.proofs.Bits.{Masked}
use Rattle.wording.proofs.meanings.compared.differences.Given as goal

abbrev pub invariant-loop-same : goal.invariant-loop-same
invariant-loop-same l = Masked (agreeing (parts_of l.fn.a) (parts_of l.fn.b)) (iter_rest (rev_source l.same-iterator)) l.mask
