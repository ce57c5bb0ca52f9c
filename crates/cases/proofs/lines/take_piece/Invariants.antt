-- What is held and the buffer of answers, fed with the rest of the piece, are what the whole piece gives.
use Rattle.std.specs.Prelude.{◌≡◌, length, drop}
use Rattle.cases.specs.Lines.{feeds, feeds_out}
use Rattle.cases.proofs.lines.take_piece.Given as goal

abbrev pub invariant-loop-b : goal.invariant-loop-b
invariant-loop-b g l =
    (length l.out ≡ length l.initial.out) × (feeds l.held (drop l.b-index l.piece) ≡ feeds l.initial.held l.piece)
    × (feeds_out l.held l.out (drop l.b-index l.piece) ≡ feeds_out l.initial.held l.initial.out l.piece)
