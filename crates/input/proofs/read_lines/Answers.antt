-- `input::read_lines` meets its contract: the place of the byte that is read is within the buffer.
use native.Mathlib.Omega.{arith}
use Rattle.input.proofs.read_lines.Goals as goal

pub returns-then-left-eq0 : goal.returns-then-left-eq0
returns-then-left-eq0 g c = omega arith
