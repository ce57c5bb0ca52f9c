-- `readback::chip_in` meets its contract: a sheet whose first step is the chip mark is one of the RP235x.
use Rattle.std.proofs.Common.{arith}
use Rattle.readback.proofs.chip_in.Goals as goal

pub returns-then-eq : goal.returns-then-eq
returns-then-eq c = grind arith
