-- `runner::same_bytes`: before the loop all is left to test; by `take-length` what is left may also be cut out of a and b, as long as
-- it is all of them.
use Rattle.std.proofs.Common.{rules}
use lib.Seq.{take-length}
use Rattle.runner.proofs.same_bytes.Goals as goal

pub loop-x-init : goal.loop-x-init
loop-x-init c = (search rules, search (rules, take-length))
