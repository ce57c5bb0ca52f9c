-- `step::packing::unpack` meets its contract: `unpack-unknown` shows that a word of a number that is no kind is refused.
use mathlib.Core.Path.{refl}
use Rattle.step.proofs.{Laws.unpack-unknown}
use Rattle.step.proofs.packing.unpack.Goals as goal

pub returns-in-Unknown : goal.returns-in-Unknown
returns-in-Unknown c = unpack-unknown c.args.word (rw (← c.kind_in.ensures, c.in-Unknown.is) refl)
