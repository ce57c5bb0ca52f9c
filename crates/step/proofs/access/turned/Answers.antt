-- `step::access::turned` meets its contract: the library's swap is `turned_of`.
use mathlib.Core.Path.{◌∙◌}
use Rattle.step.proofs.Laws.{turned-swap}
use Rattle.step.proofs.access.turned.Goals as goal

pub returns : goal.returns
returns c = c.swap_bytes.ensures ∙ turned-swap c.args.x
