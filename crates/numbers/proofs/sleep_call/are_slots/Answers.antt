-- `sleep_call::are_slots` meets its contract: its tests are the definition's, in the same order.
use mathlib.Core.Path.{refl}
use Rattle.numbers.proofs.sleep_call.are_slots.Goals as goal

pub returns : goal.returns
returns c = refl
