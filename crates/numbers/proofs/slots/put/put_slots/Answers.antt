-- `numbers::slots::put::put_slots` meets its contract: `one_put` puts the numbers of one more item.
use native.Mathlib.Omega.{arith}
use Rattle.numbers.specs.Slots.{slot_numbers}
use Rattle.numbers.proofs.Each.{none_put, one_put}
use Rattle.numbers.proofs.slots.put.put_slots.Goals as goal

pub loop-slot-init : goal.loop-slot-init
loop-slot-init c = none_put slot_numbers c.args.slots.now _

pub loop-slot-preserved : goal.loop-slot-preserved
loop-slot-preserved c =
    let slots = c.args.slots.now in
    one_put slot_numbers slots _ c.loop-slot.slot-index _ _ _ (omega arith) c.loop-slot.invariant c.put_slot.ensures
