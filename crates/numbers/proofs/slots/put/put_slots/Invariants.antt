-- The numbers of the first items are put.
use Rattle.std.specs.Prelude.{flat_map, take}
use Rattle.base.specs.Writing.{Puts}
use Rattle.numbers.specs.Slots.{slot_numbers}
use Rattle.numbers.proofs.slots.put.put_slots.Given as goal

abbrev pub invariant-loop-slot : goal.invariant-loop-slot
invariant-loop-slot l = Puts l.initial.out (flat_map slot_numbers (take l.slot-index l.slots)) l.out
