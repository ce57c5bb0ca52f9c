-- `numbers::sleep_call::change` meets its contract: where the flags are no slots' nothing changes; else `carried` and `turned`
-- say what the answer leaves, with what the two writers put.
use mathlib.Core.Path.{sym}
use native.Mathlib.Omega.{arith}
use Rattle.base.proofs.Writing.{finished}
use Rattle.numbers.proofs.{Words.words_whole, Asked.turned, Asked.carried}
use Rattle.numbers.proofs.sleep_call.change.Goals as goal

pub shape_of-slots-in-Ok : goal.shape_of-slots-in-Ok
shape_of-slots-in-Ok c = sym (finished c.new-out.result c.put_slots.new.out _ c.new-out.ensures c.put_slots.ensures).name

pub shape_of-steps-in-Ok : goal.shape_of-steps-in-Ok
shape_of-steps-in-Ok c = sym (finished c.new-out-in-Ok.result c.put_steps.new.out _ c.new-out-in-Ok.ensures c.put_steps.ensures).name

pub returns-in-Ok : goal.returns-in-Ok
returns-in-Ok c =
    let p = (finished c.new-out.result c.put_slots.new.out _ c.new-out.ensures c.put_slots.ensures).placed in
    let q = (finished c.new-out-in-Ok.result c.put_steps.new.out _ c.new-out-in-Ok.ensures c.put_steps.ensures).placed in
    let asks = rw c.are_slots.ensures at c.if-not-slot-are_slots.false in
    let call = rw (c.in-Ok.is, c.slots-held.ensures) at c.asked.ensures in
    rw (asks, words_whole c.args.words.now (omega arith)) (carried _ _ _ _ c.in-Ok.list _ _ _ _ _ _ _ _ call (omega arith) p q)

pub returns-in-Err : goal.returns-in-Err
returns-in-Err c =
    let asks = rw c.are_slots.ensures at c.if-not-slot-are_slots.false in
    let call = rw (c.in-Err.is, c.slots-held.ensures) at c.asked.ensures in
    rw (asks, words_whole c.args.words.now (omega arith)) (turned _ _ _ _ _ _ _ _ _ _ call c.refused.ensures)
