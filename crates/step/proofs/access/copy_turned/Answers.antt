-- `step::access::copy_turned` meets its contract: each iteration adds the bytes of one word (`copied_more`), which the library
-- gives (`turned-le`); `copied` is the buffer in the end, with room for all words and without.
use mathlib.Core.Path.{◌∙◌}
use Rattle.std.proofs.Common.{arith, rules, ◌≡◌, length}
use lib.Seq.{take-length}
use Rattle.step.proofs.{Copies.copied_more, Copies.copied-room, Copies.copied-short, Laws.turned-le}
use Rattle.step.proofs.access.copy_turned.Goals as goal

pub returns-then-buf-words-clause-buf_after : goal.returns-then-buf-words-clause-buf_after
returns-then-buf-words-clause-buf_after c = (copied-short c.args.words.now c.args.buf.now (omega arith)).1

pub loop-i-preserved : goal.loop-i-preserved
loop-i-preserved c =
    copied_more c.args.words.now c.args.buf.now c.loop-i.buf _ c.loop-i.i _ (omega arith) (omega arith) c.loop-i.invariant
    (search (rules, turned-le))

pub returns-clause-buf_after : goal.returns-clause-buf_after
returns-clause-buf_after c =
    let ws = c.args.words.now in
    let all : c.loop-i.i ≡ length ws = omega arith in
    c.loop-i.invariant ∙ rw (all, take-length ws) (copied-room ws c.args.buf.now (omega arith)).1
