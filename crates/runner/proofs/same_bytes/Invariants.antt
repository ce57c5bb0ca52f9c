-- `runner::same_bytes`: what was found so far, and the test of what is left, are the test of the whole.
use Rattle.std.proofs.Common.{◌≡◌, length}
use mathlib.Core.Bool.{◌&&◌}
use Rattle.text.specs.Ascii.{same}
use Rattle.runner.proofs.same_bytes.Given as goal

abbrev pub invariant-loop-x : goal.invariant-loop-x
invariant-loop-x l =
    (length l.x-iterator.a.rest.now ≡ length l.x-iterator.b.rest.now)
    × ((l.equal && same l.x-iterator.a.rest.now l.x-iterator.b.rest.now) ≡ same l.fn.a l.fn.b)
