-- `step::access::copy_turned` meets its contract: after i iterations the buffer starts with the bytes of i words: `copied_more`.
use Rattle.std.proofs.Common.{◌≡◌, ◌*◌, ◌++◌, take, drop, map}
use Rattle.step.specs.Bytes.{turned_of, bytes_of}
use Rattle.step.proofs.access.copy_turned.Given as goal

abbrev pub invariant-loop-i : goal.invariant-loop-i
invariant-loop-i l = l.buf ≡ bytes_of (map turned_of (take l.i l.words)) ++ drop (8 * l.i) l.initial.buf
