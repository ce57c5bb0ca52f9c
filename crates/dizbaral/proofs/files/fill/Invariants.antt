-- n is at most the buffer's length, which stays. Measure: what is left of the buffer.
use Rattle.std.proofs.Common.{length, ◌-◌, ◌≡◌, ◌≤◌}
use Rattle.dizbaral.proofs.files.fill.Given as goal

abbrev pub invariant-loop-n : goal.invariant-loop-n
invariant-loop-n g l = (l.n ≤ length l.initial.bytes) × (length l.bytes ≡ length l.initial.bytes)

abbrev pub decreases-loop-n : goal.decreases-loop-n
decreases-loop-n g l = length l.initial.bytes - l.n
