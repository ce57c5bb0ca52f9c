-- The loop keeps that halvings enough for what is left between `low` and `high` give the result.
use Prim.Native.Nat.{ℕ, ◌-◌, ◌≤◌}
use Rattle.speed_book.specs.{Book.entries, Lookup.first_from}
use Rattle.speed_book.proofs.Halving.{Halves}
use Rattle.speed_book.proofs.first_from.Given as goal

abbrev pub invariant-loop-low : goal.invariant-loop-low
invariant-loop-low l = record {
  within : l.high ≤ entries;
  left : (n : ℕ) × Halves l.book l.bound l.low l.high n (first_from l.book l.bound);
}

abbrev pub decreases-loop-low : goal.decreases-loop-low
decreases-loop-low l = l.high - l.low
