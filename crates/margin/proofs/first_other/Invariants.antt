-- The loop keeps that what is given for the first targets is given below `low`, and the other at `high`.
use Rattle.std.specs.Prelude.{not, ℕ, ◌-◌, ◌≤◌, ◌<◌}
use Rattle.margin.specs.Walk.{Given}
use Rattle.margin.proofs.first_other.Given as goal

abbrev pub invariant-loop-low : goal.invariant-loop-low
invariant-loop-low l = record {
  from : l.fn.low ≤ l.low;
  order : l.low ≤ l.high;
  to : l.high ≤ l.fn.high;
  before : (t : ℕ) → l.fn.low ≤ t → t < l.low → Given l.given l.input_hz l.c t;
  here : l.high < l.fn.high → Given (not l.given) l.input_hz l.c l.high;
}

abbrev pub decreases-loop-low : goal.decreases-loop-low
decreases-loop-low l = l.high - l.low
