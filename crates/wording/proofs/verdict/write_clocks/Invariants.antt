-- The lines of as many clocks are written as there were turns, and the iterators stand at the next clock.
use Rattle.std.specs.Prelude.{◌≡◌, ◌≤◌, drop}
use Rattle.base.specs.Writing.{Puts}
use Rattle.wording.specs.Differs.{clock_texts}
use Rattle.wording.proofs.verdict.write_clocks.Given as goal

abbrev pub invariant-loop-clock : goal.invariant-loop-clock
invariant-loop-clock l = record {
  inside : l.clock-iterator.count ≤ 10;
  was : l.clock-iterator.iter.a.rest.now ≡ drop l.clock-iterator.count l.delivered;
  asked : l.clock-iterator.iter.b.rest.now ≡ drop l.clock-iterator.count l.ordered;
  text : Puts l.initial.out (clock_texts l.delivered l.ordered l.clock-iterator.count) l.out;
}
