-- The values of the pairs so far are written.
use Rattle.std.specs.Prelude.{map, take}
use Rattle.base.specs.Writing.{Puts}
use Rattle.text.proofs.Hexes.{pair_value}
use Rattle.text.proofs.write_pairs.Given as goal

abbrev pub invariant-loop-high : goal.invariant-loop-high
invariant-loop-high l = Puts l.initial.out (map pair_value (take l.high-index l.pairs)) l.out
