-- With the lines of the clocks that are left the whole text is put.
use Rattle.std.specs.Prelude.{◌≡◌, drop}
use Rattle.base.specs.Writing.{written, puts}
use Rattle.report.proofs.Clocks.{clock_lines}
use Rattle.report.proofs.write_clocks.Given as goal

abbrev pub invariant-loop-clock : goal.invariant-loop-clock
invariant-loop-clock l =
    puts (written l.out) (clock_lines l.r (drop l.clock-index l.clock-items))
    ≡ puts (written l.initial.out) (clock_lines l.r l.clock-items)
