-- The digits of the bytes so far are written.
use lib.ListN.{take}
use Rattle.base.specs.Writing.{Puts}
use Rattle.text.specs.Hex.{hex_digits}
use Rattle.text.proofs.write_hex.Given as goal

abbrev pub invariant-loop-b : goal.invariant-loop-b
invariant-loop-b l = Puts l.initial.out (hex_digits (take l.b-index l.s)) l.out
