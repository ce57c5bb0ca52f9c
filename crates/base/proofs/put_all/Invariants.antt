-- The values so far are placed.
use lib.ListN.{take}
use Rattle.base.specs.Placed.{Placed}
use Rattle.base.proofs.put_all.Given as goal

abbrev pub invariant-loop-x : goal.invariant-loop-x
invariant-loop-x g l = Placed l.initial.buf l.at (take l.x-index l.xs) l.end l.buf
