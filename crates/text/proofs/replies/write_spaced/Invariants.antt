-- The numbers so far are written.
use lib.ListN.{take}
use Rattle.base.specs.Writing.{Puts}
use Rattle.text.specs.Reply.{spaced_by}
use Rattle.text.proofs.replies.write_spaced.Given as goal

abbrev pub invariant-loop-n : goal.invariant-loop-n
invariant-loop-n g l = Puts l.initial.out (spaced_by g.T.Number.number (take l.n-index l.ns)) l.out
