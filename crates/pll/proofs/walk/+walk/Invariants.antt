-- The measure of the walk is the feedback divider.
use Rattle.pll.proofs.walk.+walk.Given as goal

abbrev pub decreases-walk : goal.decreases-walk
decreases-walk l = l.fbdiv
