-- `speed_book::first_from` meets its contract: a bisection gives what 11 halvings give (proofs/Halving), and each turn of the loop is
-- one halving.
use mathlib.Core.Path.{refl, ◌∙◌, sym}
use native.Mathlib.Omega.{arith}
use Rattle.speed_book.proofs.Halving.{at-end, upper-half, lower-half}
use Rattle.speed_book.proofs.first_from.Goals as goal

pub loop-low-init : goal.loop-low-init
loop-low-init c = record { within = omega arith; left = (11, record { enough = omega arith; gives = refl }) }

pub loop-low-preserved-then-book-middle : goal.loop-low-preserved-then-book-middle
loop-low-preserved-then-book-middle c =
    let left = c.loop-low.invariant.left in
    record { within = omega arith; left = upper-half _ _ _ _ _ (omega arith) left.0 left.1 c.if-book-middle.true }

pub loop-low-preserved : goal.loop-low-preserved
loop-low-preserved c =
    let left = c.loop-low.invariant.left in
    record { within = omega arith; left = lower-half _ _ _ _ _ (omega arith) left.0 left.1 c.if-book-middle.false }

pub returns : goal.returns
returns c = let left = c.loop-low.invariant.left in sym (left.1.gives ∙ at-end _ _ _ _ left.0 (omega arith))
