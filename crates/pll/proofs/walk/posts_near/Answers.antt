-- `pll::walk::posts_near` meets its contract: each entry of the table passes the test of the table's rule.
use mathlib.Core.Path.{refl}
use native.Mathlib.Omega.{arith}
use Rattle.pll.specs.declared.walk.TheConstants.{NEAREST}
use Rattle.pll.proofs.Table.{all, right, entries-right}
use Rattle.pll.proofs.walk.posts_near.Goals as goal

pub returns : goal.returns
unfolding all right
returns c = entries-right NEAREST 50 _ refl (omega arith)
