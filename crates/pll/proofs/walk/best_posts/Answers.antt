-- `pll::walk::best_posts` meets its contract: one of the two table entries has the lowest rank at this divider
-- (`nearest-lowest`), and two calls of `nearer` take the minimum of `best` and both.
use native.Mathlib.Omega.{arith}
use Rattle.pll.proofs.{Nearest.nearest-lowest}
use Rattle.pll.proofs.walk.best_posts.Goals as goal

pub returns : goal.returns
returns c = let pre = c.requires in
    record {
      here = _;
      found = nearest-lowest _ _ _ pre.0 pre.1 _ _ c.wanted_product.ensures
          (rw (← c.from-pair.ensures) at c.posts_near.ensures) (omega arith);
      lower = rw (c.nearer.ensures, c.nearer-now.ensures) (omega arith);
    }
