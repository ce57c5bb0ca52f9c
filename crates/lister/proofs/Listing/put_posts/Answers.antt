-- `lister::Listing::put_posts` meets its contract: the loop keeps that putting the settings of the remaining post 1
-- completes the settings of this divider, of which there are at most 28.
use Prim.Native.Nat.{◌-◌}
use native.Mathlib.Omega.{arith}
use Rattle.pll.specs.Search.{falling}
use Rattle.lister.specs.Order.{at_post1, at_feedback, has_product}
use Rattle.lister.proofs.Walks.{falling-step, falling-end, one_more, done, index-most, few-posts}
use Rattle.lister.proofs.Listing.put_posts.Goals as goal

pub put_post1-requires : goal.put_post1-requires
put_post1-requires c =
    let most = index-most (has_product c.args.product) _ _ (at_feedback c.args.fbdiv) _ c.loop-post1.invariant in
    (omega (arith, few-posts c.args.fbdiv), omega arith, omega arith, omega arith)

pub loop-post1-preserved : goal.loop-post1-preserved
loop-post1-preserved c =
    let n = c.loop-post1.post1 in
    rw (one_more (has_product c.args.product) _ _ (at_post1 c.args.fbdiv) n (falling n) (falling (n - 1))
    (falling-step n (omega arith)) c.put_post1.ensures) c.loop-post1.invariant

pub returns : goal.returns
returns c =
    let l = c.loop-post1 in
    rw (done (has_product c.args.product) _ (at_post1 c.args.fbdiv) (falling l.post1) (falling-end l.post1 (omega arith)))
    at l.invariant
