-- `lister::Listing::put_posts` meets its contract: the loop keeps that putting the settings of the remaining post 1
-- completes the settings of this divider.
use mathlib.Core.{Path.◌≡◌, List.flat_map}
use Rattle.pll.specs.Search.{falling, keep}
use Rattle.lister.specs.Order.{at_post1, at_feedback, has_product, written, puts}
use Rattle.lister.proofs.Listing.put_posts.Given as goal

abbrev pub invariant-loop-post1 : goal.invariant-loop-post1
invariant-loop-post1 l =
    puts (written l.self) (keep (has_product l.product) (flat_map (at_post1 l.fbdiv) (falling l.post1)))
    ≡ puts (written l.initial.self) (keep (has_product l.product) (at_feedback l.fbdiv))
