-- `lister::Listing::put_post1` meets its contract: where the test fails, on either side, there is no post 2
-- (`no-product-kept`).
use Rattle.std.proofs.lemmas.Grind.{common_steps}
use native.Mathlib.Omega.{arith}
use Rattle.lister.proofs.{Writing.put_none, Hits.no-product-kept}
use Rattle.lister.proofs.Listing.put_post1.Goals as goal

pub returns-else-contains : goal.returns-else-contains
returns-else-contains c =
    let none = no-product-kept c.args.fbdiv c.args.post1 c.requires.2 c.args.product in
    rw (none (λ lo hi whole. grind (arith, common_steps)), put_none)
