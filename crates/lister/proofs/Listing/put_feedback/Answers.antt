-- `lister::Listing::put_feedback` meets its contract: a target of 0, or one that does not divide the VCO frequency, has no
-- setting (`none-meets`); else the settings are those whose post product is the quotient (`product-meets`).
use Rattle.std.specs.Prelude.{refl, ◌<◌}
use native.Mathlib.Nat.{mul-mod_right}
use Rattle.std.proofs.Common.{rules}
use Rattle.lister.proofs.{Writing.put_none, Hits.none-meets, Hits.product-meets}
use Rattle.lister.proofs.Listing.put_feedback.Goals as goal

pub returns-then-is_multiple_of : goal.returns-then-is_multiple_of
returns-then-is_multiple_of c =
    let args = c.args in
    let whole = c.if-is_multiple_of.ensures.0 refl in
    let some : 0 < args.target_hz = search rules in
    rw (product-meets args.input_hz args.target_hz args.fbdiv c.requires.1 c.requires.2 some whole) c.put_posts.ensures

pub returns-else-is_multiple_of : goal.returns-else-is_multiple_of
returns-else-is_multiple_of c =
    let args = c.args in
    rw (
      none-meets args.input_hz args.target_hz args.fbdiv
          (λ p least low v e. let no = c.if-is_multiple_of.ensures.1 (rw (← e) (mul-mod_right args.target_hz p)) in cc),
      put_none,
    )
