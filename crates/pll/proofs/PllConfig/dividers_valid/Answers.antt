-- `pll::PllConfig::dividers_valid` meets its contract: each range decides its test of `dividers_of`.
use mathlib.Core.Path.{◌≡◌}
use native.Mathlib.Omega.{arith}
use Rattle.std.proofs.lemmas.Grind.{common_steps}
use Rattle.base.specs.Choice.{in_range}
use Rattle.pll.specs.Ranges.{feedback_min, feedback_max}
use Rattle.pll.proofs.PllConfig.dividers_valid.Goals as goal

pub returns : goal.returns
returns c =
    let of = c.args.self in
    let refdiv : c.contains.result ≡ in_range 1 63 of.refdiv = grind (arith, common_steps) in
    let fbdiv : c.contains-2.result ≡ in_range feedback_min feedback_max of.fbdiv = grind (arith, common_steps) in
    let post1 : c.contains-3.result ≡ in_range 1 7 of.post_div1 = grind (arith, common_steps) in
    let post2 : c.contains-4.result ≡ in_range 1 7 of.post_div2 = grind (arith, common_steps) in
    rw (refdiv, fbdiv, post1, post2)
