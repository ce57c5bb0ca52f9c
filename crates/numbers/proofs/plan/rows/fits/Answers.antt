-- `plan::rows::fits` meets its contract: `all` goes over the limits with their indices.
use Rattle.std.specs.Prelude.{◌≡◌, ℕ, ◌+◌}
use mathlib.Core.Path.{ap, ◌∙◌}
use native.Mathlib.Omega.{arith}
use borrow.Author.{Rules.rules, Tests.tests}
use Rattle.std.proofs.lemmas.Iterator.{YieldsList-from_slice, Consumers.YieldsList-from_enumerate, Search.all_from_yields_List}
use Rattle.numbers.specs.Parts.{fit_from}
use Rattle.numbers.proofs.Fits.{within, each_within}
use Rattle.numbers.proofs.plan.rows.fits.Goals as goal

pub returns : goal.returns
returns c =
    let a = c.args in
    let first : a.i + 0 ≡ a.i = omega arith in
    all_from_yields_List (within a.there a.n.now a.i) _ _ _ c.all.ensures.ran
    (YieldsList-from_enumerate (YieldsList-from_slice a.limits.now cc) (search rules)) (λ x t q k. search (rules, tests))
    ∙ each_within a.there a.n.now a.i 0 a.limits.now
    ∙ ap (λ (at : ℕ). fit_from a.there a.n.now at a.limits.now) first
