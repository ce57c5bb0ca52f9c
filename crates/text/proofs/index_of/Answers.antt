-- `text::index_of` meets its contract: the place that `position` answers is that of the first b, and without it the length is; by
-- `length-up` it counts the bytes before.
use Rattle.std.specs.Prelude.{ℕ, eqb, length, unwrap_or, Option}
use mathlib.Core.Path.{ap, sym, ◌∙◌}
use borrow.Author.{Rules.rules, Tests.tests}
use Rattle.std.proofs.lemmas.Iterator.{YieldsList-from_slice, Search.position_from_yields_List}
use Rattle.text.proofs.Lines.{place-or-length, length-up}
use Rattle.text.proofs.index_of.Goals as goal

pub returns-clause-value : goal.returns-clause-value
returns-clause-value c =
    let s = c.args.s.now in
    let b = c.args.b in
    let place = position_from_yields_List (λ x. eqb x b) _ _ _ c.position.ensures.ran (YieldsList-from_slice s cc)
    (λ x t q k. search (rules, tests)) in
    c.unwrap_or.ensures ∙ ap (λ (o : Option ℕ). unwrap_or o (length s)) place ∙ place-or-length (λ x. eqb x b) s
    ∙ sym (length-up b s)
