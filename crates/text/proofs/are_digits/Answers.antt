-- `text::are_digits` meets its contract: the library's test of each byte is that of the definition.
use mathlib.Core.Path.{◌∙◌}
use borrow.Author.{Rules.rules, Tests.tests}
use Rattle.std.specs.Char.{is_ascii_digit}
use Rattle.std.proofs.lemmas.Iterator.{YieldsList-from_slice, Search.all_from_yields_List}
use Rattle.text.proofs.Decimals.{each_digit}
use Rattle.text.proofs.are_digits.Goals as goal

pub returns-then-contains : goal.returns-then-contains
returns-then-contains c =
    let s = c.args.s.now in
    let all = all_from_yields_List is_ascii_digit _ _ _ c.all.ensures.ran (YieldsList-from_slice s cc) (λ x t q k. search (rules, tests)) in
    let e = all ∙ each_digit s in
    search (rules, tests, e)
