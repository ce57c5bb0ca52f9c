-- `text::are_pairs` meets its contract: an even length with hex digits alone makes pairs, and an odd length none.
use Rattle.std.specs.Prelude.{◌≡◌, false, ◌%◌, eqb, length}
use mathlib.Core.Path.{◌∙◌, sym}
use borrow.Author.{Rules.rules, Tests.tests}
use Rattle.std.specs.Char.{is_ascii_hexdigit}
use Rattle.std.proofs.lemmas.Iterator.{YieldsList-from_slice, Search.all_from_yields_List}
use Rattle.text.proofs.Hexes.{pairs-even, pairs-odd}
use Rattle.text.proofs.are_pairs.Goals as goal

pub returns-then-s-eq0 : goal.returns-then-s-eq0
returns-then-s-eq0 c =
    let s = c.args.s.now in
    all_from_yields_List is_ascii_hexdigit _ _ _ c.all.ensures.ran (YieldsList-from_slice s cc) (λ x t q k. search (rules, tests))
    ∙ pairs-even s c.if-s-eq0.true

pub returns-else-s-eq0 : goal.returns-else-s-eq0
returns-else-s-eq0 c =
    let odd : eqb (length c.args.s.now % 2) 0 ≡ false = search rules in
    odd ∙ sym (pairs-odd c.args.s.now c.if-s-eq0.false)
