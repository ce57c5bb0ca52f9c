-- `readback::clocks::read_aux` meets its contract: the derived test of two kinds is `is`, so the divider step is there or is not.
use Rattle.std.proofs.{Common.sym, Common.◌∙◌, lemmas.Bool.not-false, lemmas.Bool.not-true}
use Rattle.step.proofs.Numbers.{derived_is}
use Rattle.readback.proofs.clocks.read_aux.Goals as goal

pub returns-then-ne : goal.returns-then-ne
returns-then-ne c =
    let absent = not-true _ (sym (rw derived_is at c.ne.ensures) ∙ c.if-ne.true) in
    rw (c.past.ensures, ← c.ahead-divider.ensures, absent)

pub returns : goal.returns
returns c =
    let there = not-false _ (sym (rw derived_is at c.ne.ensures) ∙ c.if-ne.false) in
    rw (c.past-2.ensures, c.cut8.ensures, c.div_from.ensures, c.from.ensures, c.ahead-control.ensures)
    (rw (← c.ahead-divider.ensures, there))
