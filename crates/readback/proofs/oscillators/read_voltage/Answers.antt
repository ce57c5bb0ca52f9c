-- `readback::oscillators::read_voltage` meets its contract: the derived test of two kinds is `is`, so the voltage step is there, and the
-- delay step is or is not.
use Rattle.std.proofs.{Common.sym, Common.◌∙◌, lemmas.Bool.not-false, lemmas.Bool.not-true}
use Rattle.step.proofs.Numbers.{derived_is}
use Rattle.readback.proofs.oscillators.read_voltage.Goals as goal

pub returns-then-ne-2 : goal.returns-then-ne-2
returns-then-ne-2 c =
    let set = not-false _ (sym (rw derived_is at c.ne.ensures) ∙ c.if-ne.false) in
    let delay = not-true _ (sym (rw derived_is at c.ne-2.ensures) ∙ c.if-ne-2.true) in
    rw (c.past.ensures, ← c.ahead-set.ensures, set, ← c.ahead-delay.ensures, delay)

pub returns : goal.returns
returns c =
    let set = not-false _ (sym (rw derived_is at c.ne.ensures) ∙ c.if-ne.false) in
    let delay = not-false _ (sym (rw derived_is at c.ne-2.ensures) ∙ c.if-ne-2.false) in
    rw (c.past-2.ensures, ← c.ahead-set.ensures, set, ← c.ahead-delay.ensures, delay)
