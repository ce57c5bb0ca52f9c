-- `readback::oscillators::read_crystal` meets its contract: `goes_on` carries each PLL's equation on to the steps after the previous
-- part, and `crystal-there` joins them.
use Rattle.std.proofs.{Common.sym, Common.◌∙◌, Common.drop, lemmas.Bool.not-false}
use Rattle.step.proofs.Numbers.{derived_is}
use Rattle.sheet.specs.Read.{read_pll}
use Rattle.readback.specs.Cut.{cut_pll}
use Rattle.readback.proofs.Parts.{crystal-there, goes_on}
use Rattle.readback.proofs.oscillators.read_crystal.Goals as goal

pub returns : goal.returns
returns c =
    let startup = not-false _ (sym (rw derived_is at c.ne.ensures) ∙ c.if-ne.false) in
    let sys = goes_on (read_pll 0) cut_pll _ _ _ c.read_pll-sys.ensures (sym c.past.ensures) in
    let usb = goes_on (read_pll 1) cut_pll _ _ _ c.read_pll-usb.ensures sys.rest in
    rw (← c.ahead-startup.ensures, startup, crystal-there (drop 3 c.args.s.now) c.ahead-startup.result.f0)
    (rw (← sys.value, ← usb.value, usb.rest, c.cut32.ensures, c.ahead.ensures))
