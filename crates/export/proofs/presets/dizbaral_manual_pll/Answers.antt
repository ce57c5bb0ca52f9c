-- `presets::dizbaral_manual_pll` meets its contract: it writes what `manual` answers for the four dividers.
use Rattle.export.proofs.presets.dizbaral_manual_pll.Goals as goal

pub returns : goal.returns
returns c = rw (← c.dividers-pll.ensures, ← c.manual.ensures) c.write.ensures
