-- `plls_invalid` meets its contract: with a crystal each answer is `pll_invalid` of its PLL, and without one both are false.
use Rattle.std.proofs.Common.{rules}
use Rattle.settings.specs.Frequencies.{sources_of}
use Rattle.refusals.specs.Rules.{sys_pll_invalid, usb_pll_invalid}
use Rattle.refusals.proofs.plls_invalid.Goals as goal

pub returns : goal.returns
unfolding sources_of sys_pll_invalid usb_pll_invalid
returns c = search rules
