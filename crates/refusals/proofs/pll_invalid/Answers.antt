-- `refusals::pll_invalid` meets its contract: by `pll_silent` a PLL that is present has 0 Hz exactly where it is invalid.
use Rattle.std.proofs.Common.{arith}
use Rattle.settings.proofs.Plls.{pll_silent}
use Rattle.refusals.proofs.pll_invalid.Goals as goal

pub returns-then-is_some : goal.returns-then-is_some
returns-then-is_some c = grind (arith, pll_silent)
