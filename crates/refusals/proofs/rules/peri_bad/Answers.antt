-- `rules::peri_bad` meets its contract: a clock that is present is the definition's first case.
use Rattle.std.proofs.Common.{arith}
use Rattle.refusals.specs.Rules.{peri_bad}
use Rattle.refusals.proofs.rules.peri_bad.Goals as goal

pub returns-then-is_some : goal.returns-then-is_some
unfolding peri_bad
returns-then-is_some c = grind arith
