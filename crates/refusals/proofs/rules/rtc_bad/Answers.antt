-- `rules::rtc_bad` meets its contract: the two cases of the RTC clock, present and absent, are the definition's.
use Rattle.std.proofs.Common.{arith}
use Rattle.refusals.specs.Rules.{rtc_bad}
use Rattle.refusals.proofs.rules.rtc_bad.Goals as goal

pub returns : goal.returns
unfolding rtc_bad
returns c = grind arith
