-- `clocks::put_rtc` meets its contract: the RP235x has no RTC part.
use Rattle.std.proofs.Common.{arith}
use Rattle.sheet.specs.Steps.{rtc_part}
use Rattle.sheet.proofs.clocks.put_rtc.Goals as goal

pub returns-then-eq : goal.returns-then-eq
unfolding rtc_part
returns-then-eq c = grind arith
