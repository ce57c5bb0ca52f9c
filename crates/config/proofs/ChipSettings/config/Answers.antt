-- `ChipSettings::config` meets its contract: on each chip the voltage and the truncated divider are those of `config_of`.
use Rattle.std.proofs.Common.{arith}
use Rattle.config.proofs.ChipSettings.config.Goals as goal

pub returns-in-Rp2040 : goal.returns-in-Rp2040
returns-in-Rp2040 c = grind arith

pub returns-in-Rp235x : goal.returns-in-Rp235x
returns-in-Rp235x c = grind arith
