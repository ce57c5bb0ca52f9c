-- `manual_pll` with a voltage by its code (docs/FORMAT.md, Presets); none for a code that no voltage has.
use Rattle.std.specs.Prelude.{Option, ℕ}
use Rattle.base.specs.Answer.{Answer}
use Rattle.chip.specs.{declared.Chip.TheVariants.Rp2040, Voltage.core_voltage_of}
use Rattle.config.specs.{declared.ClockConfig.ClockConfig, Presets.manual_plan}
use Rattle.pll.specs.declared.PllConfig.{PllConfig}
use Rattle.numbers.specs.Answers.{of_value}

abbrev pub manual_by_code : ℕ → PllConfig → ℕ → Option (Answer ClockConfig)
manual_by_code hz pll code = of_value (manual_plan hz pll) (core_voltage_of Rp2040 code)
