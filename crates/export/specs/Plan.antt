-- The exported calls that write the numbers of a preset's plan (docs/FORMAT.md, Presets).
use Rattle.std.specs.Prelude.{Option, Some, ℕ, ◌≤◌, ◌≡◌, List}
use Rattle.base.specs.{Answer.Answer, Answer.value, Widths.u32}
use Rattle.chip.specs.declared.{Chip.Chip, Chip.TheVariants.Rp2040, voltage.CoreVoltage.CoreVoltage}
use Rattle.pll.specs.declared.PllConfig.{PllConfig}
use Rattle.config.specs.declared.ClockConfig.{ClockConfig}
use Rattle.config.specs.Presets.{crystal_plan, rosc_plan, default_plan, system_plan, system_plan_from, manual_plan}
use Rattle.numbers.specs.{Answers.Writes, Read.plan_chip, Read.put_row, Row.plan_row, Plan.plan_numbered}

-- the call's contract: its answer r, which is malformed where there is no such preset, and all numbers after it
abbrev pub PlanCall : Option (Answer ClockConfig) → List ℕ → ℕ → List ℕ → Type 0
PlanCall = Writes plan_chip put_row

-- the numbers of a plan are read back as the plan, so `dizbaral_plan_sheet` of what a preset wrote makes the preset's sheet
abbrev pub Back : Chip → ClockConfig → Type 0
Back chip p = plan_numbered chip (plan_row p) ≡ Some p

pub record PresetsBack : Type 0 where
  pub crystal : (chip : Chip) (hz : ℕ) → hz ≤ u32 → Back chip (crystal_plan chip hz)
  pub rosc : (chip : Chip) → Back chip (rosc_plan chip)
  pub default : (chip : Chip) → Back chip (default_plan chip)
  pub system : (chip : Chip) (hz : ℕ) (p : ClockConfig) → system_plan chip hz ≡ value p → Back chip p
  pub system_from : (chip : Chip) (from hz : ℕ) (p : ClockConfig) → from ≤ u32 → system_plan_from chip from hz ≡ value p → Back chip p
  pub manual : (hz : ℕ) (pll : PllConfig) (volts : CoreVoltage) (p : ClockConfig) → hz ≤ u32 → manual_plan hz pll volts ≡ value p
      → Back Rp2040 p
