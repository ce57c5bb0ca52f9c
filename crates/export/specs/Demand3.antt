-- Demand 3 of the exported calls: two sheets are equal exactly when their plans agree in every setting (docs/FORMAT.md, Settings
-- that count).
use Rattle.std.specs.Prelude.{Option, option_map, ◌≡◌, ◌↔◌, List, ℕ, ◌<◌}
use Rattle.base.specs.Answer.{Answer}
use Rattle.config.specs.{declared.ClockConfig.ClockConfig, Presets.system_plan, Presets.system_plan_from}
use Rattle.settings.specs.{Settings.settings_of, declared.Settings.Settings}
use Rattle.sheet.specs.Demand3.{SameUpTo}
use Rattle.numbers.specs.Answers.{refusals, chip_numbered}
use Rattle.export.specs.Sheet.{plan_given, SheetCall, preset_on, plan_on}

-- the settings of the plan that is given, where there is one
abbrev pub settings_in : Option (Answer ClockConfig) → ℕ → Option Settings
settings_in plan reading = option_map (λ plan. settings_of plan reading) (plan_given plan)

-- two calls at one reading, of any two plans, with any two buffers, that both answer lengths
abbrev pub Sheets : Option (Answer ClockConfig) → Option (Answer ClockConfig) → Type 0
Sheets p q =
    (reading : ℕ) (b b' c c' : List ℕ) (r s : ℕ)
    → SheetCall p reading b r b' → r < refusals
    → SheetCall q reading c s c' → s < refusals
    → ((r ≡ s) × SameUpTo r b' c') ↔ (settings_in p reading ≡ settings_in q reading)

-- sheets of plans given as any numbers, for any chips
abbrev pub PlanSheets : Type 0
PlanSheets = (on on' : ℕ) (ns ms : List ℕ) → Sheets (plan_on ns (chip_numbered on)) (plan_on ms (chip_numbered on'))

-- sheets of the presets, for any chips
abbrev pub SystemSheets : Type 0
SystemSheets =
    (on on' hz hz' : ℕ)
    → Sheets (preset_on (λ chip. system_plan chip hz) (chip_numbered on)) (preset_on (λ chip. system_plan chip hz') (chip_numbered on'))

abbrev pub SystemSheetsFrom : Type 0
SystemSheetsFrom =
    (on on' from hz from' hz' : ℕ)
    → Sheets (preset_on (λ chip. system_plan_from chip from hz) (chip_numbered on))
    (preset_on (λ chip. system_plan_from chip from' hz') (chip_numbered on'))
