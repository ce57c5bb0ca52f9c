-- The order of the refusals of `dizbaral_system_sheet_from`: 15 first, then 25, then those of the sheet (docs/FORMAT.md,
-- Refusals).
use Rattle.std.specs.Prelude.{Some, ◌≡◌, List, ℕ, ◌+◌}
use Rattle.base.specs.Answer.{value, refusal}
use Rattle.chip.specs.declared.Chip.{Chip}
use Rattle.pll.specs.{declared.PllConfig.PllConfig, Search.search_of, Usb.usb_of}
use Rattle.config.specs.Presets.{system_plan_from}
use Rattle.numbers.specs.Answers.{refusals, chip_numbered}
use Rattle.export.specs.Sheet.{SheetCall, preset_on}

-- a call answers refusal n and writes nothing
abbrev pub Refuses : ℕ → ℕ → List ℕ → List ℕ → Type 0
Refuses n r before after = (r ≡ refusals + n) × (after ≡ before)

-- 25 precedes every other refusal of the preset except 15. At any reading and into any buffer, the answer is 15 where the search
-- finds no system PLL, and otherwise 25 where there is no USB PLL.
abbrev pub UsbRefusalFirst : Type 0
UsbRefusalFirst =
    (on from hz reading r : ℕ) (before after : List ℕ) (chip : Chip) → chip_numbered on ≡ Some chip
    → SheetCall (preset_on (λ chip. system_plan_from chip from hz) (chip_numbered on)) reading before r after
    → ((n : ℕ) → search_of from hz ≡ refusal n → Refuses 15 r before after)
    × ((n : ℕ) (sys : PllConfig) → search_of from hz ≡ value sys → usb_of from ≡ refusal n → Refuses 25 r before after)
