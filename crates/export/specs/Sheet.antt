-- The exported calls that write a sheet, of a preset's plan or of a plan given as numbers (docs/FORMAT.md, Sheet writer).
use Rattle.std.specs.Prelude.{Option, option_map, option_and_then, ◌≡◌, List, ℕ}
use Rattle.base.specs.Answer.{Answer, value}
use Rattle.chip.specs.declared.Chip.{Chip}
use Rattle.config.specs.declared.ClockConfig.{ClockConfig}
use Rattle.settings.specs.{Settings.settings_of, Typed.Typed}
use Rattle.sheet.specs.Writer.{init_answer, init_buffer}
use Rattle.numbers.specs.Answers.{answer_number, itself, left_by, of_value, given_number, left_given}
use Rattle.numbers.specs.{Plan.plan_numbered, Typed.IfThere}

-- the answer of the sheet writer, or the preset's refusal; malformed where the numbers are of no chip or of no plan
abbrev pub sheet_number : Option (Answer ClockConfig) → ℕ → List ℕ → ℕ
sheet_number plan reading buffer =
    given_number (answer_number (λ plan. answer_number itself (init_answer plan reading buffer))) plan

-- the buffer after the call; a refusal changes nothing
abbrev pub sheet_buffer : Option (Answer ClockConfig) → ℕ → List ℕ → List ℕ
sheet_buffer plan reading = left_given (left_by (λ plan. init_buffer plan reading)) plan

abbrev pub plan_given : Option (Answer ClockConfig) → Option ClockConfig
plan_given = option_and_then (of_value (λ plan. plan))

-- the call's contract: its answer r, and the whole buffer after it; the settings of a plan that is given fit their types
pub record SheetCall (plan : Option (Answer ClockConfig)) (reading : ℕ) (before : List ℕ) (r : ℕ) (after : List ℕ) : Type 0
  where
    pub answer : r ≡ sheet_number plan reading before
    pub bytes : after ≡ sheet_buffer plan reading before
    pub typed : IfThere (λ plan. Typed (settings_of plan reading)) (plan_given plan)

-- a preset for a chip, and a plan for a chip that is given as numbers; none for an unknown chip
abbrev pub preset_on : (Chip → Answer ClockConfig) → Option Chip → Option (Answer ClockConfig)
preset_on = option_map

abbrev pub plan_on : List ℕ → Option Chip → Option (Answer ClockConfig)
plan_on ns chip = option_map value (option_and_then (λ on. plan_numbered on ns) chip)
