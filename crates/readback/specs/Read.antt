-- The answer of reading a sheet back, as the code finds it: the plan of the settings in the bytes, if its sheet is these bytes.
-- `read_right` shows that this is the answer that the law states.
use mathlib.Core.{Bool.Bool, Bool.◌&&◌, List.List}
use Rattle.std.specs.{Prelude.ℕ, Prelude.ltb, Option.is_none}
use Rattle.base.specs.{Choice.pick, Answer.Answer, Answer.value, Answer.refusal}
use Rattle.text.specs.Ascii.{same}
use Rattle.config.specs.declared.ClockConfig.{ClockConfig}
use Rattle.sheet.specs.{Read.settings_from, Writer.sheet_bytes, Writer.refusal_in}
use Rattle.settings.specs.LeastPlan.{plan_of}
use Rattle.readback.specs.{Steps.steps_read, Cut.cut_settings, Law.top_reading}

-- The smallest plan with the settings that are read from the bytes.
unfoldable pub plan_in : List ℕ → ℕ → ClockConfig
plan_in sheet reading = plan_of (cut_settings (settings_from reading (steps_read sheet)))

-- The plan is accepted, and its sheet is these bytes.
unfoldable pub gives : List ℕ → ℕ → ClockConfig → Bool
gives sheet reading p = is_none (refusal_in p reading) && same (sheet_bytes p reading) sheet

-- 18 for a reading over the greatest of the chip, then 26 where that plan does not give the bytes.
unfoldable pub read_of : List ℕ → ℕ → Answer ClockConfig
read_of sheet reading =
    pick (ltb (top_reading sheet) reading) (refusal 18)
    (pick (gives sheet reading (plan_in sheet reading)) (value (plan_in sheet reading)) (refusal 26))
