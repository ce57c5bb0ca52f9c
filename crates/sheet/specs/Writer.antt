-- The answer of `init` and the caller's bytes after the call (docs/FORMAT.md, Sheet writer).
use Rattle.std.specs.Prelude.{◌≡◌, List, ◌++◌, Option, Some, None, Result, ℕ, ltb, length, drop}
use Rattle.base.specs.Answer.{Answer, value, refusal, answer_of}
use Rattle.base.specs.{declared.refusal.Refusal.Refusal, Choice.pick, Refusals.number_of}
use Rattle.step.specs.Sheet.{encoded}
use Rattle.config.specs.declared.ClockConfig.{ClockConfig}
use Rattle.settings.specs.{Settings.settings_of, Typed.Typed}
use Rattle.refusals.specs.Refusals.{refusal_of}
use Rattle.sheet.specs.Steps.{steps_of}

-- The sheet of a plan at a reading has the bytes of the steps of its settings.
unfoldable pub sheet_bytes : ClockConfig → ℕ → List ℕ
sheet_bytes p reading = encoded (steps_of reading (settings_of p reading))

-- The refusal of a plan at a reading, none where it is accepted.
abbrev pub refusal_in : ClockConfig → ℕ → Option Refusal
refusal_in p reading = refusal_of (settings_of p reading) reading

-- A refusal by its number, or the answer where there is none.
abbrev pub refused_or : {A : Type 0} → Option Refusal → Answer A → Answer A
refused_or (Some reason) answer = refusal (number_of reason)
refused_or None answer = answer

-- The refusals 18 and 1 to 14 come first, then 19 where the buffer is shorter than the sheet, else the number of bytes written.
unfoldable pub init_answer : ClockConfig → ℕ → List ℕ → Answer ℕ
init_answer p reading buffer =
    refused_or (refusal_in p reading)
    (pick (ltb (length buffer) (length (sheet_bytes p reading))) (refusal 19)
    (value (length (sheet_bytes p reading))))

-- A refusal changes nothing; bytes past the sheet keep their values.
abbrev pub leaves : Answer ℕ → List ℕ → List ℕ → List ℕ
leaves (value n) sheet buffer = sheet ++ drop n buffer
leaves (refusal n) sheet buffer = buffer

-- The whole buffer after the call.
unfoldable pub init_buffer : ClockConfig → ℕ → List ℕ → List ℕ
init_buffer p reading buffer = leaves (init_answer p reading buffer) (sheet_bytes p reading) buffer

-- The contract of a call: its answer, the whole buffer after it, and the bounds that the number types of the plan give.
pub record InitCall (p : ClockConfig) (reading : ℕ) (before : List ℕ) (r : Result ℕ Refusal) (after : List ℕ) : Type 0 where
  pub answer : answer_of r ≡ init_answer p reading before
  pub bytes : after ≡ init_buffer p reading before
  pub typed : Typed (settings_of p reading)
