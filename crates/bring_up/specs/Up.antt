-- Inside: a runner that was started with the sheet of a plan, with every call ready.
use Rattle.std.specs.Prelude.{true, List, [], ◌∷◌, ◌++◌, map, ◌≡◌, ℕ, ◌+◌, length, replicate}
use Rattle.base.specs.Answer.{value}
use Rattle.step.specs.declared.Step.{Step}
use Rattle.config.specs.declared.ClockConfig.{ClockConfig}
use Rattle.settings.specs.{Settings.settings_of, Frequencies.ten_of}
use Rattle.sheet.specs.{Steps.steps_of, Writer.sheet_bytes}
use Rattle.runner.specs.Calls.{answers, after, ready_answer, ready_at}
use Rattle.runner.specs.{declared.Runner.Runner, declared.Reply.TheVariants.Done, Run.started_with, Run.start_of, Run.outcome}

-- the steps of a plan's sheet
abbrev pub plan_steps : ClockConfig → ℕ → List Step
plan_steps p reading = steps_of reading (settings_of p reading)

-- any runner starts with the sheet
abbrev pub Starts : ClockConfig → ℕ → Type 0
Starts p reading =
    (r : Runner) → start_of r (sheet_bytes p reading) ≡ outcome (value tt) (started_with (sheet_bytes p reading))

-- the answers are those of the steps in order, then done
abbrev pub AnswersAll : ClockConfig → ℕ → Type 0
AnswersAll p reading =
    answers (started_with (sheet_bytes p reading)) (sheet_bytes p reading) (replicate (length (plan_steps p reading) + 1) true)
    ≡ map ready_answer (plan_steps p reading) ++ (value Done ∷ [])

-- after one call for each step the runner holds the stored values, with 0 Hz for the RTC of an RP235x
abbrev pub LeavesStored : ClockConfig → ℕ → Type 0
LeavesStored p reading =
    after (started_with (sheet_bytes p reading)) (sheet_bytes p reading) (replicate (length (plan_steps p reading)) true)
    ≡ ready_at (sheet_bytes p reading) (length (plan_steps p reading)) (ten_of (settings_of p reading))
