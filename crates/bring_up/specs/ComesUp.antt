-- The bound on the calls that a sheet takes until done (docs/FORMAT.md, How long a run takes).
use Rattle.std.specs.Prelude.{Result, ℕ, ◌+◌, ◌*◌, ◌/◌, ◌≤◌, ◌<◌, ◌≡◌, Bool, List, ltb, length, take}
use Rattle.base.specs.{declared.refusal.Refusal.Refusal, Choice.pick, Answer.value, Answer.answer_of, Widths.u32}
use Rattle.step.specs.Sheet.{max_steps}
use Rattle.chip.specs.declared.Chip.{Chip}
use Rattle.config.specs.declared.ClockConfig.{ClockConfig}
use Rattle.settings.specs.{Settings.settings_of, Frequencies.ten_of}
use Rattle.sheet.specs.{Steps.most_steps, Writer.sheet_bytes, Writer.InitCall}
use Rattle.runner.specs.{declared.Runner.Runner, Run.lock_timeout, Run.started_with, Run.start_of, Run.outcome}
use Rattle.bring_up.specs.{Up.plan_steps, Wait.HearsAtMost, Wait.UpAfter, Wait.UpWithin}

-- at most 10 steps of a sheet are waits
abbrev pub max_waits : ℕ
max_waits = 10

-- one call for each step and k for each wait: 65 + 10 × k on the RP2040, 66 + 10 × k on the RP235x
abbrev pub most_calls : Chip → ℕ → ℕ
most_calls chip k = most_steps chip + max_waits * k

-- with at most k unready polls at each wait, k under 1000000, done comes after at most `most_calls` calls, with these
-- frequencies
abbrev pub UpInTime : Chip → List ℕ → List ℕ → Type 0
UpInTime chip sheet freqs =
    (k : ℕ) → k < lock_timeout → (ready : ℕ → Bool) → HearsAtMost k sheet ready
    → UpWithin (most_calls chip k) sheet ready freqs

-- with no unready poll, done comes after exactly this many calls
abbrev pub UpAtOnce : ℕ → List ℕ → List ℕ → Type 0
UpAtOnce calls sheet freqs = (ready : ℕ → Bool) → HearsAtMost 0 sheet ready → UpAfter calls sheet ready freqs

-- the sheet of a plan: the frequencies are the stored values, and with no unready poll there is one call for each step
abbrev pub ComesUp : ClockConfig → ℕ → Type 0
ComesUp p reading = UpInTime (settings_of p reading).chip.model (sheet_bytes p reading) (ten_of (settings_of p reading))

abbrev pub ComesUpReady : ClockConfig → ℕ → Type 0
ComesUpReady p reading = UpAtOnce (length (plan_steps p reading)) (sheet_bytes p reading) (ten_of (settings_of p reading))

-- n bytes written for a plan, eight for each step: any runner starts with them and reaches done
pub record WrittenUp (p : ClockConfig) (reading n : ℕ) (sheet : List ℕ) : Type 0 where
  pub starts : (r : Runner) → start_of r sheet ≡ outcome (value tt) (started_with sheet)
  pub in_time : UpInTime (settings_of p reading).chip.model sheet (ten_of (settings_of p reading))
  pub at_once : UpAtOnce (n / 8) sheet (ten_of (settings_of p reading))

-- for every plan, reading and buffer: a runner reaches done with the bytes up to the length that `init` answered
abbrev pub InitComesUp : Type 0
InitComesUp =
    (p : ClockConfig) (reading : ℕ) (before after : List ℕ) (r : Result ℕ Refusal) (n : ℕ)
    → InitCall p reading before r after → answer_of r ≡ value n → WrittenUp p reading n (take n after)

-- `longest_wait`, for both chips: from 1000000 unready polls on a lock can time out, and the answer is the 32-bit maximum
unfoldable pub longest_wait : ℕ → ℕ
longest_wait k = pick (ltb k lock_timeout) (max_steps + max_waits * k) u32

-- it bounds the calls of either chip wherever there is a bound
abbrev pub LongestCovers : Type 0
LongestCovers =
    (chip : Chip) (k : ℕ)
    → (k < lock_timeout → most_calls chip k ≤ longest_wait k) × (lock_timeout ≤ k → longest_wait k ≡ u32)
