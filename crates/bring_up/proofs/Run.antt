-- Any runner starts with the sheet of a plan; the sheet of an accepted plan, at any reading, runs to its end, and the
-- runner then holds its stored values.
use Rattle.std.specs.Prelude.{false, ◌≡◌, ℕ, length}
use mathlib.Core.Path.{sym, ◌∙◌, ap}
use Rattle.config.specs.declared.ClockConfig.{ClockConfig}
use Rattle.settings.specs.{Settings.settings_of, Typed.Typed}
use Rattle.refusals.specs.Refusals.{Accepted}
use Rattle.sheet.specs.Writer.{sheet_bytes}
use Rattle.sheet.proofs.Sheets.{steps-few, steps-formed}
use Rattle.step.specs.{Size.bad_size, Sheet.encoded}
use Rattle.runner.specs.Calls.{ready_at}
use Rattle.step.proofs.Sheets.{length-encoded}
use Rattle.runner.proofs.{Starts.start-kept, Going.good-size, Ready.ready-answers, Ready.ready-stores}
use Rattle.bring_up.specs.Up.{plan_steps, Starts, AnswersAll, LeavesStored}
use Rattle.bring_up.proofs.Stored.{steps-store}

module _ (p : ClockConfig) (reading : ℕ) where
  pub sheet-size : bad_size (length (sheet_bytes p reading)) ≡ false
  unfolding sheet_bytes
  sheet-size =
      let steps = plan_steps p reading in
      good-size (encoded steps) (length steps) (steps-few reading (settings_of p reading)) (length-encoded steps)

  pub sheet-starts : Starts p reading
  sheet-starts r = sym (start-kept r (sheet_bytes p reading) sheet-size)

module _ (p : ClockConfig) (reading : ℕ) (ok : Accepted p reading) (t : Typed (settings_of p reading)) where
  pub sheet-answers : AnswersAll p reading
  unfolding sheet_bytes
  sheet-answers =
      let s = settings_of p reading in
      ready-answers (plan_steps p reading) (steps-formed p reading ok t) (steps-few reading s)

  pub sheet-run : LeavesStored p reading
  unfolding sheet_bytes
  sheet-run =
      let s = settings_of p reading in
      ready-stores (plan_steps p reading) (steps-formed p reading ok t) (steps-few reading s)
      ∙ ap (ready_at (sheet_bytes p reading) (length (plan_steps p reading))) (steps-store reading p)
