-- A run, call by call; after the run of the sheet of an accepted plan the numbers are those of the report.
use Rattle.std.specs.Prelude.{true, List, [], ◌∷◌, ◌++◌, map, ◌≡◌, ℕ, zero, suc, ◌-◌, ◌/◌, ◌≤◌, ◌<◌, length, take, replicate}
use Rattle.std.specs.Prelude.{Result, refl}
use mathlib.Core.Path.{sym, ap, ◌∙◌}
use native.Mathlib.{Numerals.add-one, Omega.arith}
use lib.{ListN.length-map, Seq.take-append_seam}
use Rattle.base.specs.{Answer.Answer, Answer.answer_of, declared.refusal.Refusal.Refusal}
use Rattle.step.specs.{declared.Step.Step, Kinds.is}
use Rattle.step.proofs.{Numbers.is-true, Sheets.length-encoded}
use Rattle.config.specs.declared.ClockConfig.{ClockConfig}
use Rattle.settings.specs.{declared.Settings.Settings, Settings.settings_of, Frequencies.ten_of, Typed.Typed}
use Rattle.refusals.specs.Refusals.{Accepted}
use Rattle.sheet.specs.{Steps.release_mask, Steps.clocks_part, Steps.steps_of, Writer.sheet_bytes}
use Rattle.runner.specs.Run.{Outcome, outcome, fresh, is_wait, advance_of, StartOutcome, started_with, start_of}
use Rattle.runner.specs.{declared.Runner.Runner, declared.Reply.Reply, Calls.answers, Calls.ready_answer}
use Rattle.base.proofs.Bools.{either_way}
use Rattle.bring_up.specs.Up.{plan_steps}
use Rattle.bring_up.proofs.Run.{sheet-starts, sheet-answers, sheet-run}
use Rattle.report.specs.Report.{printed_numbers}
use Rattle.report.specs.Ran.{released_in, released_by, last_released, runs, ran_of, report_numbers}
use Rattle.step.specs.declared.kind.Kind.TheVariants as kind

-- one call, then the rest
pub runs-next : (sheet : List ℕ) (left : ℕ) (r : Runner) (mask : ℕ) (reply : Result Reply Refusal) (next : Runner)
    → 0 < left → outcome (answer_of reply) next ≡ advance_of r sheet true
    → runs sheet (left - 1) next (released_by (answer_of reply) mask) ≡ runs sheet left r mask
unfolding runs
runs-next sheet zero r mask reply next some e = absurd (omega arith)
runs-next sheet (suc n) r mask reply next some e =
    let one : suc n - 1 ≡ n = omega arith in
    rw one (ap (λ (x : Outcome Runner). runs sheet n x.next (released_by x.answer mask)) e)

-- no call
pub runs_none : (sheet : List ℕ) (left : ℕ) (r : Runner) (mask : ℕ) → left ≤ 0
    → record { runner = r; mask = mask } ≡ runs sheet left r mask
unfolding runs
runs_none sheet zero r mask none = refl
runs_none sheet (suc n) r mask none = absurd (omega arith)

-- the mask of the last release among steps
abbrev releases : List Step → ℕ → ℕ
releases [] mask = mask
releases (x ∷ xs) mask = releases xs (released_in x mask)

releases-append : (xs ys : List Step) (mask : ℕ) → releases (xs ++ ys) mask ≡ releases ys (releases xs mask)
releases-append [] ys mask = refl
releases-append (x ∷ xs) ys mask = releases-append xs ys (released_in x mask)

last-release : (reading : ℕ) (s : Settings) (mask : ℕ)
    → releases (steps_of reading s) mask ≡ release_mask s.chip.model s.peri s.usb s.adc s.chip.rtc
unfolding steps_of clocks_part released_in
last-release reading s mask = simp releases-append

-- a wait is no release
ready-releases : (step : Step) (mask : ℕ) → released_by (ready_answer step) mask ≡ released_in step mask
unfolding released_in
ready-releases step mask =
    either_way (is_wait step.kind)
    (λ e.
    either_way (is step.kind kind.Release)
    (λ k.
    let waits : is_wait kind.Release ≡ true = rw (is-true step.kind kind.Release k) at e in
    let z : ◌≡◌ {A = ℕ} 0 1 = cc in
    absurd (omega arith)) (λ k. simp (e, k))) (λ e. simp e)

answers-release : (xs : List Step) (mask : ℕ) → last_released (map ready_answer xs) mask ≡ releases xs mask
answers-release [] mask = refl
answers-release (x ∷ xs) mask =
    ap (last_released (map ready_answer xs)) (ready-releases x mask) ∙ answers-release xs (released_in x mask)

-- one more call does not change the answers before it
answers-first : (sheet : List ℕ) (n : ℕ) (r : Runner)
    → take n (answers r sheet (replicate (suc n) true)) ≡ answers r sheet (replicate n true)
answers-first sheet zero r = refl
answers-first sheet (suc n) r =
    let call = advance_of r sheet true in
    ap (λ (l : List (Answer Reply)). call.answer ∷ l) (answers-first sheet n call.next)

-- the sheet of an accepted plan at any reading: after one call for each step the numbers are those of the report
module _ (p : ClockConfig) (r : ℕ) (ok : Accepted p r) (t : Typed (settings_of p r)) where
  started : (start_of fresh (sheet_bytes p r)).next ≡ started_with (sheet_bytes p r)
  started = ap (λ (x : StartOutcome Runner). x.next) (sheet-starts p r fresh)

  all-answers : answers (started_with (sheet_bytes p r)) (sheet_bytes p r) (replicate (length (plan_steps p r)) true)
      ≡ map ready_answer (plan_steps p r)
  all-answers =
      let n = length (plan_steps p r) in
      sym (answers-first (sheet_bytes p r) n (started_with (sheet_bytes p r)))
      ∙ ap (take n) (rw add-one at (sheet-answers p r ok t))
      ∙ rw (← length-map (plan_steps p r) ready_answer) (take-append_seam (map ready_answer (plan_steps p r)) _)

  calls : length (sheet_bytes p r) / 8 ≡ length (plan_steps p r)
  unfolding sheet_bytes
  calls = omega (arith, length-encoded (plan_steps p r))

  pub run-numbers : report_numbers (ran_of (sheet_bytes p r) (length (sheet_bytes p r) / 8)) ≡ printed_numbers (settings_of p r)
  unfolding ten_of runs
  run-numbers =
      rw (
        started,
        calls,
        sheet-run p r ok t,
        all-answers,
        answers-release (plan_steps p r) 0,
        last-release r (settings_of p r) 0,
      )
