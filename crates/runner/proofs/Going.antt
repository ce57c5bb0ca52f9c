-- The answer of a call on a runner within a sheet of well-formed steps: done past the last step, else the rule of the step.
use Rattle.std.specs.Prelude.{ℕ, ◌+◌, ◌*◌, ◌%◌, ◌≤◌, ◌<◌, Bool, true, false, List, ◌≡◌, refl, length}
use native.Mathlib.Omega.{arith}
use mathlib.Core.Path.{sym, ◌∙◌}
use borrow.Author.Tests.{lt-ltb, le-ltb, eq-eqb}
use Rattle.base.specs.Answer.{value}
use Rattle.base.proofs.Bools.{either_way}
use Rattle.step.specs.{declared.Step.Step, Kinds.is, Access.read_at, Sheet.max_steps, Sheet.max_bytes, Size.bad_size}
use Rattle.runner.specs.declared.Reply.TheVariants.{Done, Handed, Passed, Waiting}
use Rattle.runner.specs.Run.{Outcome, outcome, is_wait, one_more, moved_on, unready, take_step, take_read, outside, padded}
use Rattle.runner.specs.Run.{with_stepper, started_with, onward_of, turn_of, stored_by, joined, in_runner, stepper_of, advance_of}
use Rattle.runner.specs.declared.{State.State, Runner.Runner}
use Rattle.step.proofs.Numbers.{is-true}
use Rattle.text.proofs.Same.{same_refl}
use Rattle.runner.proofs.{Starts.kept-sheet, Calls.onward-done, Calls.onward-read, Calls.call-goes}
use Rattle.step.specs.declared.kind.Kind.TheVariants as kind

abbrev pub going : ℕ → ℕ → ℕ → State
going p polls total = record { position = p; lock_polls = polls; total = total; stopped = false }

-- a runner that was started with the sheet, at a position
abbrev pub standing : List ℕ → ℕ → ℕ → ℕ → List ℕ → Runner
standing sheet p polls total freqs =
    with_stepper (started_with sheet) (record { state = going p polls total; freqs = freqs })

-- a wait is no store
pub wait-stores : (step : Step) (freqs : List ℕ) → is_wait step.kind ≡ true → stored_by step freqs ≡ freqs
unfolding stored_by
wait-stores step freqs w =
    either_way (is step.kind kind.Store)
    (λ k.
    let waits : is_wait kind.Store ≡ true = rw (is-true step.kind kind.Store k) at w in
    let z : ◌≡◌ {A = ℕ} 0 1 = cc in
    absurd (omega arith)) (λ k. simp k)

-- a step that is no wait is handed out
pub hands : (s : State) (step : Step) (ready : Bool) → is_wait step.kind ≡ false
    → take_step s step ready ≡ outcome (value (Handed step)) (moved_on s s.lock_polls)
unfolding take_step
hands s step ready w = simp w

-- a wait with the ready flag is passed
pub passes : (s : State) (step : Step) → is_wait step.kind ≡ true
    → take_step s step true ≡ outcome (value Passed) (moved_on s 0)
unfolding take_step
passes s step w = simp w

-- a wait that is not ready waits, with at most one more lock poll
pub record Polled (p polls total : ℕ) (step : Step) : Type 0 where
  pub now : ℕ
  pub more : now ≤ polls + 1
  pub is : take_step (going p polls total) step false ≡ outcome (value Waiting) (going p now (one_more total))

at-unready : (s : State) (step : Step) → is_wait step.kind ≡ true → take_step s step false ≡ unready s step.kind
unfolding take_step
at-unready s step w = simp w

pub polls-on : (p polls total : ℕ) (step : Step) → is_wait step.kind ≡ true → polls < 999999
    → Polled p polls total step
unfolding unready
polls-on p polls total step w h =
    let same = at-unready (going p polls total) step w in
    either_way (is step.kind kind.WaitLock)
    (λ e. record { now = polls + 1; more = omega arith; is = same ∙ simp (e, lt-ltb (polls + 1) 1000000 (omega arith)) })
    (λ e. record { now = polls; more = omega arith; is = same ∙ simp e })

-- over a sheet of n steps
module _ (sheet : List ℕ) (n : ℕ) (few : n ≤ max_steps) (size : length sheet ≡ 8 * n) where
  pub good-size : bad_size (length sheet) ≡ false
  good-size = simp (le-ltb max_bytes (length sheet) (omega arith), eq-eqb (length sheet % 8) 0 (omega arith))

  within : (p polls total : ℕ) → p ≤ n → polls < 1000000 → outside (going p polls total) (length sheet) ≡ false
  unfolding outside
  within p polls total h l = simp (le-ltb max_steps p (omega arith), le-ltb 999999 polls (omega arith), good-size)

  -- the sheet that is handed in is the kept one
  goes : (p polls total : ℕ) (ready : Bool) → p ≤ n → polls < 1000000
      → turn_of (going p polls total) (length sheet) (padded sheet) sheet ready
      ≡ onward_of (going p polls total) sheet ready
  goes p polls total ready h l =
      sym (call-goes (going p polls total) (length sheet) (padded sheet) sheet ready (within p polls total h l) refl
      (rw (kept-sheet sheet) (same_refl sheet)))

  -- a call past the last step answers done
  pub done_at : (total : ℕ) (freqs : List ℕ) (ready : Bool)
      → advance_of (standing sheet n 0 total freqs) sheet ready ≡ outcome (value Done) (standing sheet n 0 total freqs)
  unfolding advance_of stepper_of
  done_at total freqs ready =
      rw (goes n 0 total ready (omega arith) (omega arith)
      ∙ sym (onward-done (going n 0 total) sheet ready (omega arith)))

  -- a call at a step has the outcome of the step
  pub step-at : (step : Step) (p polls total : ℕ) (freqs : List ℕ) (ready : Bool) (x : Outcome State)
      → p < n → polls < 1000000 → read_at sheet (8 * p) ≡ value step → take_step (going p polls total) step ready ≡ x
      → advance_of (standing sheet p polls total freqs) sheet ready ≡ in_runner (started_with sheet) (joined x freqs)
  unfolding advance_of stepper_of take_read
  step-at step p polls total freqs ready x h l read e =
      let taken = onward-read (going p polls total) sheet ready (omega arith) (value step) read in
      rw (goes p polls total ready (omega arith) l ∙ sym taken ∙ e)
