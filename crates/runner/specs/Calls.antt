-- Inside: calls over one sheet, one for each ready flag, and the expected answers where all flags are ready.
use Rattle.std.specs.Prelude.{ℕ, Bool, true, false, ◌⊎◌, ◌≡◌, List, [], ◌∷◌}
use Rattle.base.specs.{Answer.Answer, Answer.value, Answer.refusal, Choice.pick}
use Rattle.step.specs.declared.Step.{Step}
use Rattle.runner.specs.declared.Reply.TheVariants.{Handed, Passed}
use Rattle.runner.specs.Run.{Outcome, is_wait, polled, stored_by, with_stepper, started_with, advance_of}
use Rattle.runner.specs.declared.{State.State, Stepper.Stepper, Runner.Runner, Reply.Reply}
use Rattle.text.specs.Ascii.{same}

-- the answers of the calls
abbrev pub answers : Runner → List ℕ → List Bool → List (Answer Reply)
answers r sheet [] = []
answers r sheet (ready ∷ flags) =
    let call = advance_of r sheet ready in
    call.answer ∷ answers call.next sheet flags

-- the runner after the calls
abbrev pub after : Runner → List ℕ → List Bool → Runner
after r sheet [] = r
after r sheet (ready ∷ flags) = after (advance_of r sheet ready).next sheet flags

-- a call hands in a sheet and a ready flag
pub data Call : Type 0 where
  call : List ℕ → Bool → Call

abbrev pub after_calls : Runner → List Call → Runner
after_calls r [] = r
after_calls r (call sheet ready ∷ calls) = after_calls (advance_of r sheet ready).next calls

-- the ready flags of the calls that hand in this sheet
abbrev pub flags_of : List ℕ → List Call → List Bool
flags_of sheet [] = []
flags_of sheet (call given ready ∷ calls) =
    pick (same sheet given) (ready ∷ flags_of sheet calls) (flags_of sheet calls)

-- the answer of a ready call at a step: a wait is passed, any other step is handed out
abbrev pub ready_answer : Step → Answer Reply
ready_answer step = value (pick (is_wait step.kind) Passed (Handed step))

-- the ten frequencies after steps, in their order
abbrev pub stores_of : List Step → List ℕ → List ℕ
stores_of [] freqs = freqs
stores_of (step ∷ steps) freqs = stores_of steps (stored_by step freqs)

-- the state at a position when every call was ready
abbrev pub ready_state : ℕ → State
ready_state position = record { position = position; lock_polls = 0; total = 0; stopped = false }

-- a runner that was started with the sheet, at a position when every call was ready
abbrev pub ready_at : List ℕ → ℕ → List ℕ → Runner
ready_at sheet position freqs = with_stepper (started_with sheet) (record { state = ready_state position; freqs = freqs })

-- after a refusal nothing has changed, or it is the lock timeout, 22, and the result is `timed_out`
abbrev pub Untouched : {A : Type 0} → A → A → Outcome A → Type 0
Untouched {A} same timed_out x = go x.answer x.next
  where
    go : Answer Reply → A → Type 0
    go (value p) y = Unit {0}
    go (refusal n) y = (y ≡ same) ⊎ ((n ≡ 22) × (y ≡ timed_out))

-- the stepper and the runner after the lock timeout
abbrev pub stepper_timed_out : Stepper → Stepper
stepper_timed_out b = record { state = polled b.state b.state.lock_polls true; freqs = b.freqs }

abbrev pub timed_out : Runner → Runner
timed_out r = with_stepper r (stepper_timed_out r.stepper)
