-- A runner over the sheet that it was started with, for any stream of ready flags: the number of calls before done,
-- and the frequencies then.
use Rattle.std.specs.Prelude.{ℕ, zero, suc, ◌+◌, ◌*◌, ◌≤◌, ◌<◌, eqb, Bool, false, ◌&&◌, not, ◌≡◌, List}
use Rattle.base.specs.{Answer.Answer, Answer.value, Answer.refusal, Choice.bit}
use Rattle.step.specs.{declared.Step.Step, Access.read_at}
use Rattle.runner.specs.declared.Reply.TheVariants.{Done, Handed, Passed, Waiting}
use Rattle.runner.specs.{declared.Runner.Runner, declared.Reply.Reply, Run.is_wait, Run.started_with, Run.advance_of}

-- the runner after i calls; then the answer of call i, which has the flag ready i
unfoldable pub runner_after : List ℕ → (ℕ → Bool) → ℕ → Runner
runner_after sheet ready zero = started_with sheet
runner_after sheet ready (suc i) = (advance_of (runner_after sheet ready i) sheet (ready i)).next

abbrev pub call_answer : List ℕ → (ℕ → Bool) → ℕ → Answer Reply
call_answer sheet ready i = (advance_of (runner_after sheet ready i) sheet (ready i)).answer

abbrev pub holds_wait : Answer Step → Bool
holds_wait (value step) = is_wait step.kind
holds_wait (refusal n) = false

-- 1 where a runner at position p, which holds a wait, is polled unready
unfoldable pub unready_poll : ℕ → Runner → List ℕ → Bool → ℕ
unready_poll p r sheet ready = bit (eqb r.stepper.state.position p && (holds_wait (read_at sheet (8 * p)) && not ready))

-- the unready polls at position p among the first i calls
unfoldable pub heard : List ℕ → (ℕ → Bool) → ℕ → ℕ → ℕ
heard sheet ready p zero = 0
heard sheet ready p (suc i) = heard sheet ready p i + unready_poll p (runner_after sheet ready i) sheet (ready i)

-- at each wait at most k unready polls
abbrev pub HearsAtMost : ℕ → List ℕ → (ℕ → Bool) → Type 0
HearsAtMost k sheet ready = (p i : ℕ) → heard sheet ready p i ≤ k

-- neither done nor a refusal
abbrev pub OnTheWay : Answer Reply → Type 0
OnTheWay (value Done) = ⊥
OnTheWay (value (Handed step)) = Unit {0}
OnTheWay (value Passed) = Unit {0}
OnTheWay (value Waiting) = Unit {0}
OnTheWay (refusal n) = ⊥

-- this many calls precede the first that answers done; from then on nothing changes, and these are the frequencies
pub record UpAfter (calls : ℕ) (sheet : List ℕ) (ready : ℕ → Bool) (freqs : List ℕ) : Type 0 where
  pub before : (i : ℕ) → i < calls → OnTheWay (call_answer sheet ready i)
  pub ends : (i : ℕ) → calls ≤ i → call_answer sheet ready i ≡ value Done
  pub stays : (i : ℕ) → calls ≤ i → runner_after sheet ready i ≡ runner_after sheet ready calls
  pub holds : (runner_after sheet ready calls).stepper.freqs ≡ freqs

-- there is such a number of calls, at most `most`
pub record UpWithin (most : ℕ) (sheet : List ℕ) (ready : ℕ → Bool) (freqs : List ℕ) : Type 0 where
  pub calls : ℕ
  pub few : calls ≤ most
  pub up : UpAfter calls sheet ready freqs
