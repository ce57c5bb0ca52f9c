-- The start and the call of a runner that is given as 15 numbers and its kept bytes (docs/FORMAT.md, Runner).
use Rattle.std.specs.Prelude.{Bool, ◌≡◌, List, ◌∷◌, ◌++◌, ℕ, eqb, leb, get_or, set, take, drop, replicate}
use Rattle.base.specs.{Choice.pick, Choice.bit, Answer.Answer}
use Rattle.step.specs.Steps.{pack_of}
use Rattle.runner.specs.declared.Reply.TheVariants.{Done, Handed, Passed, Waiting}
use Rattle.runner.specs.{declared.State.State, declared.Runner.Runner, declared.Reply.Reply, Run.advance_of, Run.start_of}
use Rattle.numbers.specs.Answers.{answer_number, left_by, malformed}

-- numbers 0 to 3: position, lock polls, total, stopped mark
abbrev pub state_in : List ℕ → State
state_in ns =
    record {
      position = get_or ns 0 0;
      lock_polls = get_or ns 1 0;
      total = get_or ns 2 0;
      stopped = eqb (get_or ns 3 0) 1;
    }

-- number 4 is the kept length, numbers 5 to 14 are the ten frequencies
abbrev pub runner_in : List ℕ → List ℕ → Runner
runner_in ns kept =
    record { kept = kept; len = get_or ns 4 0; stepper = record { state = state_in ns; freqs = drop 5 ns } }

-- the stopped mark is 0 or 1; other numbers are of no runner
abbrev pub is_runner : List ℕ → Bool
is_runner ns = leb (get_or ns 3 0) 1

-- a step that is handed out has its word as number, at least 2 ^ 58
abbrev pub progress_number : Reply → ℕ
progress_number Done = 0
progress_number Passed = 1
progress_number Waiting = 2
progress_number (Handed step) = pack_of step

-- the numbers with the state replaced, and with the frequencies replaced
unfoldable pub with_state : State → List ℕ → List ℕ
with_state s ns = set (set (set (set ns 0 s.position) 1 s.lock_polls) 2 s.total) 3 (bit s.stopped)

unfoldable pub with_freqs : List ℕ → List ℕ → List ℕ
with_freqs freqs ns = take 5 ns ++ freqs

-- a call: its answer as a number, and the numbers after it; malformed numbers stay unchanged
unfoldable pub run_number : List ℕ → List ℕ → List ℕ → Bool → ℕ
run_number ns kept sheet ready =
    pick (is_runner ns) (answer_number progress_number (advance_of (runner_in ns kept) sheet ready).answer) malformed

unfoldable pub run_leaves : List ℕ → List ℕ → List ℕ → Bool → List ℕ
run_leaves ns kept sheet ready =
    let next = (advance_of (runner_in ns kept) sheet ready).next.stepper in
    pick (is_runner ns) (with_state next.state (with_freqs next.freqs ns)) ns

-- an accepted start has the number 0
abbrev pub go_number : Unit {0} → ℕ
go_number x = 0

-- the numbers of a runner just started with a sheet of len bytes
abbrev pub started_numbers : ℕ → List ℕ
started_numbers len = 0 ∷ 0 ∷ 0 ∷ 0 ∷ len ∷ replicate 10 0

-- the numbers after a start; a refusal leaves them unchanged
abbrev pub start_leaves : Answer (Unit {0}) → List ℕ → ℕ → List ℕ
start_leaves answer ns len = left_by (λ x before. started_numbers len) answer ns

-- a start of what has these numbers: its answer r, the numbers and the kept bytes after it
pub record Starts (started : Answer (Unit {0})) (fresh kept ns : List ℕ) (r : ℕ) (ns' kept' : List ℕ) : Type 0 where
  pub answer : r ≡ answer_number go_number started
  pub numbers : ns' ≡ left_by (λ x before. fresh) started ns
  pub bytes : kept' ≡ kept

-- the contract of a start of a runner
abbrev pub StartCall : List ℕ → List ℕ → List ℕ → ℕ → List ℕ → List ℕ → Type 0
StartCall ns kept sheet =
    let o = start_of (runner_in ns kept) sheet in
    Starts o.answer (started_numbers o.next.len) o.next.kept ns
