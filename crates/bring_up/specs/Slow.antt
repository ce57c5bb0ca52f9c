-- Inside: the stream of ready flags that makes a runner wait longest.
use Rattle.std.specs.Prelude.{ℕ, zero, suc, ◌+◌, ◌<◌, leb, Bool, false, ◌≡◌, List, [], ◌∷◌}
use Rattle.base.specs.Choice.{bit}
use Rattle.step.specs.declared.Step.{Step}
use Rattle.runner.specs.{declared.Runner.Runner, Run.is_wait, Run.started_with, Run.advance_of}
use Rattle.bring_up.specs.Wait.{runner_after, unready_poll, heard}

-- at each wait at least k unready polls: a poll is unready while fewer than k were
abbrev pub HearsAll : ℕ → List ℕ → (ℕ → Bool) → Type 0
HearsAll k sheet ready =
    (i : ℕ) → heard sheet ready (runner_after sheet ready i).stepper.state.position i < k → ready i ≡ false

-- a runner, and the number of unready polls at each position so far
pub record Slow : Type 0 where
  pub runner : Runner
  pub polls : ℕ → ℕ

-- ready after k unready polls at its position
abbrev pub slow_ready : ℕ → Slow → Bool
slow_ready k s = leb k (s.polls s.runner.stepper.state.position)

unfoldable pub slow_after : ℕ → List ℕ → ℕ → Slow
slow_after k sheet zero = record { runner = started_with sheet; polls = λ p. 0 }
slow_after k sheet (suc i) =
    let s = slow_after k sheet i in
    record {
      runner = (advance_of s.runner sheet (slow_ready k s)).next;
      polls = λ p. s.polls p + unready_poll p s.runner sheet (slow_ready k s);
    }

-- the stream that makes a runner wait longest
unfoldable pub slowest : ℕ → List ℕ → ℕ → Bool
slowest k sheet i = slow_ready k (slow_after k sheet i)

-- the number of waits among steps
abbrev pub waits_in : List Step → ℕ
waits_in [] = 0
waits_in (step ∷ steps) = bit (is_wait step.kind) + waits_in steps
