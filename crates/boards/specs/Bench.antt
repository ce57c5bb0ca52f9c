-- Eight boards with one kept sheet (docs/FORMAT.md, Bench): the answer of a call for a board and of a start of all,
-- and the bench after it.
use Rattle.std.specs.Prelude.{ℕ, Bool, false, List, [], ltb, length, get_or, set, replicate}
use Rattle.base.specs.{Answer.Answer, Answer.value, Answer.refusal, Choice.pick}
use Rattle.runner.specs.Run.{Outcome, outcome, fresh, stepper_of, StartOutcome, started_with}
use Rattle.runner.specs.{declared.Stepper.Stepper, declared.Runner.Runner, Calls.stepper_timed_out}
use Rattle.boards.specs.declared.Bench.{Bench}
use Rattle.step.specs.Size.{bad_size}

-- eight copies of a runner's stepper, and its kept sheet
abbrev pub eight_of : Runner → Bench
eight_of r = record { boards = replicate 8 r.stepper; kept = r.kept; len = r.len }

-- before any start the kept sheet is empty
abbrev pub fresh_bench : Bench
fresh_bench = eight_of fresh

-- the board with this number; the filler past the eighth is never read
abbrev pub no_board : Stepper
no_board = record { state = record { position = 0; lock_polls = 0; total = 0; stopped = false }; freqs = [] }

abbrev pub board_at : Bench → ℕ → Stepper
board_at b n = get_or b.boards n no_board

abbrev pub in_bench : Bench → ℕ → Outcome Stepper → Outcome Bench
in_bench b n x =
    outcome x.answer (record { boards = set b.boards n x.next; kept = b.kept; len = b.len })

-- the bench where the lock of board n timed out
abbrev pub board_timed_out : Bench → ℕ → Bench
board_timed_out b n =
    record { boards = set b.boards n (stepper_timed_out (board_at b n)); kept = b.kept; len = b.len }

-- the frequency that a board holds for a clock, by its number; refusal 28 for a board over 7, and 0 Hz for a clock over 9
unfoldable pub board_hz : Bench → ℕ → ℕ → Answer ℕ
board_hz b n clock =
    pick (ltb 7 n) (refusal 28) (pick (ltb 9 clock) (value 0) (value (get_or (board_at b n).freqs clock 0)))

-- a call for a board: refusal 28 for a number over 7, else the call of a runner with the kept sheet
unfoldable pub bench_of : Bench → ℕ → List ℕ → Bool → Outcome Bench
bench_of b n sheet ready =
    pick (ltb 7 n) (outcome (refusal 28) b) (in_bench b n (stepper_of (board_at b n) b.len b.kept sheet ready))

-- a start of all: refusal 20 for a length that no sheet has, which changes nothing; else eight fresh boards
unfoldable pub start_all_of : Bench → List ℕ → StartOutcome Bench
start_all_of b sheet =
    pick (bad_size (length sheet)) (outcome (refusal 20) b) (outcome (value tt) (eight_of (started_with sheet)))
