-- The start and the call of a bench that is given as 113 numbers and its kept bytes (docs/FORMAT.md, Bench).
use Rattle.std.specs.Prelude.{Bool, ◌||◌, ◌&&◌, not, List, [], ◌∷◌, ◌++◌, ℕ, zero, suc, ◌+◌, ◌*◌, ltb, replicate}
use lib.Seq.{sets}
use Rattle.base.specs.{Answer.Answer, Choice.pick, Choice.bit}
use Rattle.numbers.specs.Run.{state_in, is_runner, progress_number, Starts}
use Rattle.numbers.specs.{Fields.nth, Fields.ten_at, Answers.answer_number, Answers.left_by, Answers.malformed}
use Rattle.runner.specs.declared.Stepper.{Stepper}
use Rattle.boards.specs.{declared.Bench.Bench, Bench.board_at, Bench.bench_of, Bench.start_all_of}

-- board n as a runner's 15 numbers: position, lock polls, total, stopped mark, the kept length, which is the last of the 113, and
-- the ten frequencies
abbrev pub runner_at : List ℕ → ℕ → List ℕ
runner_at ns n =
    nth ns (14 * n) ∷ nth ns (14 * n + 1) ∷ nth ns (14 * n + 2) ∷ nth ns (14 * n + 3) ∷ nth ns 112
    ∷ ten_at ns (14 * n + 4)

abbrev pub stepper_at : List ℕ → ℕ → Stepper
stepper_at ns n = record { state = state_in (runner_at ns n); freqs = ten_at ns (14 * n + 4) }

-- count boards from board n on
abbrev pub boards_from : ℕ → ℕ → List ℕ → List Stepper
boards_from zero n ns = []
boards_from (suc count) n ns = stepper_at ns n ∷ boards_from count (suc n) ns

abbrev pub bench_in : List ℕ → List ℕ → Bench
bench_in ns kept = record { boards = boards_from 8 0 ns; kept = kept; len = nth ns 112 }

-- the 14 numbers of a board: a runner's without the kept length, and a stepper's
abbrev pub fourteen : List ℕ → List ℕ
fourteen ns = nth ns 0 ∷ nth ns 1 ∷ nth ns 2 ∷ nth ns 3 ∷ ten_at ns 5

abbrev pub board_numbers : Stepper → List ℕ
board_numbers b =
    let s = b.state in
    s.position ∷ s.lock_polls ∷ s.total ∷ bit s.stopped ∷ ten_at b.freqs 0

-- the numbers with board n replaced
abbrev pub with_board : ℕ → Stepper → List ℕ → List ℕ
with_board n b ns = sets ns (14 * n) (board_numbers b)

-- a call: its answer as a number, and the numbers after it; refusal 28 precedes the test of the board's mark
unfoldable pub bench_number : List ℕ → List ℕ → ℕ → List ℕ → Bool → ℕ
bench_number ns kept n sheet ready =
    pick (ltb 7 n || is_runner (runner_at ns n))
    (answer_number progress_number (bench_of (bench_in ns kept) n sheet ready).answer)
    malformed

unfoldable pub bench_leaves : List ℕ → List ℕ → ℕ → List ℕ → Bool → List ℕ
bench_leaves ns kept n sheet ready =
    pick (not (ltb 7 n) && is_runner (runner_at ns n))
    (with_board n (board_at (bench_of (bench_in ns kept) n sheet ready).next n) ns)
    ns

-- the numbers of a bench just started with a sheet of len bytes
abbrev pub fresh_numbers : ℕ → List ℕ
fresh_numbers len = replicate 112 0 ++ (len ∷ [])

-- the numbers after a start; a refusal leaves them unchanged
abbrev pub start_all_leaves : Answer (Unit {0}) → List ℕ → ℕ → List ℕ
start_all_leaves answer ns len = left_by (λ x before. fresh_numbers len) answer ns

-- the contract of a start of all boards
abbrev pub StartAllCall : List ℕ → List ℕ → List ℕ → ℕ → List ℕ → List ℕ → Type 0
StartAllCall ns kept sheet =
    let o = start_all_of (bench_in ns kept) sheet in
    Starts o.answer (fresh_numbers o.next.len) o.next.kept ns
