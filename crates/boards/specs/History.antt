-- Histories of a bench (docs/FORMAT.md, Bench): its starts and calls, and the part of them that concerns one board.
use Rattle.std.specs.Prelude.{ℕ, Bool, List, [], ◌∷◌, ◌≡◌, eqb, length}
use Rattle.base.specs.{Answer.Answer, Choice.pick}
use Rattle.runner.specs.{declared.Runner.Runner, declared.Reply.Reply, Run.advance_of, Run.start_of}
use Rattle.boards.specs.{declared.Bench.Bench, Bench.board_at, Bench.board_hz, Bench.bench_of, Bench.start_all_of}

-- an event at the bench: a start of all, or a call for a board
pub data BenchEvent : Type 0 where
  start : List ℕ → BenchEvent
  poll : ℕ → List ℕ → Bool → BenchEvent

-- an event at a single runner
pub data Own : Type 0 where
  start : List ℕ → Own
  poll : List ℕ → Bool → Own

-- the part of a bench's history that concerns board n: the starts, and the calls for it
abbrev pub own_of : ℕ → List BenchEvent → List Own
own_of n [] = []
own_of n (start sheet ∷ es) = start sheet ∷ own_of n es
own_of n (poll m sheet ready ∷ es) = pick (eqb m n) (poll sheet ready ∷ own_of n es) (own_of n es)

-- the bench after a history
abbrev pub bench_after : Bench → List BenchEvent → Bench
bench_after b [] = b
bench_after b (start sheet ∷ es) = bench_after (start_all_of b sheet).next es
bench_after b (poll m sheet ready ∷ es) = bench_after (bench_of b m sheet ready).next es

-- the answers of the calls for board n
abbrev pub answers_for : ℕ → Bench → List BenchEvent → List (Answer Reply)
answers_for n b [] = []
answers_for n b (start sheet ∷ es) = answers_for n (start_all_of b sheet).next es
answers_for n b (poll m sheet ready ∷ es) =
    let call = bench_of b m sheet ready in
    pick (eqb m n) (call.answer ∷ answers_for n call.next es) (answers_for n call.next es)

-- the single runner after its own history; then the answers of its calls
abbrev pub single_after : Runner → List Own → Runner
single_after r [] = r
single_after r (start sheet ∷ es) = single_after (start_of r sheet).next es
single_after r (poll sheet ready ∷ es) = single_after (advance_of r sheet ready).next es

abbrev pub single_answers : Runner → List Own → List (Answer Reply)
single_answers r [] = []
single_answers r (start sheet ∷ es) = single_answers (start_of r sheet).next es
single_answers r (poll sheet ready ∷ es) =
    let call = advance_of r sheet ready in
    call.answer ∷ single_answers call.next es

-- board n of the bench equals the single runner, in its stepper and its kept sheet
pub record Alike (n : ℕ) (b : Bench) (r : Runner) : Type 0 where
  pub eight : length b.boards ≡ 8
  pub board : board_at b n ≡ r.stepper
  pub kept : b.kept ≡ r.kept
  pub len : b.len ≡ r.len

-- board n gives the answers of a single runner over the events that concern it, and ends equal to that runner
pub record AsSingle (n : ℕ) (b : Bench) (r : Runner) (es : List BenchEvent) : Type 0 where
  pub answered : answers_for n b es ≡ single_answers r (own_of n es)
  pub left : Alike n (bench_after b es) (single_after r (own_of n es))

-- board n gives the same answers in two histories, and ends with the same state and the same ten frequencies
pub record SameBoard (n : ℕ) (b : Bench) (es : List BenchEvent) (d : Bench) (fs : List BenchEvent) : Type 0 where
  pub answered : answers_for n b es ≡ answers_for n d fs
  pub state : (board_at (bench_after b es) n).state ≡ (board_at (bench_after d fs) n).state
  pub freqs : (board_at (bench_after b es) n).freqs ≡ (board_at (bench_after d fs) n).freqs
  pub hz : (clock : ℕ) → board_hz (bench_after b es) n clock ≡ board_hz (bench_after d fs) n clock
