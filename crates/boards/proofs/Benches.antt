-- The bench after a start of all and after a call for a board, from the parts that the code computes.
use Rattle.std.specs.Prelude.{Bool, true, false, List, ◌≡◌, ℕ, ◌<◌, ◌≤◌, length}
use borrow.Author.Tests.{lt-ltb, le-ltb}
use Rattle.base.specs.Answer.{value, refusal}
use Rattle.boards.specs.{declared.Bench.Bench, Bench.board_at, Bench.eight_of, Bench.in_bench, Bench.bench_of, Bench.start_all_of}
use Rattle.runner.specs.Run.{outcome, stepper_of, started_with}
use Rattle.step.specs.Size.{bad_size}

module _ (b : Bench) (sheet : List ℕ) where
  pub all-refused : bad_size (length sheet) ≡ true → outcome (refusal 20) b ≡ start_all_of b sheet
  unfolding start_all_of
  all-refused e = simp e

  pub all-kept : bad_size (length sheet) ≡ false → outcome (value tt) (eight_of (started_with sheet)) ≡ start_all_of b sheet
  unfolding start_all_of
  all-kept e = simp e

module _ (b : Bench) (n : ℕ) (sheet : List ℕ) (ready : Bool) where
  pub over-seven : 7 < n → outcome (refusal 28) b ≡ bench_of b n sheet ready
  unfolding bench_of
  over-seven h = simp (lt-ltb 7 n h)

  pub of-eight : n ≤ 7
      → in_bench b n (stepper_of (board_at b n) b.len b.kept sheet ready) ≡ bench_of b n sheet ready
  unfolding bench_of
  of-eight h = simp (le-ltb 7 n h)
