-- A bench given as numbers: a call for a board is the runner's call over the board's numbers, a start that is refused for one
-- bench is refused for each, and a start of one runner over zeros decides the start of all eight boards.
use Rattle.std.specs.Prelude.{Bool, true, false, List, ◌≡◌, refl, ℕ, zero, suc, ◌+◌, ◌*◌, ◌<◌, ◌≤◌, length, get_or, set, replicate}
use mathlib.Core.Path.{sym, ap, ◌∙◌}
use native.Mathlib.Omega.{arith}
use borrow.Author.Tests.{lt-ltb, le-ltb, le-leb, lt-leb}
use lib.Seq.{sets, get_or-set_same}
use Rattle.numbers.specs.Run.{runner_in, progress_number, with_state, with_freqs, run_number, run_leaves, go_number, start_leaves}
use Rattle.numbers.specs.Run.{StartCall}
use Rattle.numbers.specs.Bench.{runner_at, stepper_at, boards_from, bench_in, fourteen, bench_number, bench_leaves}
use Rattle.numbers.specs.Bench.{start_all_leaves, StartAllCall}
use Rattle.numbers.specs.{Fields.nth, Answers.answer_number, Answers.refusals, Answers.malformed}
use Rattle.runner.specs.{declared.Stepper.Stepper, declared.Runner.Runner, Run.Outcome, Run.outcome, Run.stepper_of, Run.advance_of, Run.StartOutcome, Run.start_of}
use Rattle.runner.proofs.Starts.{start-refused, start-kept}
use Rattle.base.specs.Answer.{refusal}
use Rattle.base.proofs.Bools.{either_way}
use Rattle.step.specs.Size.{bad_size}
use Rattle.boards.specs.{declared.Bench.Bench, Bench.no_board, Bench.board_at, Bench.in_bench, Bench.bench_of, Bench.start_all_of}
use Rattle.boards.proofs.Benches.{all-refused, all-kept, over-seven, of-eight}

board-from : (count n i : ℕ) (ns : List ℕ) → i < count
    → get_or (boards_from count n ns) i no_board ≡ stepper_at ns (n + i)
board-from zero n i ns h = absurd (omega arith)
board-from (suc count) n zero ns h = ap (stepper_at ns) (omega arith)
board-from (suc count) n (suc i) ns h = board-from count (suc n) i ns (omega arith) ∙ ap (stepper_at ns) (omega arith)

module _ (ns kept : List ℕ) (n : ℕ) (sheet : List ℕ) (ready : Bool) where
  -- a board number over 7 is refused
  pub over-number : 7 < n → refusals + 28 ≡ bench_number ns kept n sheet ready
  unfolding bench_number
  over-number h = rw (lt-ltb 7 n h)
      (ap (λ (x : Outcome Bench). answer_number progress_number x.answer) (over-seven (bench_in ns kept) n sheet ready h))

  pub over-leaves : 7 < n → ns ≡ bench_leaves ns kept n sheet ready
  unfolding bench_leaves
  over-leaves h = rw (lt-ltb 7 n h) refl

  module _ (few : n ≤ 7) where
    -- a stopped mark other than 0 and 1 is malformed
    module _ (bad : 1 < nth ns (14 * n + 3)) where
      pub bad-number : malformed ≡ bench_number ns kept n sheet ready
      unfolding bench_number
      bad-number = rw (le-ltb 7 n few, lt-leb _ _ bad) refl

      pub bad-leaves : ns ≡ bench_leaves ns kept n sheet ready
      unfolding bench_leaves
      bad-leaves = rw (le-ltb 7 n few, lt-leb _ _ bad) refl

    pub board-at : board_at (bench_in ns kept) n ≡ stepper_at ns n
    board-at = board-from 8 0 n ns (omega arith) ∙ ap (stepper_at ns) (omega arith)

    -- the call of the board's own stepper
    abbrev pub call : Outcome Stepper
    call = stepper_of (stepper_at ns n) (nth ns 112) kept sheet ready

    pub of-board : bench_of (bench_in ns kept) n sheet ready ≡ in_bench (bench_in ns kept) n call
    of-board =
        sym (of-eight (bench_in ns kept) n sheet ready few)
        ∙ ap (λ (s : Stepper). in_bench (bench_in ns kept) n (stepper_of s (nth ns 112) kept sheet ready)) board-at

    module _ (good : nth ns (14 * n + 3) ≤ 1) where
      pub board-number : run_number (runner_at ns n) kept sheet ready ≡ bench_number ns kept n sheet ready
      unfolding run_number bench_number advance_of
      board-number = rw (le-ltb 7 n few, le-leb _ _ good, of-board) refl

      pub next-board : board_at (bench_of (bench_in ns kept) n sheet ready).next n ≡ call.next
      next-board =
          ap (λ (x : Outcome Bench). board_at x.next n) of-board
          ∙ get_or-set_same (bench_in ns kept).boards n call.next no_board (omega arith)

      pub board-leaves : sets ns (14 * n) (fourteen (run_leaves (runner_at ns n) kept sheet ready))
          ≡ bench_leaves ns kept n sheet ready
      unfolding run_leaves bench_leaves advance_of with_state with_freqs
      board-leaves = rw (le-ltb 7 n few, le-leb _ _ good, next-board) refl

-- the number of a start's answer
abbrev start_number : {A : Type 0} → StartOutcome A → ℕ
start_number x = answer_number go_number x.answer

-- a start that is refused for one bench is refused for each, and leaves each
pub refused-start : (ns kept sheet : List ℕ) (b after : Bench) (n : ℕ) → outcome (refusal n) after ≡ start_all_of b sheet
    → StartAllCall ns kept sheet (refusals + n) ns kept
refused-start ns kept sheet b after n e =
    either_way (bad_size (length sheet))
    (λ bad.
    let each = all-refused (bench_in ns kept) sheet bad in
    record {
      answer = ap start_number (e ∙ sym (all-refused b sheet bad)) ∙ ap start_number each;
      numbers = ap (λ (x : StartOutcome Bench). start_all_leaves x.answer ns x.next.len) each;
      bytes = ap (λ (x : StartOutcome Bench). x.next.kept) each;
    })
    (λ ok. let no : refusals + n ≡ 0 = ap start_number (e ∙ sym (all-kept b sheet ok)) in absurd (omega (arith, no)))

-- a start that is refused for a runner is refused for each bench, and leaves each
pub runner-refused : (ns kept sheet : List ℕ) (r after : Runner) (n : ℕ) → outcome (refusal n) after ≡ start_of r sheet
    → StartAllCall ns kept sheet (refusals + n) ns kept
runner-refused ns kept sheet r after n e =
    either_way (bad_size (length sheet))
    (λ bad.
    let each = all-refused (bench_in ns kept) sheet bad in
    record {
      answer = ap start_number (e ∙ sym (start-refused r sheet bad)) ∙ ap start_number each;
      numbers = ap (λ (x : StartOutcome Bench). start_all_leaves x.answer ns x.next.len) each;
      bytes = ap (λ (x : StartOutcome Bench). x.next.kept) each;
    })
    (λ ok. let no : refusals + n ≡ 0 = ap start_number (e ∙ sym (start-kept r sheet ok)) in absurd (omega (arith, no)))

-- a start of one runner over zeros, as the start of all eight boards
module _ (ns kept sheet : List ℕ) (r : ℕ) (one kept' : List ℕ) (call : StartCall (replicate 15 0) kept sheet r one kept') where
  abbrev board : Runner
  board = runner_in (replicate 15 0) kept

  abbrev bench : Bench
  bench = bench_in ns kept

  abbrev told : StartOutcome Runner → List ℕ
  told x = start_leaves x.answer (replicate 15 0) x.next.len

  module _ (e : bad_size (length sheet) ≡ true) where
    turned-number : r ≡ refusals + 20
    turned-number = call.answer ∙ ap start_number (sym (start-refused board sheet e))

    turned : StartAllCall ns kept sheet r ns kept'
    turned = record {
      answer = turned-number ∙ ap start_number (all-refused bench sheet e);
      numbers = ap (λ (x : StartOutcome Bench). start_all_leaves x.answer ns x.next.len) (all-refused bench sheet e);
      bytes = call.bytes ∙ ap (λ (x : StartOutcome Runner). x.next.kept) (sym (start-refused board sheet e))
          ∙ ap (λ (x : StartOutcome Bench). x.next.kept) (all-refused bench sheet e);
    }

  module _ (e : bad_size (length sheet) ≡ false) where
    taken-number : r ≡ 0
    taken-number = call.answer ∙ ap start_number (sym (start-kept board sheet e))

    taken : StartAllCall ns kept sheet r (set (replicate 113 0) 112 (get_or one 4 0)) kept'
    taken = record {
      answer = taken-number ∙ ap start_number (all-kept bench sheet e);
      numbers =
          ap (λ (l : List ℕ). set (replicate 113 0) 112 (get_or l 4 0))
          (call.numbers ∙ ap told (sym (start-kept board sheet e)))
          ∙ ap (λ (x : StartOutcome Bench). start_all_leaves x.answer ns x.next.len) (all-kept bench sheet e);
      bytes = call.bytes ∙ ap (λ (x : StartOutcome Runner). x.next.kept) (sym (start-kept board sheet e))
          ∙ ap (λ (x : StartOutcome Bench). x.next.kept) (all-kept bench sheet e);
    }

  pub all-started : r ≡ 0 → StartAllCall ns kept sheet r (set (replicate 113 0) 112 (get_or one 4 0)) kept'
  all-started h =
      either_way (bad_size (length sheet)) (λ e. absurd (omega (arith, turned-number e))) taken

  pub all-turned : (r ≡ 0 → ⊥) → StartAllCall ns kept sheet r ns kept'
  all-turned h = either_way (bad_size (length sheet)) turned (λ e. absurd (h (taken-number e)))
