-- Each board of a bench behaves as a single runner, whatever calls are made for the other boards.
use Rattle.std.specs.Prelude.{Bool, false, List, [], ◌∷◌, ◌++◌, ◌≡◌, refl, ℕ, ◌≤◌, eqb, ltb, length}
use mathlib.Core.Path.{sym, ap, ◌∙◌}
use native.Mathlib.Omega.{arith}
use borrow.Author.Tests.{eqb-true, eqb-false, ltb-true, ltb-false}
use lib.{ListN.length-set, ListN.get_or-replicate, Seq.get_or-set_same, Seq.get_or-set_other}
use Rattle.base.specs.Answer.{Answer}
use Rattle.base.proofs.Bools.{either_way}
use Rattle.runner.specs.Run.{Outcome, fresh_stepper, fresh, stepper_of, advance_of, StartOutcome, started_with, start_of}
use Rattle.runner.specs.declared.{Stepper.Stepper, Runner.Runner, Reply.Reply}
use Rattle.boards.specs.declared.Bench.{Bench}
use Rattle.boards.specs.Bench.{fresh_bench, no_board, board_at, board_hz, eight_of, bench_of, start_all_of}
use Rattle.boards.specs.History.{BenchEvent, start, poll, Own, own_of, bench_after, single_after, single_answers, Alike, AsSingle}
use Rattle.boards.specs.History.{SameBoard}
use Rattle.step.specs.Size.{bad_size}
use Rattle.runner.proofs.Starts.{start-refused, start-kept}
use Rattle.boards.proofs.Benches.{all-refused, all-kept, over-seven, of-eight}

module _ (n : ℕ) (few : n ≤ 7) where
  -- eight copies of a runner's stepper equal the runner
  eight-alike : (r : Runner) → Alike n (eight_of r) r
  eight-alike r =
      record { eight = refl; board = get_or-replicate 8 n r.stepper no_board (omega arith); kept = refl; len = refl }

  -- a new bench equals a new runner
  pub alike-new : Alike n fresh_bench fresh
  alike-new = eight-alike fresh

  -- after a start that is not refused they are equal, whatever both were
  started-alike : (b : Bench) (r : Runner) (sheet : List ℕ) → bad_size (length sheet) ≡ false
      → Alike n (start_all_of b sheet).next (start_of r sheet).next
  started-alike b r sheet ok =
      let all = ap (λ (x : StartOutcome Bench). x.next) (all-kept b sheet ok) in
      let one = ap (λ (x : StartOutcome Runner). x.next) (start-kept r sheet ok) in
      rw (← all, ← one) (eight-alike (started_with sheet))

  alike-start : (b : Bench) (r : Runner) (sheet : List ℕ) → Alike n b r
      → Alike n (start_all_of b sheet).next (start_of r sheet).next
  alike-start b r sheet k =
      either_way (bad_size (length sheet))
      (λ e.
      let all = ap (λ (x : StartOutcome Bench). x.next) (all-refused b sheet e) in
      let one = ap (λ (x : StartOutcome Runner). x.next) (start-refused r sheet e) in
      rw (← all, ← one) k) (started-alike b r sheet)

  module _ (b : Bench) (r : Runner) (k : Alike n b r) (sheet : List ℕ) (ready : Bool) where
    -- the outcome of the board, which is also the runner's
    abbrev here : Outcome Stepper
    here = stepper_of (board_at b n) b.len b.kept sheet ready

    abbrev there : Outcome Stepper
    there = stepper_of r.stepper r.len r.kept sheet ready

    agree : here ≡ there
    agree = rw (k.board, k.len, k.kept) refl

    own-answer : (bench_of b n sheet ready).answer ≡ (advance_of r sheet ready).answer
    unfolding advance_of
    own-answer =
        ap (λ (x : Outcome Bench). x.answer) (sym (of-eight b n sheet ready few))
        ∙ ap (λ (x : Outcome Stepper). x.answer) agree

    own-next : Alike n (bench_of b n sheet ready).next (advance_of r sheet ready).next
    unfolding advance_of
    own-next =
        rw (← ap (λ (x : Outcome Bench). x.next) (of-eight b n sheet ready few))
        (record {
          eight = length-set b.boards n here.next ∙ k.eight;
          board = get_or-set_same b.boards n here.next no_board (omega (arith, k.eight))
              ∙ ap (λ (x : Outcome Stepper). x.next) agree;
          kept = k.kept;
          len = k.len;
        })

    -- a call for another number
    other-next : (m : ℕ) → eqb m n ≡ false → Alike n (bench_of b m sheet ready).next r
    other-next m ne =
        let next = (stepper_of (board_at b m) b.len b.kept sheet ready).next in
        either_way (ltb 7 m)
        (λ e. rw (← ap (λ (x : Outcome Bench). x.next) (over-seven b m sheet ready (ltb-true 7 m e))) k)
        (λ e.
        rw (← ap (λ (x : Outcome Bench). x.next) (of-eight b m sheet ready (ltb-false 7 m e)))
        (record {
          eight = length-set b.boards m next ∙ k.eight;
          board = get_or-set_other b.boards m n next no_board (λ (e : n ≡ m). eqb-false m n ne (sym e)) ∙ k.board;
          kept = k.kept;
          len = k.len;
        }))

  pub single : (es : List BenchEvent) (b : Bench) (r : Runner) → Alike n b r → AsSingle n b r es
  single [] b r k = record { answered = refl; left = k }
  single (start sheet ∷ es) b r k =
      let rest = single es (start_all_of b sheet).next (start_of r sheet).next (alike-start b r sheet k) in
      record { answered = rest.answered; left = rest.left }
  single (poll m sheet ready ∷ es) b r k =
      either_way (eqb m n)
      (λ e.
      let m-n : m ≡ n = eqb-true m n e in
      let rest = single es (bench_of b n sheet ready).next (advance_of r sheet ready).next (own-next b r k sheet ready) in
      record {
        answered = rw (e, m-n, own-answer b r k sheet ready)
            (ap (λ (l : List (Answer Reply)). (advance_of r sheet ready).answer ∷ l) rest.answered);
        left = rw (e, m-n) rest.left;
      })
      (λ e.
      let rest = single es (bench_of b m sheet ready).next r (other-next b r k sheet ready m e) in
      record { answered = rw e rest.answered; left = rw e rest.left })

  -- between starts: any bench and any runner, started with the same sheet, then any calls
  pub between-starts : (b : Bench) (r : Runner) (sheet : List ℕ) → bad_size (length sheet) ≡ false → (es : List BenchEvent)
      → AsSingle n (start_all_of b sheet).next (start_of r sheet).next es
  between-starts b r sheet ok es =
      single es (start_all_of b sheet).next (start_of r sheet).next (started-alike b r sheet ok)

  -- in two histories of benches started with the same sheet, where the events that concern the board agree, so does
  -- the board
  pub own-calls : (b d : Bench) (sheet : List ℕ) → bad_size (length sheet) ≡ false → (es fs : List BenchEvent)
      → own_of n es ≡ own_of n fs → SameBoard n (start_all_of b sheet).next es (start_all_of d sheet).next fs
  unfolding board_hz
  own-calls b d sheet ok es fs own =
      let one = between-starts b fresh sheet ok es in
      let other = between-starts d fresh sheet ok fs in
      let r = (start_of fresh sheet).next in
      let board = one.left.board
      ∙ ap (λ (l : List Own). (single_after r l).stepper) own ∙ sym other.left.board in
      record {
        answered = one.answered ∙ ap (single_answers r) own ∙ sym other.answered;
        state = ap (λ (s : Stepper). s.state) board;
        freqs = ap (λ (s : Stepper). s.freqs) board;
        hz = λ clock. rw board refl;
      }

-- a later start that is not refused makes all eight boards fresh, whatever came before
pub after-start : (b : Bench) (es : List BenchEvent) (sheet : List ℕ) (fs : List BenchEvent) → bad_size (length sheet) ≡ false
    → bench_after b (es ++ (start sheet ∷ fs)) ≡ bench_after (eight_of (started_with sheet)) fs
after-start b [] sheet fs ok =
    ap (λ (x : StartOutcome Bench). bench_after x.next fs) (sym (all-kept b sheet ok))
after-start b (start other ∷ es) sheet fs ok = after-start (start_all_of b other).next es sheet fs ok
after-start b (poll m other ready ∷ es) sheet fs ok = after-start (bench_of b m other ready).next es sheet fs ok

pub all-fresh : (n : ℕ) → n ≤ 7 → (b : Bench) (es : List BenchEvent) (sheet : List ℕ) → bad_size (length sheet) ≡ false
    → board_at (bench_after b (es ++ (start sheet ∷ []))) n ≡ fresh_stepper
all-fresh n few b es sheet ok =
    ap (λ (x : Bench). board_at x n) (after-start b es sheet [] ok) ∙ get_or-replicate 8 n fresh_stepper no_board (omega arith)
