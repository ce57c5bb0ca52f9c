-- A refusal leaves the whole bench as it was, except at the lock timeout of the board that is called.
use Rattle.std.specs.Prelude.{Bool, List, refl, ℕ, ltb}
use mathlib.Core.Logic.{inl, inr}
use borrow.Author.Tests.{ltb-true, ltb-false}
use lib.Seq.{set-get_or}
use Rattle.base.specs.Answer.{Answer, value, refusal}
use Rattle.base.proofs.Bools.{either_way}
use Rattle.runner.specs.Run.{Outcome, outcome, stepper_of}
use Rattle.runner.specs.{declared.Stepper.Stepper, declared.Reply.Reply, Calls.Untouched, Calls.stepper_timed_out}
use Rattle.runner.proofs.Untouched.{stepper-keeps}
use Rattle.boards.specs.declared.Bench.{Bench}
use Rattle.boards.specs.Bench.{no_board, board_at, in_bench, board_timed_out, bench_of}
use Rattle.boards.proofs.Benches.{over-seven, of-eight}

with-others : (b : Bench) (n : ℕ) (x : Outcome Stepper) → Untouched (board_at b n) (stepper_timed_out (board_at b n)) x
    → Untouched b (board_timed_out b n) (in_bench b n x)
with-others b n x = go x.answer x.next
  where
    go : (a : Answer Reply) (s : Stepper) → Untouched (board_at b n) (stepper_timed_out (board_at b n)) (outcome a s)
        → Untouched b (board_timed_out b n) (in_bench b n (outcome a s))
    go (value p) s k = tt
    go (refusal m) s (inl e) = inl (rw (e, set-get_or b.boards n no_board))
    go (refusal m) s (inr (number, e)) = inr (number, rw e)

pub bench-refusal-keeps : (b : Bench) (n : ℕ) (sheet : List ℕ) (ready : Bool)
    → Untouched b (board_timed_out b n) (bench_of b n sheet ready)
bench-refusal-keeps b n sheet ready =
    either_way (ltb 7 n) (λ e. rw (← over-seven b n sheet ready (ltb-true 7 n e)) (inl refl))
    (λ e.
    rw (← of-eight b n sheet ready (ltb-false 7 n e))
    (with-others b n (stepper_of (board_at b n) b.len b.kept sheet ready)
    (stepper-keeps (board_at b n) b.len b.kept sheet ready)))
