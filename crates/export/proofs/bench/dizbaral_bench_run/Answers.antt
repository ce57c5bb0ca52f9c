-- `export::bench::dizbaral_bench_run` meets its contract: a board over 7 is refused by `over-number` and `over-leaves`, a bad
-- mark is malformed by `bad-number` and `bad-leaves`, and else `board-number` and `board-leaves` turn the equations of
-- `dizbaral_run` over the board's numbers into those of the bench.
use mathlib.Core.{List.List, Path.ap, Path.◌∙◌}
use Prim.Native.Nat.{ℕ, ◌*◌}
use lib.Seq.{sets}
use Rattle.numbers.specs.Bench.{fourteen}
use Rattle.numbers.proofs.Boards.{over-number, over-leaves, bad-number, bad-leaves, board-number, board-leaves}
use Rattle.export.proofs.bench.dizbaral_bench_run.Goals as goal

pub returns-then-board-gt7 : goal.returns-then-board-gt7
returns-then-board-gt7 c =
    let over = c.if-board-gt7.true in
    record { value = c.refused.ensures ∙ over-number _ _ _ _ _ over; bench_after = over-leaves _ _ _ _ _ over }

pub returns-then-one-gt1 : goal.returns-then-one-gt1
returns-then-one-gt1 c =
    let few = c.if-board-gt7.false in
    let bad = rw c.runner_at-one.ensures at c.if-one-gt1.true in
    record { value = bad-number _ _ _ _ _ few bad; bench_after = bad-leaves _ _ _ _ _ few bad }

pub returns : goal.returns
returns c = let few = c.if-board-gt7.false in
    let a = c.args in
    let is = c.runner_at-one.ensures in
    let good = rw is at c.if-one-gt1.false in
    let ns = a.bench.now in record {
      value = rw is at c.dizbaral_run-number.ensures.value ∙ board-number ns _ _ _ _ few good;
      bench_after = c.put_runner.ensures
          ∙ ap (λ (l : List ℕ). sets ns (14 * a.board) (fourteen l)) (rw is at c.dizbaral_run-number.ensures.runner_after)
          ∙ board-leaves ns _ _ _ _ few good;
    }
