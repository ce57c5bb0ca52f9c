-- `base::put_all` meets its contract: each value is placed behind those before it.
use native.Mathlib.Numerals.{add-one}
use lib.Seq.{take-suc}
use Rattle.base.proofs.Placing.{placed-append}
use Rattle.base.proofs.put_all.Goals as goal

pub loop-x-preserved : goal.loop-x-preserved
loop-x-preserved g c =
    rw (add-one, take-suc c.args.xs.now c.loop-x.x-index c.x-item.result c.loop-x-test.true, ← c.x-item.is)
    (placed-append c.loop-x.invariant c.put-end.ensures)
