-- `replies::write_spaced` meets its contract: `spaced-step` appends a space and the number, whose value `into` keeps.
use mathlib.Core.Path.{◌≡◌}
use native.Mathlib.Omega.{arith}
use Rattle.base.proofs.Writing.{put_then}
use Rattle.text.proofs.Spaced.{spaced-step}
use Rattle.text.proofs.replies.write_spaced.Goals as goal

pub loop-n-preserved : goal.loop-n-preserved
loop-n-preserved g c =
    let n = c.n-item.result in
    let number = g.T.Number.number in
    let value : c.into.result ≡ number n = g.met.T.Number.widens n c.into.result c.into.ensures in
    rw (spaced-step number c.args.ns.now c.loop-n.n-index n (omega arith), ← c.n-item.is, ← value)
    (put_then _ _ _ _ _ c.loop-n.invariant (put_then _ _ _ _ _ c.put.ensures c.write_decimal.ensures))
