-- `lister::Listing::put_all` meets its contract: the loop keeps that putting the settings of the remaining feedback
-- dividers completes the list; at every divider the index is at most twice the number of all settings (`few`).
use mathlib.Core.{Path.sym, Logic.inr}
use Prim.Native.Nat.{◌+◌, ◌-◌}
use native.Mathlib.Omega.{arith}
use Rattle.pll.specs.{Search.rising}
use Rattle.pll.proofs.{Ends.lowest-right, Ends.highest-right, Ends.between-permitted, Inputs.none-to-walk}
use Rattle.lister.specs.{Lister.meets, Lister.in_order, Lister.list_of, Order.at_feedback}
use Rattle.lister.proofs.{Writing.put_none, Hits.none-listed, Hits.whole-list}
use Rattle.lister.proofs.Walks.{rising_step, rising-end, one_more, done, index-most, few}
use Rattle.lister.proofs.Listing.put_all.Goals as goal

pub returns-in_default : goal.returns-in_default
returns-in_default c = let args = c.args in
    let none = none-to-walk _ args.target_hz _ (inr (sym c.in_default.ensures.lowest)) in
    rw (none-listed args.input_hz args.target_hz none.2, put_none)

pub loop-fbdiv-init : goal.loop-fbdiv-init
loop-fbdiv-init c = let args = c.args in
    let l = lowest-right args.input_hz _ (sym c.in-Ok.ensures.lowest) in
    let h = (highest-right args.input_hz _ (sym c.in-Ok.ensures.highest)).1 in
    rw (whole-list args.input_hz args.target_hz _ _ l h)

pub put_feedback-requires : goal.put_feedback-requires
unfolding list_of
put_feedback-requires c =
    let low = sym c.in-Ok.ensures.lowest in
    let high = sym c.in-Ok.ensures.highest in
    let most = index-most (meets c.args.input_hz c.args.target_hz) _ _ in_order _ c.loop-fbdiv.invariant in (
      omega (arith, few, c.requires),
      (highest-right _ _ high).0.0,
      between-permitted _ _ _ _ low high (omega arith) (omega arith),
    )

pub loop-fbdiv-preserved : goal.loop-fbdiv-preserved
loop-fbdiv-preserved c =
    let high = c.in-Ok.field-0.high in
    let fb = c.loop-fbdiv.fbdiv in
    rw (one_more (meets c.args.input_hz c.args.target_hz) _ _ at_feedback fb (rising (high + 1 - fb) fb)
    (rising (high + 1 - (fb + 1)) (fb + 1)) (rising_step (high + 1 - fb) (high + 1 - (fb + 1)) fb (omega arith))
    c.put_feedback.ensures) c.loop-fbdiv.invariant

pub returns-in-Ok : goal.returns-in-Ok
returns-in-Ok c =
    let l = c.loop-fbdiv in
    let left = c.in-Ok.field-0.high + 1 - l.fbdiv in
    rw (done (meets c.args.input_hz c.args.target_hz) _ at_feedback (rising left l.fbdiv) (rising-end left l.fbdiv (omega arith)))
    at l.invariant

pub returns-in-Ok-2 : goal.returns-in-Ok-2
returns-in-Ok-2 c =
    let test = meets c.args.input_hz c.args.target_hz in
    let fb = c.loop-fbdiv.fbdiv in
    let left = c.in-Ok.field-0.high + 1 - fb in
    rw (
      ← one_more test _ _ at_feedback fb (rising left fb) (rising 0 (fb + 1)) (rising_step left 0 fb (omega arith))
          c.put_feedback.ensures,
      done test _ at_feedback (rising 0 (fb + 1)) (rising-end 0 (fb + 1) (omega arith)),
    ) at c.loop-fbdiv.invariant
