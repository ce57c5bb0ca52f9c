-- `trial::run` meets its contract: `begins` gives the runner at the start, and each call makes one more draw
-- (`draw-next`) and one more step of the runner (`runner-next`).
use Rattle.std.proofs.Common.{◌≡◌, refl, ap, ◌∙◌, arith}
use Rattle.bring_up.specs.Wait.{runner_after}
use Rattle.trial.specs.{Lcg.drawn, Load.flags}
use Rattle.trial.proofs.{Targets.draw-next, Trials.begins, Trials.runner-next}
use Rattle.trial.proofs.run.Goals as goal

pub loop-init : goal.loop-init
unfolding drawn runner_after
loop-init c = let pre = c.requires in
    (refl, begins _ _ c.start-opened.result c.start-opened.new.self pre c.start-opened.ensures)

pub loop-preserved : goal.loop-preserved
unfolding drawn runner_after
loop-preserved c = let args = c.args in
    let drew = draw-next args.seed c.loop.counter c.loop.invariant.0 c.draw-x.ensures in (
      drew,
      runner-next args.seed c.loop.counter args.sheet.now c.poll-reply.result c.poll-reply.new.self drew c.loop.invariant.1
          c.top_bit.ensures c.poll-reply.ensures,
    )

pub returns : goal.returns
unfolding drawn runner_after
returns c = let args = c.args in
    let all : c.loop.counter ≡ args.count = omega arith in c.loop.invariant.1 ∙ ap
    (runner_after args.sheet.now (flags args.seed)) all
