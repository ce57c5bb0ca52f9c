-- `trial::lcg::write_targets` meets its contract: one more draw (`draw-next`) appends one more line (`lines_next`).
use Rattle.std.proofs.Common.{◌≡◌, refl, sym, arith}
use Rattle.base.specs.Writing.{written}
use Rattle.base.proofs.Writing.{put_none, put_then}
use Rattle.trial.specs.{Lcg.drawn, Targets.target_lines}
use Rattle.trial.proofs.{Targets.draw-next, Targets.lines_next}
use Rattle.trial.proofs.lcg.write_targets.Goals as goal

pub loop-init : goal.loop-init
unfolding drawn target_lines
loop-init c = (refl, sym (put_none _))

pub loop-preserved : goal.loop-preserved
loop-preserved c =
    let seed = c.args.seed in
    let drew = draw-next seed c.loop.counter c.loop.invariant.0 c.draw-x.ensures in (
      drew,
      rw (← lines_next seed c.loop.counter drew)
          (put_then (written c.args.out.now) _ _ _ _ c.loop.invariant.1 c.write_target.ensures),
    )

pub returns : goal.returns
returns c = let all : c.loop.counter ≡ c.args.count = omega arith in rw all at c.loop.invariant.1
