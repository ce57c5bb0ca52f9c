-- `steps::write_steps` meets its contract: each chunk is the eight bytes of its position, and its line is put.
use mathlib.Core.{Path.◌≡◌, Bool.true, Bool.false}
use Rattle.std.proofs.Common.{rules}
use Rattle.wording.specs.StepLines.{is_step}
use Rattle.wording.proofs.StepLines.{listed-none, listed-next, listed-last, listed-all}
use Rattle.wording.proofs.steps.write_steps.Goals as goal

pub loop-position-init : goal.loop-position-init
loop-position-init c =
    rw (c.into_iter-position-iterator.ensures.into_iter_gives, c.enumerate-position-items.ensures.source)
    (listed-none _ _ _ _ _ _ c.chip_in-chip.ensures c.enumerate-position-items.ensures.count c.chunks.ensures.size
    c.chunks.ensures.rest)

pub loop-position-preserved : goal.loop-position-preserved
loop-position-preserved c =
    let s = c.in-Some.ensures.steps in
    let step : is_step c.found_in-found.result ≡ true = search rules in
    listed-next c.loop-position.invariant c.in-Some.bytes.now _ _ _ _ _ s.2 s.0.0 s.0.1.0 s.0.1.1 s.0.1.2 c.found_in-found.ensures
    (rw s.1 at c.write_line.ensures) step

pub returns-then-is_none : goal.returns-then-is_none
returns-then-is_none c =
    let s = c.in-Some.ensures.steps in
    let none : is_step c.found_in-found.result ≡ false = search rules in
    listed-last c.loop-position.invariant c.in-Some.bytes.now _ _ _ s.0.1.0 s.0.1.1 s.0.1.2 c.found_in-found.ensures
    (rw s.1 at c.write_line.ensures) none

pub returns : goal.returns
returns c = listed-all c.loop-position.invariant (c.in-None.ensures.steps.0.1.0)
