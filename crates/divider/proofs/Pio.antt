-- The range test alone decides the PIO divider: a target of 0 gives the quotient 0, which is out of range.
use Rattle.std.specs.Prelude.{◌≡◌, ℕ, ◌*◌, ◌/◌, eqb}
use native.Mathlib.Nat.{div-zero}
use borrow.Author.Tests.{eqb-true}
use Rattle.base.specs.{Choice.pick, Choice.in_range, Answer.Answer, Answer.value, Answer.refusal, Widths.u24}
use Rattle.base.proofs.Bools.{either_way}
use Rattle.divider.specs.Pio.{pio_of}

abbrev tested : ℕ → Answer ℕ
tested divider = pick (in_range 256 u24 divider) (value divider) (refusal 17)

pub pio-tested : (system target : ℕ) → pio_of system target ≡ tested (system * 256 / target)
unfolding pio_of
pio-tested system target = either_way (eqb target 0) (λ e. rw (e, eqb-true target 0 e, div-zero)) (λ e. rw e)

pub ruleset tested_alone = pio-tested
