-- `divider::gpout_freq` meets its contract: a whole part over the chip's greatest is the second case of `gpout_of`.
use borrow.Author.Tests.{lt-leb}
use Rattle.divider.specs.Gpout.{gpout_of}
use Rattle.divider.proofs.gpout_freq.Goals as goal

pub returns-then-facts-div_int : goal.returns-then-facts-div_int
unfolding gpout_of
returns-then-facts-div_int c = rw (← c.facts-facts.ensures, lt-leb _ _ c.if-facts-div_int.true)
