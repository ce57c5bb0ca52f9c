-- `refusal_and_frequencies` meets its contract: the refusal is that of the settings since the frequencies are theirs.
use Rattle.std.proofs.Common.{refl}
use Rattle.refusals.proofs.refusal_and_frequencies.Goals as goal

pub returns : goal.returns
returns c = let known = c.frequencies_of-frequencies.ensures in rw (c.refusal_of.ensures known.0, known.0) (refl, known.1)
