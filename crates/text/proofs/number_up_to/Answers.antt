-- `text::number_up_to` meets its contract: by `take-up` the slice up to the index of b is the word that `number` reads.
use mathlib.Core.Path.{ap, ◌∙◌}
use Rattle.text.specs.Decimal.{number_of}
use Rattle.text.proofs.Lines.{take-up}
use Rattle.text.proofs.number_up_to.Goals as goal

pub returns : goal.returns
returns c = let args = c.args in
    c.number.ensures ∙ ap number_of (rw c.index_of.ensures.value (take-up args.b args.s.now))
