-- `Words::fill` meets its contract: the letters left, read on from what is stored, give the result of the whole rest.
use Rattle.std.specs.Prelude.{◌≡◌, drop}
use Rattle.cases.specs.Words.{given}
use Rattle.cases.proofs.words.Words.fill.Given as goal

abbrev pub invariant-loop-letter : goal.invariant-loop-letter
invariant-loop-letter l = given l.rest (drop l.letter-index l.letters) l.self ≡ given l.fn.rest l.letters l.initial.self
