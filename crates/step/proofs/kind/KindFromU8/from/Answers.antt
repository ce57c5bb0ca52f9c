-- `From<u8> for Kind` meets its contract: a number that no arm names is no kind.
use borrow.Author.Rules.{rules}
use Rattle.step.proofs.Numbers.{unknown_of}
use Rattle.step.proofs.kind.KindFromU8.from.Goals as goal

pub returns-in_default : goal.returns-in_default
returns-in_default c = unknown_of c.args.number (search rules)
