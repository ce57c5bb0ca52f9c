-- `say::write` meets its contract: `call_short` bounds the text, as every element of the row is a 32-bit number.
use borrow.Author.Rules.{rules}
use native.Mathlib.Omega.{arith}
use Rattle.cases.proofs.Short.{call_short}
use Rattle.cases.proofs.say.write.Goals as goal

pub returns : goal.returns
returns c = record {
  puts = c.write_call.ensures;
  short =
      call_short c.args.r c.args.row.now c.args.bytes.now (omega arith)
      (λ i. search rules) c.requires.0 c.requires.1;
}
