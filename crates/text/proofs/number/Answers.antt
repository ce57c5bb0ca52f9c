-- `text::number` meets its contract: digits are text (`digits_utf8`), and `parsed` says what `parse` makes of them. By `take-length`
-- the bytes that are read may also be cut out of s, as long as they are all of s.
use Rattle.std.proofs.Common.{rules, arith, ◌≡◌}
use lib.Seq.{take-length}
use Rattle.text.proofs.Decimals.{digits_utf8, parsed}
use Rattle.text.proofs.number.Goals as goal

pub returns : goal.returns
returns c =
    let same : c.in_ok-digits.digits.now ≡ c.args.s.now = search (rules, take-length) in
    let read = parsed c.args.s.now _ (rw same at c.parse.ensures.value.0) (search rules) in
    grind (arith, read)

pub returns-in_err-digits : goal.returns-in_err-digits
returns-in_err-digits c = search (rules, digits_utf8, take-length)
