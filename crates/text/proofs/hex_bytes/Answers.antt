-- `text::hex_bytes` meets its contract: each exit is a law of `Hexes`: `no_word` and `no_room` for the two refusals, and
-- `word_read` turns what the writer put into the reading.
use mathlib.Core.Path.{sym, ◌∙◌}
use native.Mathlib.Omega.{arith}
use Rattle.std.proofs.Common.{rules}
use Rattle.base.proofs.Writing.{finished}
use Rattle.text.proofs.{Hexes.no_word, Hexes.no_room, Hexes.word_read}
use Rattle.text.proofs.hex_bytes.Goals as goal

pub returns-then-not-is_hex_word : goal.returns-then-not-is_hex_word
returns-then-not-is_hex_word c = let args = c.args in
    no_word args.s.now args.buf.now (sym c.is_hex_word.ensures ∙ c.if-not-is_hex_word.true)

pub returns-then-buf-s : goal.returns-then-buf-s
returns-then-buf-s c = let args = c.args in
    let word = sym c.is_hex_word.ensures ∙ c.if-not-is_hex_word.false in
    no_room args.s.now args.buf.now word (omega arith)

pub returns : goal.returns
returns c = let args = c.args in
    let word = sym c.is_hex_word.ensures ∙ c.if-not-is_hex_word.false in
    let p = finished c.new-out.result c.write_pairs.new.out _ c.new-out.ensures c.write_pairs.ensures in
    let read = word_read args.s.now args.buf.now word (omega arith) _ _ p.placed in
    search rules
