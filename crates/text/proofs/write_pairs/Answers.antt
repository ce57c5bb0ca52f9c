-- `text::write_pairs` meets its contract: a pair more writes its value, and the pairs that s is cut into have its values.
use mathlib.Core.Path.{sym}
use mathlib.Core.List.{[], map-append}
use native.Mathlib.{Numerals.add-one, Omega.arith}
use borrow.Author.Rules.{rules}
use lib.Seq.{take-suc, take_all}
use Rattle.base.specs.Writing.{written}
use Rattle.base.proofs.Writing.{put_none, put_then}
use Rattle.text.proofs.Hexes.{pairs-cut}
use Rattle.text.proofs.write_pairs.Goals as goal

pub loop-high-init : goal.loop-high-init
loop-high-init c = sym (put_none _)

pub loop-high-preserved : goal.loop-high-preserved
loop-high-preserved c =
    rw (add-one, take-suc c.as_chunks.result.0.now c.loop-high.high-index [] (omega arith), map-append)
    (put_then (written c.args.out.now) _ _ _ _ c.loop-high.invariant (search rules))

pub returns : goal.returns
returns c =
    rw (take_all c.loop-high.high-index c.as_chunks.result.0.now (omega arith), c.as_chunks.ensures.front, pairs-cut c.args.s.now)
    at c.loop-high.invariant
