-- `Words::fill` meets its contract: `letter-taken` carries on what a letter's word gives, and `letter-none`, `letter-full` and
-- `letters-end` are the other exits.
use mathlib.Core.{Path.◌≡◌, Path.sym, Path.◌∙◌}
use Prim.Native.Nat.{suc, ◌+◌}
use native.Mathlib.Omega.{arith}
use Rattle.cases.proofs.{Steps.letter-none, Steps.letter-full, Steps.letter-taken, Steps.letters-end}
use Rattle.cases.proofs.words.Words.fill.Goals as goal

pub returns-then-is_empty : goal.returns-then-is_empty
returns-then-is_empty c =
    sym (letter-none _ _ _ _ c.loop-letter-test.true (sym c.if-is_empty.ensures)) ∙ c.loop-letter.invariant

pub returns-then-self-ge128 : goal.returns-then-self-ge128
returns-then-self-ge128 c =
    sym (letter-full _ _ _ _ c.loop-letter-test.true (sym c.if-is_empty.ensures) c.if-self-ge128.true) ∙ c.loop-letter.invariant

pub returns-in_default : goal.returns-in_default
returns-in_default c =
    let more = letter-taken _ _ _ _ c.loop-letter-test.true (sym c.if-is_empty.ensures) c.if-self-ge128.false
    c.next_word.ensures.word c.next_word.ensures.rest c.in_default.ensures.word in
    sym more ∙ c.loop-letter.invariant

pub loop-letter-preserved : goal.loop-letter-preserved
loop-letter-preserved c =
    let one : c.loop-letter.letter-index + 1 ≡ suc c.loop-letter.letter-index = omega arith in
    let more = letter-taken _ _ _ _ c.loop-letter-test.true (sym c.if-is_empty.ensures) c.if-self-ge128.false
    c.next_word.ensures.word c.next_word.ensures.rest c.in-Some.ensures.word in
    rw (one, c.push.ensures) (sym more ∙ c.loop-letter.invariant)

pub returns : goal.returns
returns c = rw c.is_empty-2.ensures (sym (letters-end _ _ _ _ c.loop-letter-test.false) ∙ c.loop-letter.invariant)
