-- `Words::number` meets its contract: `hexed` says what a word of hex that is read leaves, and `not-hexed` that no other is read.
use borrow.Author.Tests.{ne_eqb}
use Rattle.std.proofs.Common.{rules}
use native.Mathlib.Omega.{arith}
use Rattle.cases.specs.Words.{step}
use Rattle.cases.proofs.Steps.{hexed, not-hexed, counted}
use Rattle.cases.proofs.words.Words.number.Goals as goal

pub returns-in_err-hex_bytes-in-120-clause-word : goal.returns-in_err-hex_bytes-in-120-clause-word
unfolding step
returns-in_err-hex_bytes-in-120-clause-word c =
    rw (c.from_residual.ensures, c.in-120.is, not-hexed (c.in_err-hex_bytes-in-120.ensures))

pub returns-in_err-hex_bytes-in-107-clause-word : goal.returns-in_err-hex_bytes-in-107-clause-word
unfolding step
returns-in_err-hex_bytes-in-107-clause-word c =
    rw (c.from_residual-in_err-hex_bytes-in-107.ensures, c.in-107.is, not-hexed (c.in_err-hex_bytes-in-107.ensures))

pub overflow_cast-result : goal.overflow_cast-result
overflow_cast-result c = omega (arith, (hexed (c.in_ok-hex_bytes-in-120.ensures)).fits)

pub overflow_cast-result-in-107 : goal.overflow_cast-result-in-107
overflow_cast-result-in-107 c = omega (arith, (hexed (c.in_ok-hex_bytes-in-107.ensures)).fits)

pub returns-in_ok-hex_bytes-in-120-clause-word : goal.returns-in_ok-hex_bytes-in-120-clause-word
unfolding step
returns-in_ok-hex_bytes-in-120-clause-word c =
    let h = hexed (c.in_ok-hex_bytes-in-120.ensures) in
    rw (c.in-120.is, h.readable, ← h.count, ← h.bytes)

pub returns-in_ok-hex_bytes-in-107-clause-word : goal.returns-in_ok-hex_bytes-in-107-clause-word
unfolding step
returns-in_ok-hex_bytes-in-107-clause-word c =
    let h = hexed (c.in_ok-hex_bytes-in-107.ensures) in
    rw (c.in-107.is, h.readable, ← h.count, ← h.bytes)

pub returns-in_default-clause-word : goal.returns-in_default-clause-word
unfolding step
returns-in_default-clause-word c =
    rw (ne_eqb c.args.letter 120 (omega arith), ne_eqb c.args.letter 107 (omega arith), ← c.number.ensures)
    (counted c.args.self.now c.number.result _ _ (search rules))
