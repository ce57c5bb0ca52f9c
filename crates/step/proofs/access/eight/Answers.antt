-- `step::access::eight` meets its contract: the library's word of the bytes that it cuts out is the format's (`word-cut`).
use mathlib.Core.Path.{ap, ◌∙◌}
use Rattle.std.proofs.Common.{Some, arith}
use Rattle.step.proofs.Accesses.{word-cut}
use Rattle.step.proofs.access.eight.Goals as goal

pub returns : goal.returns
returns c =
    let cut = c.in_ok-get.ensures.lookup.0 in
    let bytes = c.in_ok-bytes.ensures.cases in
    ap Some c.from_be_bytes.ensures
    ∙ word-cut c.args.buf.now c.in_ok-get.field-0.now c.in_ok-bytes.bytes.now c.args.at
    (λ i. omega (arith, c.type_inv.buf i)) cut.0 cut.2 bytes.enough bytes.same
