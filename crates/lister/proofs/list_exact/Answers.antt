-- `lister::list_exact` meets its contract: the first pass counts the length of the list, and the comparison with it
-- decides: a short buffer is refused (`refused`), else the second pass writes the list and keeps the rest of the buffer
-- (`listed`).
use native.Mathlib.Omega.{arith}
use Rattle.std.proofs.Common.{rules}
use Rattle.lister.proofs.Ends.{refused, counted, listed}
use Rattle.lister.proofs.list_exact.Goals as goal

pub returns-then-buf-counted : goal.returns-then-buf-counted
returns-then-buf-counted c =
    let n = counted _ _ _ _ _ _ c.new-counted.ensures c.put_all.ensures in
    let r = refused c.args.input_hz c.args.target_hz c.args.buf.now (omega (arith, n)) in
    record { result_value = r.0; buf_after = r.1 }

pub returns : goal.returns
returns c =
    let n = counted _ _ _ _ _ _ c.new-counted.ensures c.put_all.ensures in
    let r = listed _ _ _ _ _ _ c.new-list.ensures c.put_all-2.ensures (omega (arith, n)) in
    record { result_value = r.1; buf_after = search rules }
