-- `numbers::plan_row::put_plan` meets its contract: what the new writer puts stands at the start of the row.
use mathlib.Core.Path.{sym}
use Rattle.std.proofs.Common.{rules}
use Rattle.base.proofs.Writing.{finished}
use Rattle.numbers.proofs.plan_row.put_plan.Goals as goal

pub returns : goal.returns
returns c =
    let f = finished c.new-out.result c.put_parts.new.row _ c.new-out.ensures c.put_parts.ensures in
    let same = sym f.name in
    record { index = f.placed.index; bytes = search (rules, same, f.placed.bytes) }
