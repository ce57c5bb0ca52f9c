-- `calls::changed_row` meets its contract: by `put_then` the writer put words, slots and steps, and by `finished` they stand at the
-- start of the row.
use Rattle.std.proofs.Common.{rules}
use Rattle.base.specs.Writing.{written}
use Rattle.base.proofs.Writing.{put_then, finished}
use Rattle.cases.proofs.calls.changed_row.Goals as goal

pub returns : goal.returns
returns c =
    let one = written c.put_all.new.self in
    let two = written c.put_all-2.new.self in
    let more = put_then one two (written c.put_all-3.new.self) _ _ c.put_all-2.ensures c.put_all-3.ensures in
    let all = put_then (written c.new-out.result) one (written c.put_all-3.new.self) _ _ c.put_all.ensures more in
    let p = finished c.new-out.result c.put_all-3.new.self _ c.new-out.ensures all in
    let bytes = p.placed.bytes in
    search rules
