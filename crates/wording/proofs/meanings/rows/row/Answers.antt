-- `meanings::rows::row` meets its contract: a row that the table has is the definition's.
use Rattle.std.proofs.Common.{arith}
use Rattle.std.proofs.lemmas.List.{get_or-map}
use Rattle.wording.proofs.meanings.rows.row.Goals as goal

pub returns-in-Some : goal.returns-in-Some
returns-in-Some c = grind (arith, get_or-map)
