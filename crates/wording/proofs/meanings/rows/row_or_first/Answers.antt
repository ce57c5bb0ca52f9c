-- `meanings::rows::row_or_first` meets its contract: the row that the table has, else the first, is the definition's.
use Rattle.std.proofs.Common.{arith}
use Rattle.std.proofs.lemmas.List.{get_or-map}
use Rattle.wording.proofs.meanings.rows.row_or_first.Goals as goal

pub returns : goal.returns
returns c = grind (arith, get_or-map)
