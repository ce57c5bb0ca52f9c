-- `speed_book::book` meets its contract: the constant is the table of the merged book by evaluation, and the merged
-- book is the book (`book-merged`).
use mathlib.Core.{Path.◌≡◌, Path.sym, Path.ap, List.map, List.flat_map}
use Rattle.pll.specs.Search.{falling, keep}
use Rattle.speed_book.specs.Book.{hertz, insert, by_output, table_number, table}
use Rattle.speed_book.proofs.Merge.{under, merge, merge_each, merged, book-merged}
use Rattle.speed_book.proofs.book.Goals as goal

from-merged : map table_number merged ≡ table
unfolding table
from-merged = ap (map table_number) (sym book-merged)

pub returns : goal.returns
unfolding by_output falling flat_map hertz insert keep merge merge_each merged table_number under
returns c = from-merged
