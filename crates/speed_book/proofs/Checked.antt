-- The test over the whole book holds by evaluation.
use Rattle.std.specs.Prelude.{List, T}
use mathlib.Core.{Path.sym, Path.subst, List.flat_map}
use Rattle.pll.specs.{Search.falling, Search.keep, declared.PllConfig.PllConfig}
use Rattle.speed_book.specs.Book.{entries, hertz, insert, by_output, book}
use Rattle.speed_book.proofs.{Merge.under, Merge.merge, Merge.merge_each, Merge.merged, Merge.book-merged, Rising.sound}

checked-merged : T (sound entries merged)
unfolding merged merge_each merge under by_output insert hertz keep flat_map falling
checked-merged = tt

pub checked : T (sound entries book)
checked = subst (λ (l : List PllConfig). T (sound entries l)) (sym book-merged) checked-merged
