-- The words of a slot are those from an index on, and a board's numbers a runner's without the kept length.
use mathlib.Core.{Path.◌≡◌, Path.sym, Path.ap, Path.◌∙◌, List.List, List.◌++◌}
use Rattle.std.specs.Prelude.{ℕ, ◌+◌, ◌≤◌}
use Rattle.std.proofs.Common.{add_assoc}
use native.Mathlib.Omega.{arith}
use lib.{ListN.length, ListN.take, ListN.drop, Seq.sets, Seq.take_all}
use Rattle.base.specs.Placed.{Placed}
use Rattle.base.proofs.Placing.{placed-append}
use Rattle.numbers.specs.{Bench.fourteen, Slots.words_at}
use Rattle.numbers.proofs.PartRows.{row_from, row-drop}

pub words_from : (n : List ℕ) (i : ℕ) → i + 11 ≤ length n → take 11 (drop i n) ≡ words_at n i
words_from n i h = simp add_assoc at (sym (row-drop 11 i n h))

pub words_whole : (n : List ℕ) → length n ≡ 11 → words_at n 0 ≡ n
words_whole n h = sym (words_from n 0 (omega arith)) ∙ take_all 11 n (omega arith)

board_numbers : (r : List ℕ) → length r ≡ 15 → take 4 r ++ take 10 (drop 5 r) ≡ fourteen r
board_numbers r h =
    rw (sym (row-drop 10 5 r (omega arith))) (ap (λ (l : List ℕ). l ++ row_from 10 5 r) (sym (row-drop 4 0 r (omega arith))))

-- the numbers of a board, written in two runs
pub two_runs : {n n' n'' : List ℕ} {at end last : ℕ} (r : List ℕ) → length r ≡ 15 → Placed n at (take 4 r) end n'
    → Placed n' end (take 10 (drop 5 r)) last n'' → n'' ≡ sets n at (fourteen r)
two_runs {n} {at = at} r h p q = (placed-append p q).bytes ∙ ap (sets n at) (board_numbers r h)
