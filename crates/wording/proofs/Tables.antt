-- The rows of a table have a greatest length.
use Rattle.std.specs.Prelude.{◌≡◌, Bool, true, ◌&&◌, List, [], ◌∷◌, ℕ, zero, suc, ◌≤◌, leb, length}
use Prim.Native.String.{String}
use native.Mathlib.Omega.{arith}
use borrow.Author.Tests.{leb-true}
use Rattle.std.proofs.lemmas.Bool.{and_parts}
use Rattle.text.specs.Ascii.{ascii}
use Rattle.wording.specs.Rows.{row_text}

abbrev pub all_within : ℕ → List String → Bool
all_within most [] = true
all_within most (row ∷ rows) = leb (length (ascii row)) most && all_within most rows

pub row-most : (rows : List String) (most n : ℕ) → all_within most rows ≡ true → length (row_text rows n) ≤ most
unfolding row_text
row-most [] most zero t = omega arith
row-most [] most (suc n) t = omega arith
row-most (row ∷ rows) most zero t =
    leb-true (length (ascii row)) most (and_parts (leb (length (ascii row)) most) (all_within most rows) t).0
row-most (row ∷ rows) most (suc n) t =
    row-most rows most n (and_parts (leb (length (ascii row)) most) (all_within most rows) t).1
