-- Tables of texts: a row for each number, from 0 on.
use Rattle.std.specs.Prelude.{List, [], ◌∷◌, ◌++◌, map, get_or}
use Prim.Native.{Nat.ℕ, String.String}
use denote.Ref.{Bor}
use Rattle.text.specs.{Ascii.ascii}

-- the text of row n; empty where there are fewer rows
unfoldable pub row_text : List String → ℕ → List ℕ
row_text rows n = get_or (map ascii rows) n []

-- the same of a table of the code
abbrev pub row_of : List (Bor (List ℕ)) → ℕ → List ℕ
row_of rows n = get_or (map (λ row. row.now) rows) n []

-- the rows as lines, each closed by a newline, which is byte 10
abbrev pub lines_of : List String → List ℕ
lines_of [] = []
lines_of (row ∷ rows) = ascii row ++ (10 ∷ lines_of rows)
