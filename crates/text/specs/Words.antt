-- Lines and words: a line ends at a newline or the end of the text, a word at a space or the end of the line.
use Rattle.std.specs.Prelude.{List, [], ◌∷◌, ℕ, eqb}
use Rattle.base.specs.{Answer.Answer, Choice.pick}
use Rattle.text.specs.Decimal.{number_of}

-- the bytes up to the first b, or all of them
abbrev pub up_to : ℕ → List ℕ → List ℕ
up_to b [] = []
up_to b (x ∷ xs) = pick (eqb x b) [] (x ∷ up_to b xs)

-- the number on the first line, as program `clocks` reads it (docs/PROGRAMS.md, Program clocks); bytes after the newline are
-- ignored
abbrev pub line_number_of : List ℕ → Answer ℕ
line_number_of s = number_of (up_to 10 s)
