-- A line is a word and the rest, which is empty or begins with the space before the next word.
use Rattle.std.specs.Prelude.{List, ℕ, length, drop}
use Rattle.text.specs.Words.{up_to}

-- the rest of a line after its first word, which is `up_to 32`
abbrev pub rest_of : List ℕ → List ℕ
rest_of line = drop (length (up_to 32 line)) line

-- the next word of a rest, and the rest after that word; both are empty at the end
abbrev pub word_after : List ℕ → List ℕ
word_after rest = up_to 32 (drop 1 rest)

abbrev pub rest_after : List ℕ → List ℕ
rest_after rest = rest_of (drop 1 rest)
