-- The texts that answers consist of: `bad case`, a refusal, and numbers with spaces.
use Rattle.std.specs.Prelude.{List, [], ◌∷◌, ◌++◌, ℕ}
use Rattle.base.specs.Answer.{Answer, value, refusal}
use Rattle.text.specs.{Decimal.decimal_of, Ascii.ascii}

-- the answer to a line that is no case
abbrev pub bad_case : List ℕ
bad_case = ascii "bad case"

-- a refusal with its number
abbrev pub refused_text : ℕ → List ℕ
refused_text n = ascii "refused " ++ decimal_of n

-- a refusal and a newline
abbrev pub refused_line : ℕ → List ℕ
refused_line n = refused_text n ++ (10 ∷ [])

-- the text of a value, or of its refusal
abbrev pub answer_text : {A : Type 0} → (A → List ℕ) → Answer A → List ℕ
answer_text text (value a) = text a
answer_text text (refusal n) = refused_text n

-- numbers in decimal, each after a space; `number` gives the number of an element
abbrev pub spaced_by : {A : Type 0} → (A → ℕ) → List A → List ℕ
spaced_by number [] = []
spaced_by number (n ∷ ns) = 32 ∷ (decimal_of (number n) ++ spaced_by number ns)

abbrev pub spaced : List ℕ → List ℕ
spaced = spaced_by (λ n. n)

-- numbers in decimal, with one space between
abbrev pub row_text : ℕ → List ℕ → List ℕ
row_text first more = decimal_of first ++ spaced more
