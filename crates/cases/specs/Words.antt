-- The words of a case: its name is followed by one word for each letter of its row, with one space between (docs/CASES.md,
-- Words).
use Rattle.std.specs.Prelude.{Option, Some, None, option_and_then, List, [], ◌∷◌, ℕ, suc, ◌+◌, ◌*◌, ◌-◌, max, ◌++◌, eqb, leb, ltb}
use Rattle.std.specs.Prelude.{length, set, take, drop, replicate}
use lib.Seq.{sets}
use Rattle.base.specs.{Answer.Answer, Answer.value, Answer.refusal, Choice.pick, Widths.u8, Widths.u16, Widths.u32}
use Rattle.text.specs.{Decimal.is_digit, Decimal.number_of, Hex.is_readable, Hex.pair_values}
use Rattle.step.specs.Sheet.{max_bytes}
use Rattle.numbers.specs.Fields.{nth, room}
use Rattle.cases.specs.{declared.words.Words.Words, Line.word_after, Line.rest_after}

-- the words read so far: a number for each word, in a row of 128, and the bytes of each word of hex in its buffer
abbrev pub state_of : ℕ → List ℕ → List ℕ → List ℕ → Words
state_of count row kept sheet = record { count = count; row = row; kept = kept; sheet = sheet }

-- letters as a row has them: a count before a letter repeats it
abbrev pub spelled : ℕ → List ℕ → List ℕ
spelled count [] = []
spelled count (c ∷ cs) =
    pick (is_digit c) [] (replicate (max count 1) c) ++ spelled (pick (is_digit c) (count * 10 + (c - 48)) 0) cs

-- the greatest number of a letter: f is a flag, b has 8 bits, h 16 bits, r is a buffer's length, any other has 32 bits
abbrev pub limit_of : ℕ → ℕ
limit_of l = pick (eqb l 102) 1 (pick (eqb l 98) u8 (pick (eqb l 104) u16 (pick (eqb l 114) room u32)))

-- the number of the next word goes to the row
abbrev pub with_number : Words → ℕ → Words
with_number s n = record s { count = suc s.count; row = set s.row s.count n }

-- a number up to its limit goes to the next index of the row
abbrev pub number_step : ℕ → Answer ℕ → Words → Option Words
number_step top (value n) s = pick (leb n top) (Some (with_number s n)) None
number_step top (refusal m) s = None

-- a word of hex: its bytes go to the start of a buffer, and their count goes to the row
abbrev pub hex_step : List ℕ → List ℕ → (List ℕ → Words) → Option Words
hex_step w buffer with =
    pick (is_readable w (length buffer)) (Some (with_number (with (sets buffer 0 (pair_values w))) (length (pair_values w)))) None

-- x is the sheet, k the kept bytes
unfoldable pub step : ℕ → List ℕ → Words → Option Words
step l w s =
    pick (eqb l 120) (hex_step w s.sheet (λ bytes. record s { sheet = bytes }))
    (pick (eqb l 107) (hex_step w s.kept (λ bytes. record s { kept = bytes })) (number_step (limit_of l) (number_of w) s))

-- reads one word for each letter from the rest of a line; none where a word is not what its letter asks for or the line has more
-- words; from a letter o on words may be absent
unfoldable pub given : List ℕ → List ℕ → Words → Option Words
given rest [] s = pick (eqb (length rest) 0) (Some s) None
given rest (l ∷ ls) s =
    pick (eqb (length rest) 0) (pick (eqb l 111) (Some s) None)
    (pick (ltb s.count 128) (option_and_then (given (rest_after rest) ls) (step l (word_after rest) s)) None)

-- the most bytes that a sheet has that is read: more than any plan's sheet
abbrev pub most_read : ℕ
most_read = 2048

-- the state before any word is read
abbrev pub unread : Words
unread = state_of 0 (replicate 128 0) (replicate max_bytes 0) (replicate most_read 0)

-- the numbers that were read after the first i; none where fewer were read, or the row has fewer than were counted
abbrev pub numbers_past : Words → ℕ → Option (List ℕ)
numbers_past s i =
    pick (ltb s.count i) None (pick (ltb (length s.row) s.count) None (Some (take (s.count - i) (drop i s.row))))

-- the bytes of the word of hex x whose count is number i of the row
abbrev pub sheet_at : Words → ℕ → List ℕ
sheet_at s i = take (nth s.row i) s.sheet
