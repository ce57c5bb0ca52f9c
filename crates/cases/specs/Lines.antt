-- A text that arrives in pieces of any size is answered line by line, in the order of the lines (docs/PROGRAMS.md, Programs
-- answers and limits).
use Rattle.std.specs.Prelude.{◌≡◌, List, [], ◌∷◌, ◌++◌, Option, Some, None, IfSome, ℕ, ◌+◌, ◌≤◌, ◌<◌, eqb, ltb, length, take, set}
use Rattle.std.specs.Prelude.{replicate}
use lib.Seq.{sets}
use Rattle.base.specs.{Choice.pick, Placed.past}
use Rattle.text.specs.Reply.{bad_case}
use Rattle.cases.specs.{Cases.answer_to, declared.lines.Held.Held}

-- what is held of a line: its bytes at the start of a buffer of 4096, and their count; 4097 marks a line that is too long
abbrev pub held_of : List ℕ → ℕ → Held
held_of bytes len = record { bytes = bytes; len = len }

-- no line has begun
abbrev pub no_line : Held
no_line = held_of (replicate 4096 0) 0

-- the answer to the held line and a newline; a line that is too long is no case
unfoldable pub held_text : Held → List ℕ
held_text s = pick (ltb 4096 s.len) bad_case (answer_to (take s.len s.bytes)) ++ (10 ∷ [])

-- a byte is added to the line; a newline closes the line and the next one begins
abbrev pub pushed : Held → ℕ → Held
pushed s b = pick (ltb s.len 4096) (held_of (set s.bytes s.len b) (s.len + 1)) (held_of s.bytes 4097)

unfoldable pub fed : Held → ℕ → Held
fed s b = pick (eqb b 10) (held_of s.bytes 0) (pushed s b)

unfoldable pub feeds : Held → List ℕ → Held
feeds s [] = s
feeds s (b ∷ bs) = feeds (fed s b) bs

-- the buffer of answers: a newline writes the answer to the held line at its start, any other byte changes nothing
unfoldable pub fed_out : Held → List ℕ → ℕ → List ℕ
fed_out s out b = pick (eqb b 10) (sets out 0 (held_text s)) out

unfoldable pub feeds_out : Held → List ℕ → List ℕ → List ℕ
feeds_out s out [] = out
feeds_out s out (b ∷ bs) = feeds_out (fed s b) (fed_out s out b) bs

-- the call that takes a byte and answers, for a newline, the index after the answer; that is the end of its newline, or the end of
-- a buffer of fewer than 3478 bytes
pub record Feeding (s : Held) (b : ℕ) (out : List ℕ) (r : Option ℕ) (s' : Held) (out' : List ℕ) : Type 0 where
  pub held : s' ≡ fed s b
  pub answer : r ≡ pick (eqb b 10) (Some (past out 0 (held_text s))) None
  pub inside : IfSome r (λ n. n ≤ length out)
  pub whole : 3478 ≤ length out → r ≡ pick (eqb b 10) (Some (length (held_text s))) None
  pub buffer : out' ≡ fed_out s out b

-- a line of up to 4096 bytes without a newline is answered as those bytes, whatever the buffer held before; a longer line is no
-- case
abbrev pub NoNewline : List ℕ → Type 0
NoNewline [] = Unit {0}
NoNewline (b ∷ bs) = (b ≡ 10 → ⊥) × NoNewline bs

abbrev pub FedLine : Type 0
FedLine =
    (line before : List ℕ) → NoNewline line → length before ≡ 4096 → length line ≤ 4096
    → held_text (feeds (held_of before 0) line) ≡ answer_to line ++ (10 ∷ [])

abbrev pub FedTooMuch : Type 0
FedTooMuch =
    (line before : List ℕ) → NoNewline line → 4096 < length line
    → held_text (feeds (held_of before 0) line) ≡ bad_case ++ (10 ∷ [])
