-- A case of docs/CASES.md gives its answer and a newline; where the answer is a refusal, its meaning is on a line of its own.
use Rattle.std.specs.Prelude.{◌||◌, List, [], ◌++◌, ℕ, min, take, replicate}
use lib.Seq.{sets}
use Rattle.base.specs.{Answer.Answer, Answer.value, Answer.refusal, Choice.pick, Placed.past}
use Rattle.text.specs.{Ascii.ascii, Ascii.same, Words.up_to, Decimal.number_of}
use Rattle.cases.specs.{Line.rest_of, Line.word_after, Cases.is_case, Cases.answer_to}
use Rattle.wording.specs.{Refusals.refusal_text, Orders.is_order, Texts.usage_text, declared.commands.texts.Usage.Usage}

unfoldable pub unknown_text : List ℕ → List ℕ
unknown_text word = ascii "no such command: " ++ (word ++ ascii "\nsee dizbaral help\n")

-- `plan` is the name of an order that is no case
unfoldable pub no_case : List ℕ → List ℕ
no_case word = pick (is_case word || is_order word) (usage_text Usage.Case) (unknown_text word)

abbrev pub number_meaning : Answer ℕ → List ℕ
number_meaning (value n) = refusal_text (min n 255) ++ ascii "\n"
number_meaning (refusal m) = []

-- the meaning of `refused N`, whatever follows it; any other answer has none
unfoldable pub meaning_of : List ℕ → List ℕ
meaning_of said = pick (same (up_to 32 said) (ascii "refused")) (number_meaning (number_of (word_after (rest_of said)))) []

unfoldable pub said_text : List ℕ → List ℕ → List ℕ
said_text line said = pick (same said (ascii "bad case")) (no_case (up_to 32 line)) (said ++ (ascii "\n" ++ meaning_of said))

-- what a buffer of 4096 bytes holds of an answer: all of it, unless it is longer
unfoldable pub held : List ℕ → List ℕ
held said = take (past (replicate 4096 0) 0 said) (sets (replicate 4096 0) 0 said)

unfoldable pub case_of : List ℕ → List ℕ
case_of line = said_text line (held (answer_to line))
