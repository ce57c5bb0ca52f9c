-- The text interface: the answer to a line (docs/PROGRAMS.md, Program dizbaral).
use Rattle.std.specs.Prelude.{Option, Some, None, List, [], ◌∷◌, ℕ, ◌-◌, find, eqb, length, take}
use Rattle.base.specs.{Answer.Answer, Choice.pick}
use Rattle.text.specs.{Ascii.ascii, Ascii.same, Words.up_to}
use Rattle.config.specs.declared.ClockConfig.{ClockConfig}
use Rattle.numbers.specs.Fields.{nth, byte_at}
use Rattle.cases.specs.{declared.words.Words.Words, Line.rest_of, Line.rest_after, Words.unread, Words.given}
use Rattle.wording.specs.{declared.commands.Command.Command, declared.commands.texts.Usage.Usage, Texts.help_text, Texts.usage_text}
use Rattle.wording.specs.{Words.explain_text, StepLines.steps_text, Orders.order_of, Verdict.check_text, Case.case_of}

abbrev pub command_name : Command → List ℕ
command_name Command.Help = ascii "help"
command_name Command.Explain = ascii "explain"
command_name Command.Steps = ascii "steps"
command_name Command.Check = ascii "check"

-- the command with a name
abbrev pub command_named : List ℕ → Option Command
command_named word =
    find (λ c. same word (command_name c)) (Command.Help ∷ Command.Explain ∷ Command.Steps ∷ Command.Check ∷ [])

-- `explain` takes READING SHEET
abbrev pub explained : List ℕ → List ℕ → List ℕ
explained n bytes = explain_text (byte_at n 0) (take (nth n 1) bytes)

abbrev pub explain_read : Option Words → List ℕ
explain_read (Some s) = explained s.row s.sheet
explain_read None = usage_text Usage.Explain

unfoldable pub explain_of : List ℕ → List ℕ
explain_of rest = explain_read (given rest (ascii "bx") unread)

-- `steps` takes SHEET
abbrev pub listed : List ℕ → List ℕ → List ℕ
listed n bytes = steps_text (take (nth n 0) bytes)

abbrev pub steps_read : Option Words → List ℕ
steps_read (Some s) = listed s.row s.sheet
steps_read None = usage_text Usage.Steps

unfoldable pub steps_of : List ℕ → List ℕ
steps_of rest = steps_read (given rest (ascii "x") unread)

-- `check` takes READING SHEET ORDER
abbrev pub checked : ℕ → List ℕ → Option (Answer ClockConfig) → List ℕ
checked reading sheet (Some order) = check_text reading sheet order
checked reading sheet None = usage_text Usage.Check

unfoldable pub compared_of : List ℕ → List ℕ → List ℕ → List ℕ
compared_of n bytes order = checked (byte_at n 0) (take (nth n 1) bytes) (order_of order (byte_at n 0))

abbrev pub check_read : List ℕ → Option Words → List ℕ
check_read order (Some s) = compared_of s.row s.sheet order
check_read order None = usage_text Usage.Check

-- the order follows the second word after the command
unfoldable pub check_of : List ℕ → List ℕ
check_of rest =
    let order = rest_after (rest_after rest) in
    check_read order (given (take (length rest - length order) rest) (ascii "bx") unread)

abbrev pub by_command : Option Command → List ℕ → List ℕ
by_command (Some Command.Help) line = help_text
by_command (Some Command.Explain) line = explain_of (rest_of line)
by_command (Some Command.Steps) line = steps_of (rest_of line)
by_command (Some Command.Check) line = check_of (rest_of line)
by_command None line = case_of line

-- the first word picks the command, and the empty word asks for help; a line whose first word is no command is a case
unfoldable pub answer_of : List ℕ → List ℕ
answer_of line = pick (eqb (length (up_to 32 line)) 0) help_text (by_command (command_named (up_to 32 line)) line)
