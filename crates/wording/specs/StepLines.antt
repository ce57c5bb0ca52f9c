-- A sheet in words, a line for each step: position, bytes, kind and fields (specs/Steps), and what it does to which
-- register of the sheet's chip (specs/Does). Where the bytes stop being steps of that chip, a last line has what is left.
use Rattle.std.specs.Prelude.{Bool, true, false, List, [], ◌∷◌, ◌++◌, ℕ, zero, suc, ◌+◌, ◌*◌, ◌/◌, length, take, drop, Option, Some}
use Rattle.std.specs.Prelude.{None}
use Rattle.base.specs.{Answer.Answer, Answer.value, Answer.refusal, Choice.pick}
use Rattle.chip.specs.declared.Chip.{Chip}
use Rattle.text.specs.{Ascii.ascii, Decimal.decimal_of, Hex.hex_of}
use Rattle.step.specs.{declared.Step.Step, Access.read_at}
use Rattle.registers.specs.{declared.Access.Access, Access.access_of}
use Rattle.readback.specs.Law.{chip_in}
use Rattle.wording.specs.{Steps.step_text, Does.does_text, declared.steps.Known.Known}

-- a step with what it does; nothing where the chip has no step of its kind
abbrev pub on_chip : Step → Answer Access → Option Known
on_chip s (value a) = Some (record { step = s; access = a })
on_chip s (refusal n) = None

-- nothing, too, where there is no step
abbrev pub found_in : Chip → Answer Step → Option Known
found_in c (value s) = on_chip s (access_of c s)
found_in c (refusal n) = None

abbrev pub is_step : Option Known → Bool
is_step (Some k) = true
is_step None = false

abbrev pub meaning_text : Chip → Option Known → List ℕ
meaning_text c (Some k) = step_text k.step ++ ascii "; " ++ does_text c k.access
meaning_text c None = ascii "no step"

-- a line: its position, the bytes there and what they mean, closed by a newline, which is byte 10
unfoldable pub line_text : Chip → ℕ → List ℕ → Option Known → List ℕ
line_text c position bytes f =
    decimal_of position ++ ascii " " ++ hex_of bytes ++ ascii " " ++ meaning_text c f ++ (10 ∷ [])

-- what is found at a position, and its line
unfoldable pub found_at : Chip → List ℕ → ℕ → Option Known
found_at c sheet i = found_in c (read_at sheet (8 * i))

unfoldable pub line_at : Chip → List ℕ → ℕ → List ℕ
line_at c sheet i = line_text c i (take 8 (drop (8 * i) sheet)) (found_at c sheet i)

-- at most n lines from position i; a line that is no step is the last
abbrev pub lines_from : Chip → List ℕ → ℕ → ℕ → List ℕ
lines_from c sheet i zero = []
lines_from c sheet i (suc n) = line_at c sheet i ++ pick (is_step (found_at c sheet i)) (lines_from c sheet (suc i) n) []

-- a position for each 8 bytes; the last may have fewer
unfoldable pub lines_of : List ℕ → ℕ
lines_of sheet = (length sheet + 7) / 8

unfoldable pub steps_text : List ℕ → List ℕ
steps_text sheet = lines_from (chip_in sheet) sheet 0 (lines_of sheet)
