-- `make` writes the sheet of an order at a reading; its words are READING ORDER.
use Rattle.std.specs.Prelude.{Option, Some, None, Result, ◌≡◌, List, ℕ, ltb}
use Rattle.base.specs.{declared.refusal.Refusal.Refusal, Answer.Answer, Answer.value, Answer.refusal, Answer.answer_in, Choice.pick}
use Rattle.text.specs.{Words.up_to, Decimal.number_of}
use Rattle.cases.specs.Line.{rest_of}
use Rattle.config.specs.declared.ClockConfig.{ClockConfig}
use Rattle.settings.specs.{Settings.settings_of, Typed.Typed}
use Rattle.sheet.specs.Writer.{init_answer, init_buffer}
use Rattle.wording.specs.Orders.{order_of}

-- the answer of `init` for the plan that is ordered, or the order's refusal; none where there is no order
abbrev pub made_answer : Option (Answer ClockConfig) → ℕ → List ℕ → Option (Answer ℕ)
made_answer (Some (value plan)) reading buffer = Some (init_answer plan reading buffer)
made_answer (Some (refusal n)) reading buffer = Some (refusal n)
made_answer None reading buffer = None

-- the buffer after it; a refusal changes nothing
abbrev pub made_buffer : Option (Answer ClockConfig) → ℕ → List ℕ → List ℕ
made_buffer (Some (value plan)) reading buffer = init_buffer plan reading buffer
made_buffer (Some (refusal n)) reading buffer = buffer
made_buffer None reading buffer = buffer

-- the settings of an ordered plan are within their types
abbrev pub TypedOrder : Option (Answer ClockConfig) → ℕ → Type 0
TypedOrder (Some (value plan)) reading = Typed (settings_of plan reading)
TypedOrder (Some (refusal n)) reading = Unit {0}
TypedOrder None reading = Unit {0}

-- what a call promises: its answer, and the whole buffer after it
pub record MadeCall (order : Option (Answer ClockConfig)) (reading : ℕ) (before : List ℕ) (r : Option (Result ℕ Refusal))
    (after : List ℕ) : Type 0
  where
    pub answer : answer_in r ≡ made_answer order reading before
    pub bytes : after ≡ made_buffer order reading before
    pub typed : TypedOrder order reading

-- the order at a reading of up to 255; none for any other reading
abbrev pub order_in : Answer ℕ → List ℕ → Option (Answer ClockConfig)
order_in (value n) rest = pick (ltb 255 n) None (order_of rest n)
order_in (refusal m) rest = None

abbrev pub reading_in : Answer ℕ → ℕ
reading_in (value n) = n
reading_in (refusal m) = 0

-- the line's first word is the reading, and the order follows it
unfoldable pub order_made : List ℕ → Option (Answer ClockConfig)
order_made line = order_in (number_of (up_to 32 line)) (rest_of line)

unfoldable pub reading_made : List ℕ → ℕ
reading_made line = reading_in (number_of (up_to 32 line))

abbrev pub MakeCall : List ℕ → List ℕ → Option (Result ℕ Refusal) → List ℕ → Type 0
MakeCall line = MadeCall (order_made line) (reading_made line)
