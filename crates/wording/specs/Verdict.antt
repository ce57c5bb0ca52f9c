-- The verdict on a sheet: whether it is the ordered plan's, and if not, in which settings the two plans differ.
use Rattle.std.specs.Prelude.{Option, Some, None, Result, Ok, Err, List, ℕ, eqb}
use Rattle.base.specs.declared.refusal.Refusal.{Refusal}
use Rattle.base.specs.{Answer.Answer, Answer.value, Answer.refusal, Choice.pick, Refusals.number_of}
use Rattle.text.specs.Ascii.{ascii}
use Rattle.config.specs.declared.ClockConfig.{ClockConfig}
use Rattle.settings.specs.Settings.{settings_of}
use Rattle.sheet.specs.Writer.{refusal_in}
use Rattle.readback.specs.Read.{read_of}
use Rattle.wording.specs.{Differences.differences_of, Words.refused_lines, Differs.differs_text}

-- the sheet is refused, the order is refused, the two agree, or they differ, with a bit for each setting that differs
pub data Verdict : Type 0 where
  sheet_refused : ℕ → Verdict
  order_refused : ℕ → Verdict
  as_ordered : Verdict
  differs : ℕ → ClockConfig → ClockConfig → Verdict

abbrev pub by_bits : ℕ → ClockConfig → ClockConfig → Verdict
by_bits mask p q = pick (eqb mask 0) as_ordered (differs mask p q)

-- the order is refused, or this verdict
abbrev pub unless_refused : Option Refusal → Verdict → Verdict
unless_refused (Some reason) verdict = order_refused (number_of reason)
unless_refused None verdict = verdict

-- the sheet's plan p compared with the ordered plan q, where `init` does not refuse q
unfoldable pub compared : ℕ → ClockConfig → ClockConfig → Verdict
compared reading p q =
    unless_refused (refusal_in q reading) (by_bits (differences_of (settings_of p reading) (settings_of q reading)) p q)

abbrev pub ordered : ℕ → ClockConfig → Answer ClockConfig → Verdict
ordered reading p (value q) = compared reading p q
ordered reading p (refusal n) = order_refused n

abbrev pub delivered : ℕ → Answer ClockConfig → Answer ClockConfig → Verdict
delivered reading (value p) order = ordered reading p order
delivered reading (refusal n) order = sheet_refused n

-- the answer that an order means whose refusal is given by its number, any number
abbrev pub answer_by_number : Result ClockConfig ℕ → Answer ClockConfig
answer_by_number (Ok plan) = value plan
answer_by_number (Err n) = refusal n

-- a refusal of the sheet takes precedence over one of the order
unfoldable pub verdict_of : ℕ → List ℕ → Answer ClockConfig → Verdict
verdict_of reading sheet order = delivered reading (read_of sheet reading) order

abbrev pub verdict_text : ℕ → Verdict → List ℕ
verdict_text reading (sheet_refused n) = refused_lines (ascii "sheet: ") n
verdict_text reading (order_refused n) = refused_lines (ascii "order: ") n
verdict_text reading as_ordered = ascii "as ordered\n"
verdict_text reading (differs mask p q) = differs_text mask reading p q

unfoldable pub check_text : ℕ → List ℕ → Answer ClockConfig → List ℕ
check_text reading sheet order = verdict_text reading (verdict_of reading sheet order)
