-- The whole output of the program `clocks` for its input (docs/PROGRAMS.md, Program clocks).
use Rattle.std.specs.Prelude.{Option, Some, None, List, [], ◌∷◌, ◌++◌, ℕ}
use lib.Count.{ones}
use Rattle.base.specs.{declared.refusal.Refusal.Refusal, Answer.Answer, Answer.value, Answer.refusal, Refusals.number_of}
use Rattle.text.specs.{Words.line_number_of, Reply.refused_line}
use Rattle.chip.specs.declared.Chip.TheVariants.{Rp2040}
use Rattle.config.specs.{declared.ClockConfig.ClockConfig, Presets.system_plan}
use Rattle.settings.specs.{declared.Settings.Settings, Settings.settings_of, Frequencies.ten_of}
use Rattle.sheet.specs.{Steps.release_mask, Writer.refusal_in}
use Rattle.report.specs.Lines.{lines_of, report_names}

-- the voltage reading that the program uses
abbrev pub reading : ℕ
reading = 11

-- the stored values of the sheet, then the count of ones in the last release mask
abbrev pub printed_numbers : Settings → List ℕ
printed_numbers s = ten_of s ++ (ones (release_mask s.chip.model s.peri s.usb s.adc s.chip.rtc) ∷ [])

-- the line of a refusal, or these lines where there is none
abbrev pub unless_refused : Option Refusal → List ℕ → List ℕ
unless_refused (Some reason) lines = refused_line (number_of reason)
unless_refused None lines = lines

-- the report of a plan: its eleven lines, or the line of its refusal at the reading
unfoldable pub plan_report : ClockConfig → List ℕ
plan_report p =
    unless_refused (refusal_in p reading) (lines_of report_names (printed_numbers (settings_of p reading)))

abbrev pub planned_report : Answer ClockConfig → List ℕ
planned_report (value p) = plan_report p
planned_report (refusal n) = refused_line n

abbrev pub target_report : Answer ℕ → List ℕ
target_report (value hz) = planned_report (system_plan Rp2040 hz)
target_report (refusal n) = refused_line n

-- the number on the first line is the target of the RP2040 `system_freq` plan
unfoldable pub report_of : List ℕ → List ℕ
report_of input = target_report (line_number_of input)
