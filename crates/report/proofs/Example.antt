-- The example of docs/PROGRAMS.md, Program clocks: the report of `125000000`.
use mathlib.Core.{List.List, List.[], List.◌∷◌, List.◌++◌, Path.◌≡◌}
use Prim.Native.{Nat.ℕ, String.String}
use lib.Count.{ones, ones-ones}
use Rattle.text.specs.{Ascii.ascii, Decimal.decimal_of, Decimal.value_of, Decimal.is_number, Decimal.number_of}
use Rattle.divider.specs.Clock.{divided_hz}
use Rattle.config.specs.Presets.{system_plan}
use Rattle.settings.specs.Frequencies.{pll_hz, sources_of, ref_hz, sys_hz, ten_of}
use Rattle.sheet.specs.Steps.{release_mask}
use Rattle.sheet.proofs.Examples.{crystal-steps}
use Rattle.report.specs.{Lines.line_of, Report.plan_report, Report.report_of}

-- the texts, each followed by a newline
abbrev pub texts : List String → List ℕ
texts [] = []
texts (t ∷ ts) = ascii t ++ (10 ∷ texts ts)

all-released : ones 33554431 ≡ 25
all-released = ones-ones 25

pub example : report_of (texts ("125000000" ∷ []))
    ≡ texts
    ("rosc 6500000"
    ∷ "xosc 12000000"
    ∷ "pll_sys 125000000"
    ∷ "pll_usb 48000000"
    ∷ "ref 12000000"
    ∷ "sys 125000000"
    ∷ "peri 125000000"
    ∷ "usb 48000000"
    ∷ "adc 48000000"
    ∷ "rtc 46875"
    ∷ "released 25"
    ∷ [])
unfolding line_of decimal_of report_of number_of is_number value_of system_plan plan_report
    divided_hz pll_hz sources_of ref_hz sys_hz ten_of release_mask
example = rw (crystal-steps.accepted, all-released)
