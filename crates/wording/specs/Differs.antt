-- The report of a difference: each setting in which the two plans differ, as delivered and as ordered, and each clock that runs
-- at another frequency.
use Rattle.std.specs.Prelude.{List, [], ◌∷◌, ◌++◌, ℕ, zero, suc, eqb, get_or}
use Rattle.base.specs.Choice.{pick}
use Rattle.text.specs.Ascii.{ascii}
use Rattle.config.specs.declared.ClockConfig.{ClockConfig}
use Rattle.settings.specs.{declared.Frequencies.Frequencies, Settings.settings_of, Frequencies.frequencies_of}
use Rattle.wording.specs.{Rows.row_text, Form.formed, Differences.part_names, Differences.has_bit, Words.setting_line}

-- the name of setting k and its two lines, where its bit is set
unfoldable pub part_text : ℕ → ℕ → ℕ → ClockConfig → ClockConfig → List ℕ
part_text mask k reading p q =
    pick (has_bit mask k)
    (row_text part_names k
    ++ (ascii "\n  delivered: " ++ (setting_line k p reading ++ (ascii "  ordered: " ++ setting_line k q reading))))
    []

-- the texts of the first k settings
unfoldable pub part_texts : ℕ → ℕ → ClockConfig → ClockConfig → ℕ → List ℕ
part_texts mask reading p q zero = []
part_texts mask reading p q (suc k) = part_texts mask reading p q k ++ part_text mask k reading p q

-- the ten frequencies in the order of their clocks (docs/FORMAT.md, Frequencies and delays)
abbrev pub hz_of : Frequencies → List ℕ
hz_of f =
    f.sources.rosc ∷ f.sources.xosc ∷ f.sources.pll_sys ∷ f.sources.pll_usb ∷ f.reference
    ∷ f.sys ∷ f.peri ∷ f.usb ∷ f.adc ∷ f.rtc ∷ []

unfoldable pub plan_hz : ClockConfig → ℕ → List ℕ
plan_hz p reading = hz_of (frequencies_of (settings_of p reading))

-- a clock's line, where its two frequencies differ
unfoldable pub clock_text : ℕ → ℕ → ℕ → List ℕ
clock_text clock was asked =
    pick (eqb was asked) [] (formed (ascii "clock @: delivered # Hz, ordered # Hz\n") (clock ∷ was ∷ asked ∷ []))

-- the lines of the first k clocks
unfoldable pub clock_texts : List ℕ → List ℕ → ℕ → List ℕ
clock_texts was asked zero = []
clock_texts was asked (suc k) = clock_texts was asked k ++ clock_text k (get_or was k 0) (get_or asked k 0)

unfoldable pub differs_text : ℕ → ℕ → ClockConfig → ClockConfig → List ℕ
differs_text mask reading p q =
    ascii "differs\n" ++ (part_texts mask reading p q 13 ++ clock_texts (plan_hz p reading) (plan_hz q reading) 10)
