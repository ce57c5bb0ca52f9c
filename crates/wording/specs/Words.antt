-- A sheet in words: a line for each setting of the plan that it is read back to, what the last release leaves out, and the
-- plan's numbers.
use Rattle.std.specs.Prelude.{List, [], ◌∷◌, ◌++◌, ℕ, zero, suc, get_or, is_none}
use Rattle.base.specs.Answer.{Answer, value, refusal}
use Rattle.text.specs.{Ascii.ascii, Decimal.decimal_of, Reply.spaced}
use Rattle.chip.specs.Chips.{facts_of}
use Rattle.config.specs.declared.ClockConfig.{ClockConfig}
use Rattle.settings.specs.declared.{Settings.Settings, Frequencies.Frequencies}
use Rattle.settings.specs.{Settings.settings_of, Frequencies.frequencies_of}
use Rattle.numbers.specs.Row.{sys_pll_in, usb_pll_in, plan_row}
use Rattle.readback.specs.Read.{read_of}
use Rattle.wording.specs.Refusals.{refusal_text}
use Rattle.wording.specs.Lines.{chip_line, ring_line, crystal_line, pll_line, voltage_line, settling_line, ref_line, sys_line, peri_line}
use Rattle.wording.specs.Lines.{aux_line, rtc_line, is_rp2040, left_out_line}

-- the settings in the order of docs/FORMAT.md, Settings that count
abbrev pub lines_of : ClockConfig → Settings → Frequencies → List (List ℕ)
lines_of p s f =
    chip_line s.chip.model
    ∷ ring_line s.rosc
    ∷ crystal_line s.xosc
    ∷ pll_line (ascii "pll_sys") f.sources.pll_sys (sys_pll_in p.xosc)
    ∷ pll_line (ascii "pll_usb") f.sources.pll_usb (usb_pll_in p.xosc)
    ∷ voltage_line s.chip.model s.chip.volts.code
    ∷ settling_line s.settling
    ∷ ref_line f.reference s.reference
    ∷ sys_line f.sys s.sys s.chip.whole s.chip.fraction (facts_of s.chip.model).scale
    ∷ peri_line f.peri s.peri
    ∷ aux_line (ascii "usb") f.usb s.usb
    ∷ aux_line (ascii "adc") f.adc s.adc
    ∷ rtc_line f.rtc s.chip.rtc
    ∷ []

-- the line of setting k; none from 13 on
unfoldable pub line_of : ℕ → ClockConfig → Settings → Frequencies → List ℕ
line_of k p s f = get_or (lines_of p s f) k []

unfoldable pub setting_line : ℕ → ClockConfig → ℕ → List ℕ
setting_line k p reading = line_of k p (settings_of p reading) (frequencies_of (settings_of p reading))

-- the lines of the first k settings
unfoldable pub setting_lines : ClockConfig → ℕ → ℕ → List ℕ
setting_lines p reading zero = []
setting_lines p reading (suc k) = setting_lines p reading k ++ setting_line k p reading

-- the blocks that the last release leaves out
unfoldable pub left_out_text : Settings → List ℕ
left_out_text s =
    left_out_line (is_rp2040 s.chip.model) (is_none s.peri) (is_none s.usb) (is_none s.adc) (is_none s.chip.rtc)

-- the plan's numbers as cases have them (docs/CASES.md)
unfoldable pub plan_line : ClockConfig → List ℕ
plan_line p = ascii "plan" ++ (spaced (plan_row p) ++ ascii "\n")

unfoldable pub words_of : ClockConfig → ℕ → List ℕ
words_of p reading = setting_lines p reading 13 ++ (left_out_text (settings_of p reading) ++ plan_line p)

-- a refusal's number on one line, and on the next its meaning after the name of what is refused
unfoldable pub refused_lines : List ℕ → ℕ → List ℕ
refused_lines what n = ascii "refused " ++ (decimal_of n ++ (ascii "\n" ++ (what ++ (refusal_text n ++ ascii "\n"))))

abbrev pub answer_text : ℕ → Answer ClockConfig → List ℕ
answer_text reading (value p) = words_of p reading
answer_text reading (refusal n) = refused_lines [] n

-- the answer for a sheet at a regulator reading
unfoldable pub explain_text : ℕ → List ℕ → List ℕ
explain_text reading sheet = answer_text reading (read_of sheet reading)
