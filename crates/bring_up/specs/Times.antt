-- The stored frequencies are true: after the steps of a sheet, from any register values, each clock of the plan runs
-- at the frequency that the sheet stores for it, and the control of an absent clock is unchanged.
use Rattle.std.specs.Prelude.{ℕ}
use Rattle.std.specs.Option.{is_some}
use mathlib.Core.{Bool.Bool, Bool.true, Bool.false, Path.◌≡◌}
use Rattle.chip.specs.declared.Chip.{Chip}
use Rattle.config.specs.declared.ClockConfig.{ClockConfig}
use Rattle.settings.specs.declared.{Settings.Settings, Frequencies.Frequencies, Sources.Sources}
use Rattle.settings.specs.{Settings.settings_of, Frequencies.frequencies_of, Typed.Typed}
use Rattle.refusals.specs.Refusals.{Accepted}
use Rattle.registers.specs.Map.{CLK_PERI_CTRL, CLK_USB_CTRL, CLK_ADC_CTRL, CLK_RTC_CTRL}
use Rattle.sheet.specs.Steps.{steps_of}
use Rattle.bring_up.specs.Machine.{carried_out}
use Rattle.bring_up.specs.Tree.{sources_at, ref_at, sys_at, peri_at, usb_at, adc_at, rtc_at, peri_divider}

-- a clock that the plan has runs at the stored frequency; the control register of an absent clock keeps its value
abbrev pub Runs : Bool → ℕ → ℕ → ℕ → (ℕ → ℕ) → (ℕ → ℕ) → Type 0
Runs true hz stored control before after = hz ≡ stored
Runs false hz stored control before after = after control ≡ before control

-- the frequencies that the registers give after the steps are those that the sheet stores, f. No step touches the
-- peripheral divider of the RP235x: that clock's frequency is true where the divider is 1, as after a reset, and a sheet leaves
-- the divider as it was, so as after any sheets from then on
pub record AllTrue (s : Settings) (f : Frequencies) (c : Chip) (now : Sources) (before after : ℕ → ℕ) : Type 0 where
  pub sources : now ≡ f.sources
  pub reference : ref_at c now after ≡ f.reference
  pub sys : sys_at c now after ≡ f.sys
  pub peri : peri_divider c before ≡ 1
      → Runs (is_some s.peri) (peri_at c now after) f.peri (CLK_PERI_CTRL c) before after
  pub peri_off : is_some s.peri ≡ false → after (CLK_PERI_CTRL c) ≡ before (CLK_PERI_CTRL c)
  pub peri_divider_kept : peri_divider c after ≡ peri_divider c before
  pub usb : Runs (is_some s.usb) (usb_at c now after) f.usb (CLK_USB_CTRL c) before after
  pub adc : Runs (is_some s.adc) (adc_at c now after) f.adc (CLK_ADC_CTRL c) before after
  pub rtc : Runs (is_some s.chip.rtc) (rtc_at now after) f.rtc CLK_RTC_CTRL before after

-- the same for settings at a reading; ring and crystal oscillate at the frequencies that the plan gives
abbrev pub TrueAfter : Settings → ℕ → (ℕ → ℕ) → Type 0
TrueAfter s reading before =
    let c = s.chip.model in
    let f = frequencies_of s in
    let after = carried_out c (steps_of reading s) before in
    AllTrue s f c (sources_at c f.sources.rosc f.sources.xosc after) before after

abbrev pub TimesAreTrue : Type 0
TimesAreTrue =
    (p : ClockConfig) (reading : ℕ) → Accepted p reading → Typed (settings_of p reading)
    → (before : ℕ → ℕ) → TrueAfter (settings_of p reading) reading before
