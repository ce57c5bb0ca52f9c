-- The refusals of settings at a reading: a test for each, in the order of docs/FORMAT.md, Refusals.
use Rattle.std.specs.Prelude.{◌≡◌, List, [], ◌∷◌, Bool, Option, Some, None, Result, Ok, Err, ℕ, ltb, eqb}
use Rattle.base.specs.{declared.refusal.Refusal.Refusal, Choice.pick}
use Rattle.chip.specs.Chips.{facts_of}
use Rattle.config.specs.declared.ClockConfig.{ClockConfig}
use Rattle.settings.specs.{declared.Settings.Settings, declared.Frequencies.Frequencies, Settings.settings_of}
use Rattle.settings.specs.Frequencies.{frequencies_of}
use Rattle.refusals.specs.Rules.{strengths_over, ring_divider_over, settling_over, startup_over, sys_pll_invalid, usb_pll_invalid}
use Rattle.refusals.specs.Rules.{divider_bad, reference_bad, whole_bad, peri_bad, aux_bad, rtc_bad}
use Rattle.base.specs.declared.refusal.Refusal.TheVariants as why

-- VoltageReading, 18, is for a reading over the chip's greatest, 15 or 31; then 1 to 14 follow in rising order.
abbrev pub tests_of : Settings → Frequencies → ℕ → List (Refusal × Bool)
tests_of s f reading =
    (why.VoltageReading, ltb (facts_of s.chip.model).top_reading reading)
    ∷ (why.DriveStrength, strengths_over s.rosc)
    ∷ (why.RingDivider, ring_divider_over (facts_of s.chip.model).pass s.rosc)
    ∷ (why.SettlingTime, settling_over s.settling)
    ∷ (why.StartupDelay, startup_over s.xosc)
    ∷ (why.SysPll, sys_pll_invalid s.xosc)
    ∷ (why.UsbPll, usb_pll_invalid s.xosc)
    ∷ (why.RefDivider, divider_bad s.reference.div)
    ∷ (why.RefClock, reference_bad f.reference)
    ∷ (why.SysDivider, whole_bad (facts_of s.chip.model).top_whole s.chip.whole)
    ∷ (why.SysClock, eqb f.sys 0)
    ∷ (why.PeriClock, peri_bad f.peri s.peri)
    ∷ (why.UsbClock, aux_bad f.usb_source s.usb)
    ∷ (why.AdcClock, aux_bad f.adc_source s.adc)
    ∷ (why.RtcClock, rtc_bad f.rtc_source f.rtc s.chip.rtc)
    ∷ []

-- The refusal of the first test that holds.
abbrev pub first : List (Refusal × Bool) → Option Refusal
first [] = None
first ((reason, test) ∷ rest) = pick test (Some reason) (first rest)

-- The refusal of settings at a reading, none where they are accepted.
unfoldable pub refusal_of : Settings → ℕ → Option Refusal
refusal_of s reading = first (tests_of s (frequencies_of s) reading)

-- A plan is accepted at a reading where it is refused neither with 18 nor with any of 1 to 14.
abbrev pub Accepted : ClockConfig → ℕ → Type 0
Accepted p reading = refusal_of (settings_of p reading) reading ≡ None

-- The refusal, or x where there is none.
abbrev pub unless_refused : {A : Type 0} → Option Refusal → A → Result A Refusal
unless_refused (Some reason) x = Err reason
unless_refused None x = Ok x

-- What `examine` answers: the frequencies of accepted settings, else the refusal.
abbrev pub examined_of : Settings → ℕ → Result Frequencies Refusal
examined_of s reading = unless_refused (refusal_of s reading) (frequencies_of s)
