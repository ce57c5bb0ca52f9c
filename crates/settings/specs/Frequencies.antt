-- The frequency of each clock in Hz, 0 where it is absent (docs/FORMAT.md, Frequencies and delays).
-- These are the ten values that a sheet stores.
use Rattle.std.specs.Prelude.{Option, Some, None, ℕ, ◌/◌, List, [], ◌∷◌, ◌++◌}
use Rattle.config.specs.declared.{RoscConfig.RoscConfig, RefClkSrc.RefClkSrc, SysClkSrc.SysClkSrc, PeriClkSrc.PeriClkSrc}
use Rattle.config.specs.declared.{RefClkConfig.RefClkConfig, ChipSettings.ChipSettings, AuxClkSrc.AuxClkSrc}
use Rattle.config.specs.declared.{AuxClkConfig.AuxClkConfig, RtcClkConfig.RtcClkConfig}
use Rattle.chip.specs.{declared.Chip.Chip, declared.Chip.TheVariants.Rp2040, declared.Chip.TheVariants.Rp235x, Chips.facts_of}
use Rattle.divider.specs.Clock.{divided_hz}
use Rattle.pll.specs.{Setting.valid_hz, declared.PllConfig.PllConfig}
use Rattle.settings.specs.declared.{Crystal.Crystal, Settings.Settings, Sources.Sources}
use Rattle.settings.specs.{declared.Frequencies.Frequencies, Settings.ring_hz}

-- An invalid PLL counts as 0 Hz; this value reaches no sheet, as the plan is refused with 5 or 6.
unfoldable pub pll_hz : ℕ → Option PllConfig → ℕ
pll_hz hz (Some p) = valid_hz p hz
pll_hz hz None = 0

-- The oscillators and the PLLs, which the crystal feeds: without a crystal all three have 0 Hz.
unfoldable pub sources_of : Option RoscConfig → Option Crystal → Sources
sources_of r (Some x) =
    record {
      rosc = ring_hz r;
      xosc = x.hz;
      pll_sys = pll_hz x.hz x.sys;
      pll_usb = pll_hz x.hz x.usb;
    }
sources_of r None = record { rosc = ring_hz r; xosc = 0; pll_sys = 0; pll_usb = 0 }

abbrev pub ref_source : Sources → RefClkSrc → ℕ
ref_source f RefClkSrc.Xosc = f.xosc
ref_source f RefClkSrc.Rosc = f.rosc
ref_source f RefClkSrc.PllUsb = f.pll_usb

-- Source over divider.
unfoldable pub ref_hz : Sources → RefClkConfig → ℕ
ref_hz f c = ref_source f c.src / c.div

-- The source of the system clock is the reference clock or one of the four aux sources.
abbrev pub sys_source : Sources → ℕ → SysClkSrc → ℕ
sys_source f reference SysClkSrc.Ref = reference
sys_source f reference SysClkSrc.PllSys = f.pll_sys
sys_source f reference SysClkSrc.PllUsb = f.pll_usb
sys_source f reference SysClkSrc.Rosc = f.rosc
sys_source f reference SysClkSrc.Xosc = f.xosc

-- Source × scale / (whole × scale + fraction), with scale 256 on the RP2040 and 65536 on the RP235x.
unfoldable pub sys_hz : ChipSettings → Sources → ℕ → SysClkSrc → ℕ
sys_hz c f reference src = divided_hz (facts_of c.model).scale (sys_source f reference src) c.whole c.fraction

abbrev pub peri_source : Sources → ℕ → PeriClkSrc → ℕ
peri_source f system PeriClkSrc.Sys = system
peri_source f system PeriClkSrc.PllSys = f.pll_sys
peri_source f system PeriClkSrc.PllUsb = f.pll_usb
peri_source f system PeriClkSrc.Rosc = f.rosc
peri_source f system PeriClkSrc.Xosc = f.xosc

-- The peripheral clock has the frequency of its source; it has no divider.
abbrev pub peri_hz : Sources → ℕ → Option PeriClkSrc → ℕ
peri_hz f system (Some src) = peri_source f system src
peri_hz f system None = 0

-- The frequency of a source of USB, ADC or RTC.
abbrev pub aux_source : Sources → AuxClkSrc → ℕ
aux_source f AuxClkSrc.PllUsb = f.pll_usb
aux_source f AuxClkSrc.PllSys = f.pll_sys
aux_source f AuxClkSrc.Rosc = f.rosc
aux_source f AuxClkSrc.Xosc = f.xosc

-- The source of a clock that may be absent; 0 Hz where it is.
abbrev pub aux_source_in : Sources → Option AuxClkConfig → ℕ
aux_source_in f (Some a) = aux_source f a.src
aux_source_in f None = 0

abbrev pub rtc_source_in : Sources → Option RtcClkConfig → ℕ
rtc_source_in f (Some r) = aux_source f r.src
rtc_source_in f None = 0

-- USB and ADC: source over divider.
abbrev pub aux_hz : Sources → Option AuxClkConfig → ℕ
aux_hz f (Some a) = aux_source f a.src / a.div
aux_hz f None = 0

-- RTC: source × 256 / (whole × 256 + fraction).
abbrev pub rtc_hz : Sources → Option RtcClkConfig → ℕ
rtc_hz f (Some r) = divided_hz 256 (aux_source f r.src) r.div_int r.div_frac
rtc_hz f None = 0

-- The same frequencies for the settings of a plan.

abbrev pub sources_in : Settings → Sources
sources_in s = sources_of s.rosc s.xosc

abbrev pub ref_in : Settings → ℕ
ref_in s = ref_hz (sources_in s) s.reference

abbrev pub sys_in : Settings → ℕ
sys_in s = sys_hz s.chip (sources_in s) (ref_in s) s.sys

abbrev pub frequencies_of : Settings → Frequencies
frequencies_of s =
    record {
      sources = sources_in s;
      reference = ref_in s;
      sys = sys_in s;
      peri = peri_hz (sources_in s) (sys_in s) s.peri;
      usb = aux_hz (sources_in s) s.usb;
      adc = aux_hz (sources_in s) s.adc;
      rtc = rtc_hz (sources_in s) s.chip.rtc;
      usb_source = aux_source_in (sources_in s) s.usb;
      adc_source = aux_source_in (sources_in s) s.adc;
      rtc_source = rtc_source_in (sources_in s) s.chip.rtc;
    }

-- The nine frequencies that a sheet of either chip stores, in the order of the clock numbers.
abbrev pub nine_of : Frequencies → List ℕ
nine_of f =
    f.sources.rosc
    ∷ f.sources.xosc
    ∷ f.sources.pll_sys
    ∷ f.sources.pll_usb
    ∷ f.reference
    ∷ f.sys
    ∷ f.peri
    ∷ f.usb
    ∷ f.adc
    ∷ []

-- The RTC's frequency, which only a sheet of the RP2040 stores.
abbrev pub tenth_of : Chip → ℕ → List ℕ
tenth_of Rp2040 hz = hz ∷ []
tenth_of Rp235x hz = []

-- All values that a sheet stores, in the order of its stores.
unfoldable pub stored_of : Settings → List ℕ
stored_of s = nine_of (frequencies_of s) ++ tenth_of s.chip.model (frequencies_of s).rtc

-- The ten frequencies that a fresh runner holds after the sheet; the RTC of an RP235x has 0 Hz.
unfoldable pub ten_of : Settings → List ℕ
ten_of s = nine_of (frequencies_of s) ++ ((frequencies_of s).rtc ∷ [])
