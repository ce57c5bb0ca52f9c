-- The bounds that the number types of the code give to settings: 32 bits for a frequency, the chip's scale for a fraction.
use Rattle.std.specs.Prelude.{Option, Some, None, ◌<◌, ◌^◌}
use Rattle.config.specs.{declared.RtcClkConfig.RtcClkConfig, ChipSettings.FractionFits}
use Rattle.settings.specs.{declared.Settings.Settings, Frequencies.sources_in}

-- The fraction of the RTC divider has 8 bits.
abbrev pub RtcTyped : Option RtcClkConfig → Type 0
RtcTyped (Some r) = r.div_frac < 2 ^ 8
RtcTyped None = Unit {0}

-- The ring's and the crystal's frequencies are u32; the fractions fit their dividers.
pub record Typed (s : Settings) : Type 0 where
  pub rosc : (sources_in s).rosc < 2 ^ 32
  pub xosc : (sources_in s).xosc < 2 ^ 32
  pub fraction : FractionFits s.chip
  pub rtc : RtcTyped s.chip.rtc
