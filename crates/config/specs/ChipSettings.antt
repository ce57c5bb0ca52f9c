-- The chip-specific part of a plan in common fields, and back.
use Rattle.std.specs.Prelude.{None, ◌+◌, ◌%◌, ◌<◌}
use Rattle.chip.specs.{declared.Chip.TheVariants.Rp2040, declared.Chip.TheVariants.Rp235x, Chips.facts_of, Voltage.volts_of}
use Rattle.config.specs.{declared.ChipConfig.ChipConfig, declared.ChipSettings.ChipSettings, Codes.chip_from}

-- The RP235x has no RTC.
abbrev pub chip_of : ChipConfig → ChipSettings
chip_of (ChipConfig.Rp2040 c) =
    record {
      model = Rp2040;
      volts = volts_of Rp2040 c.core_voltage;
      whole = c.div_int;
      fraction = c.div_frac;
      rtc = c.rtc_clk;
    }
chip_of (ChipConfig.Rp235x c) =
    record {
      model = Rp235x;
      volts = volts_of Rp235x c.core_voltage;
      whole = c.div_int;
      fraction = c.div_frac;
      rtc = None;
    }

-- The chip-specific part with these settings. The parts of the divider are truncated to the chip's bits, 24 and 8 or 16 and 16.
abbrev pub config_of : ChipSettings → ChipConfig
config_of c =
    chip_from c.model c.volts.code (c.whole % ((facts_of c.model).top_whole + 1)) (c.fraction % (facts_of c.model).scale) c.rtc

-- The fraction of the system divider is below the chip's scale.
abbrev pub FractionFits : ChipSettings → Type 0
FractionFits c = c.fraction < (facts_of c.model).scale
