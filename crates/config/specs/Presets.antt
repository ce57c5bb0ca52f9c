-- The presets, each with the values that the Rust has (docs/FORMAT.md, Presets).
use Rattle.std.specs.Prelude.{Option, Some, None, ℕ, eqb, ltb}
use Rattle.config.specs.declared.{RoscConfig.RoscConfig, RoscRange.RoscRange, XoscConfig.XoscConfig, RefClkSrc.RefClkSrc}
use Rattle.config.specs.declared.{SysClkSrc.SysClkSrc, PeriClkSrc.PeriClkSrc, AuxClkSrc.AuxClkSrc, RtcClkConfig.RtcClkConfig}
use Rattle.config.specs.declared.{ChipConfig.ChipConfig, ClockConfig.ClockConfig}
use Rattle.base.specs.{Choice.pick, Answer.Answer, Answer.value, Answer.refusal}
use Rattle.chip.specs.{declared.Chip.Chip, declared.Chip.TheVariants.Rp2040, declared.Chip.TheVariants.Rp235x, Chips.facts_of}
use Rattle.chip.specs.declared.voltage.{CoreVoltage.CoreVoltage, CoreVoltage235.CoreVoltage235}
use Rattle.pll.specs.{declared.PllConfig.PllConfig, Setting.valid_of, Search.setting, Search.search_of, Usb.usb_of}

-- A ring oscillator with all drive strengths 0.
abbrev pub ring_config : ℕ → RoscRange → ℕ → Option RoscConfig
ring_config hz range div =
    Some
    (record {
      hz = hz;
      range = range;
      drive_strength = record { s0 = 0; s1 = 0; s2 = 0; s3 = 0; s4 = 0; s5 = 0; s6 = 0; s7 = 0 };
      div = div;
    })

-- A crystal with these PLLs and the delay multiplier 128.
abbrev pub feeding_both : ℕ → PllConfig → PllConfig → Option XoscConfig
feeding_both hz sys usb =
    Some
    (record { hz = hz; sys_pll = Some sys; usb_pll = Some usb; delay_multiplier = 128 })

-- The USB PLL is the one that gives 48 MHz from 12 MHz.
abbrev pub feeding : ℕ → PllConfig → Option XoscConfig
feeding hz sys = feeding_both hz sys (setting 120 6 5)

-- The system clock is undivided. The voltage and the RTC are for the RP2040; the RP235x has 1.10 V and no RTC.
abbrev pub plain : Chip → CoreVoltage → Option RtcClkConfig → ChipConfig
plain Rp2040 voltage clock =
    ChipConfig.Rp2040 (record { core_voltage = voltage; div_int = 1; div_frac = 0; rtc_clk = clock })
plain Rp235x voltage clock = ChipConfig.Rp235x (record { core_voltage = CoreVoltage235.V1_10; div_int = 1; div_frac = 0 })

-- Every preset with a crystal has these clocks; the RTC has 48 MHz / 1024.
abbrev pub from_plls : Chip → CoreVoltage → Option RoscConfig → Option XoscConfig → ClockConfig
from_plls chip voltage rosc xosc =
    record {
      chip = plain chip voltage (Some (record { src = AuxClkSrc.PllUsb; div_int = 1024; div_frac = 0; phase = 0 }));
      rosc = rosc;
      xosc = xosc;
      ref_clk = record { src = RefClkSrc.Xosc; div = 1 };
      sys_clk_src = SysClkSrc.PllSys;
      peri_clk_src = Some PeriClkSrc.Sys;
      usb_clk = Some (record { src = AuxClkSrc.PllUsb; div = 1; phase = 0 });
      adc_clk = Some (record { src = AuxClkSrc.PllUsb; div = 1; phase = 0 });
      voltage_stabilization_delay_us = None;
    }

-- No ring and no crystal: every clock has 0 Hz.
abbrev pub default_plan : Chip → ClockConfig
default_plan chip =
    record {
      chip = plain chip CoreVoltage.V1_10 None;
      rosc = None;
      xosc = None;
      ref_clk = record { src = RefClkSrc.Rosc; div = 1 };
      sys_clk_src = SysClkSrc.Rosc;
      peri_clk_src = None;
      usb_clk = None;
      adc_clk = None;
      voltage_stabilization_delay_us = None;
    }

-- With a 12 MHz crystal the system clock has 125 MHz on the RP2040 and 150 MHz on the RP235x.
abbrev pub crystal_plan : Chip → ℕ → ClockConfig
crystal_plan chip hz =
    from_plls chip CoreVoltage.V1_10 (ring_config 6500000 RoscRange.Medium 16) (feeding hz (setting 125 (facts_of chip).preset_post 2))

-- Every clock runs from the ring at 140 MHz; there is no USB clock.
abbrev pub rosc_plan : Chip → ClockConfig
rosc_plan chip =
    record {
      chip =
          plain chip CoreVoltage.V1_10
          (Some (record { src = AuxClkSrc.Rosc; div_int = 2986; div_frac = 171; phase = 0 }));
      rosc = ring_config 140000000 RoscRange.High 1;
      xosc = None;
      ref_clk = record { src = RefClkSrc.Rosc; div = 1 };
      sys_clk_src = SysClkSrc.Rosc;
      peri_clk_src = Some PeriClkSrc.Rosc;
      usb_clk = None;
      adc_clk = Some (record { src = AuxClkSrc.Rosc; div = 3; phase = 0 });
      voltage_stabilization_delay_us = None;
    }

-- The RP2040 needs 1.15 V above 133 MHz.
abbrev pub system_voltage : ℕ → CoreVoltage
system_voltage hz = pick (ltb 133000000 hz) CoreVoltage.V1_15 CoreVoltage.V1_10

-- The crystal preset with this system PLL and the USB PLL that was found, or the refusal of the USB search.
abbrev pub with_usb : Chip → ℕ → ℕ → PllConfig → Answer PllConfig → Answer ClockConfig
with_usb chip from hz sys (value usb) =
    value (from_plls chip (system_voltage hz) (ring_config 6500000 RoscRange.Medium 16) (feeding_both from sys usb))
with_usb chip from hz sys (refusal n) = refusal n

-- The refusal of the system PLL search comes before that of the USB PLL.
abbrev pub with_found : Chip → ℕ → ℕ → Answer PllConfig → Answer PllConfig → Answer ClockConfig
with_found chip from hz (value sys) usb = with_usb chip from hz sys usb
with_found chip from hz (refusal n) usb = refusal n

-- From a crystal: the PLLs that the searches find, or 15, or 25.
unfoldable pub system_plan_from : Chip → ℕ → ℕ → Answer ClockConfig
system_plan_from chip from hz = with_found chip from hz (search_of from hz) (usb_of from)

-- From a 12 MHz crystal; the frequency of the crystal preset gives that preset.
unfoldable pub system_plan : Chip → ℕ → Answer ClockConfig
system_plan chip hz =
    pick (eqb hz (facts_of chip).preset_hz) (value (crystal_plan chip 12000000)) (system_plan_from chip 12000000 hz)

-- For the RP2040: no ring, and 5 for a PLL that is not valid.
unfoldable pub manual_plan : ℕ → PllConfig → CoreVoltage → Answer ClockConfig
manual_plan hz p voltage = pick (valid_of p hz) (value (from_plls Rp2040 voltage None (feeding hz p))) (refusal 5)
