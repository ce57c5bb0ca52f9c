-- Reads a plan from a row of numbers (docs/CASES.md, A plan in numbers): 48 for the RP2040 and 43, without the RTC's five, for
-- the RP235x. The parts are in order, and an optional part begins with a flag.
use Rattle.std.specs.Prelude.{Bool, true, ◌&&◌, List, [], ◌∷◌, ℕ, ◌+◌, Option, Some, None, eqb, leb, length, option_map}
use Rattle.base.specs.{Choice.pick, Widths.u8, Widths.u16, Widths.u32}
use Rattle.chip.specs.declared.Chip.TheVariants.{Rp2040, Rp235x}
use Rattle.chip.specs.declared.{Chip.Chip, voltage.CoreVoltage.CoreVoltage, voltage.CoreVoltage235.CoreVoltage235}
use Rattle.chip.specs.Voltage.{core_voltage_of}
use Rattle.pll.specs.declared.PllConfig.{PllConfig}
use Rattle.config.specs.declared.RoscConfig.{RoscConfig}
use Rattle.config.specs.declared.{XoscConfig.XoscConfig, AuxClkConfig.AuxClkConfig, RtcClkConfig.RtcClkConfig}
use Rattle.config.specs.declared.{DriveStrength.DriveStrength, ChipConfig.ChipConfig, ClockConfig.ClockConfig}
use Rattle.config.specs.Codes.{range_from, ref_from, sys_source_from, peri_from, aux_from}
use Rattle.numbers.specs.Fields.{nth, byte_at, half_at, pll_at}
use Rattle.numbers.specs.{Parts.fit_from, Parts.is_part, Answers.of_value}
use Rattle.config.specs.declared.ChipConfig.TheVariants.{Rp2040 as on2040, Rp235x as on235x}

-- the greatest values: 1 for a flag, the last code for a source or a range; a PLL needs a crystal
unfoldable pub whole_oscillators : List ℕ → Bool
whole_oscillators n =
    is_part n 0 (1 ∷ u32 ∷ 3 ∷ u8 ∷ u8 ∷ u8 ∷ u8 ∷ u8 ∷ u8 ∷ u8 ∷ u8 ∷ u16 ∷ [])  -- ring
    && (is_part n 12 (1 ∷ u32 ∷ u32 ∷ [])  -- crystal
    && (is_part n 15 (1 ∷ u8 ∷ u16 ∷ u8 ∷ u8 ∷ [])  -- system PLL
    && (is_part n 20 (1 ∷ u8 ∷ u16 ∷ u8 ∷ u8 ∷ [])  -- USB PLL
    && (leb (nth n 15) (nth n 12) && leb (nth n 20) (nth n 12)))))

unfoldable pub whole_clocks : List ℕ → Bool
whole_clocks n =
    fit_from true n 25 (15 ∷ [])  -- voltage code
    && (is_part n 26 (1 ∷ u32 ∷ [])  -- settling time
    && (fit_from true n 28 (2 ∷ u8 ∷ [])  -- reference
    && (fit_from true n 30 (4 ∷ [])  -- system source
    && (is_part n 33 (1 ∷ 4 ∷ [])  -- peripheral
    && (is_part n 35 (1 ∷ 3 ∷ u8 ∷ u8 ∷ [])  -- USB
    && is_part n 39 (1 ∷ 3 ∷ u8 ∷ u8 ∷ []))))))  -- ADC

-- the chip-specific numbers: whole part and fraction of the system divider, and the RTC
unfoldable pub whole_chip : Chip → List ℕ → Bool
whole_chip Rp2040 n =
    eqb (length n) 48 && (fit_from true n 31 (u32 ∷ u8 ∷ []) && is_part n 43 (1 ∷ 3 ∷ u32 ∷ u8 ∷ u8 ∷ []))
whole_chip Rp235x n = eqb (length n) 43 && fit_from true n 31 (u16 ∷ u16 ∷ [])

abbrev pub whole_plan : Chip → List ℕ → Bool
whole_plan chip n = whole_chip chip n && (whole_oscillators n && whole_clocks n)

-- an optional part, by the flag at index i
abbrev pub flagged : {A : Type 0} → List ℕ → ℕ → A → Option A
flagged n i part = pick (eqb (nth n i) 1) (Some part) None

unfoldable pub strengths_at : List ℕ → DriveStrength
strengths_at n =
    record {
      s0 = byte_at n 3;
      s1 = byte_at n 4;
      s2 = byte_at n 5;
      s3 = byte_at n 6;
      s4 = byte_at n 7;
      s5 = byte_at n 8;
      s6 = byte_at n 9;
      s7 = byte_at n 10;
    }

-- the ring: flag, Hz, range, eight strengths, divider
unfoldable pub ring_at : List ℕ → Option RoscConfig
ring_at n =
    flagged n 0
    (record { hz = nth n 1; range = range_from (nth n 2); drive_strength = strengths_at n; div = half_at n 11 })

-- a PLL from index i on: flag, four dividers
unfoldable pub option_pll_at : List ℕ → ℕ → Option PllConfig
option_pll_at n i = flagged n i (pll_at n (i + 1))

-- the crystal: flag, Hz, delay multiplier, then the PLLs
unfoldable pub crystal_at : List ℕ → Option XoscConfig
crystal_at n =
    flagged n 12
    (record {
      hz = nth n 13;
      sys_pll = option_pll_at n 15;
      usb_pll = option_pll_at n 20;
      delay_multiplier = nth n 14;
    })

-- the USB or ADC clock from index i on: flag, source, divider, phase
unfoldable pub divided_at : List ℕ → ℕ → Option AuxClkConfig
divided_at n i =
    flagged n i
    (record { src = aux_from (nth n (i + 1)); div = byte_at n (i + 2); phase = byte_at n (i + 3) })

-- the RTC clock: flag, source, whole part, fraction, phase
unfoldable pub rtc_at : List ℕ → Option RtcClkConfig
rtc_at n =
    flagged n 43
    (record { src = aux_from (nth n 44); div_int = nth n 45; div_frac = byte_at n 46; phase = byte_at n 47 })

-- the chip-specific part: voltage, system divider and RTC
abbrev pub part2040 : List ℕ → CoreVoltage → ChipConfig
part2040 n v = on2040 (record { core_voltage = v; div_int = nth n 31; div_frac = byte_at n 32; rtc_clk = rtc_at n })

abbrev pub part235x : List ℕ → CoreVoltage235 → ChipConfig
part235x n v = on235x (record { core_voltage = v; div_int = half_at n 31; div_frac = half_at n 32 })

-- none for a number that is no voltage code of the chip
unfoldable pub chip_at : Chip → List ℕ → Option ChipConfig
chip_at Rp2040 n = of_value (part2040 n) (core_voltage_of Rp2040 (byte_at n 25))
chip_at Rp235x n = of_value (part235x n) (core_voltage_of Rp235x (byte_at n 25))

unfoldable pub plan_at : ChipConfig → List ℕ → ClockConfig
plan_at c n =
    record {
      chip = c;
      rosc = ring_at n;
      xosc = crystal_at n;
      ref_clk = record { src = ref_from (nth n 28); div = byte_at n 29 };
      sys_clk_src = sys_source_from (nth n 30);
      peri_clk_src = flagged n 33 (peri_from (nth n 34));
      usb_clk = divided_at n 35;
      adc_clk = divided_at n 39;
      voltage_stabilization_delay_us = flagged n 26 (nth n 27);
    }

unfoldable pub plan_numbered : Chip → List ℕ → Option ClockConfig
plan_numbered chip n = pick (whole_plan chip n) (option_map (λ c. plan_at c n) (chip_at chip n)) None
