-- The codes of ranges and clock sources in steps, and their decoding (docs/FORMAT.md, Codes).
use Rattle.std.specs.Prelude.{Option, ℕ, ◌-◌, eqb}
use Rattle.base.specs.{Choice.pick, Answer.Answer, Answer.value, Answer.refusal}
use Rattle.chip.specs.declared.{Chip.Chip, Chip.TheVariants.Rp2040, Chip.TheVariants.Rp235x}
use Rattle.chip.specs.declared.voltage.{CoreVoltage.CoreVoltage, CoreVoltage235.CoreVoltage235}
use Rattle.chip.specs.Voltage.{core_voltage_of}
use Rattle.config.specs.declared.{RoscRange.RoscRange, RefClkSrc.RefClkSrc, SysClkSrc.SysClkSrc, PeriClkSrc.PeriClkSrc}
use Rattle.config.specs.declared.{AuxClkSrc.AuxClkSrc, RtcClkConfig.RtcClkConfig, ChipConfig.ChipConfig}

-- Kind 12: the range of the ring oscillator.
abbrev pub range_code : RoscRange → ℕ
range_code RoscRange.Low = 0
range_code RoscRange.Medium = 1
range_code RoscRange.High = 2
range_code RoscRange.TooHigh = 3

-- Kinds 7, 8 and 25: 0 is the ring, 1 aux, which is the USB PLL, 2 the crystal.
abbrev pub ref_code : RefClkSrc → ℕ
ref_code RefClkSrc.Rosc = 0
ref_code RefClkSrc.PllUsb = 1
ref_code RefClkSrc.Xosc = 2

-- A number for each source, from which the two codes follow: 0 is the reference clock, then the four aux sources.
abbrev pub sys_code : SysClkSrc → ℕ
sys_code SysClkSrc.Ref = 0
sys_code SysClkSrc.PllSys = 1
sys_code SysClkSrc.PllUsb = 2
sys_code SysClkSrc.Rosc = 3
sys_code SysClkSrc.Xosc = 4

-- Kinds 5, 6 and 28: 0 is the reference clock, 1 aux.
abbrev pub sys_select : SysClkSrc → ℕ
sys_select src = pick (eqb (sys_code src) 0) 0 1

-- Kind 28: 0 is PLL sys, 1 PLL USB, 2 the ring, 3 the crystal; 0 too where aux is not selected.
abbrev pub sys_aux : SysClkSrc → ℕ
sys_aux src = sys_code src - 1

-- Kind 30: 0 is the system clock, then the same four sources follow from 1.
abbrev pub peri_aux : PeriClkSrc → ℕ
peri_aux PeriClkSrc.Sys = 0
peri_aux PeriClkSrc.PllSys = 1
peri_aux PeriClkSrc.PllUsb = 2
peri_aux PeriClkSrc.Rosc = 3
peri_aux PeriClkSrc.Xosc = 4

-- Kinds 32, 34 and 36: 0 is PLL USB, 1 PLL sys, 2 the ring, 3 the crystal.
abbrev pub aux_code : AuxClkSrc → ℕ
aux_code AuxClkSrc.PllUsb = 0
aux_code AuxClkSrc.PllSys = 1
aux_code AuxClkSrc.Rosc = 2
aux_code AuxClkSrc.Xosc = 3

-- Decoding is total: an unknown code gives one of the variants.

-- The choice for 0, 1 and 2, and the last one from 3 on.
abbrev pub choose4 : {A : Type 0} → ℕ → A → A → A → A → A
choose4 n a b c d = pick (eqb n 0) a (pick (eqb n 1) b (pick (eqb n 2) c d))

abbrev pub range_from : ℕ → RoscRange
range_from n = choose4 n RoscRange.Low RoscRange.Medium RoscRange.High RoscRange.TooHigh

abbrev pub ref_from : ℕ → RefClkSrc
ref_from n = choose4 n RefClkSrc.Rosc RefClkSrc.PllUsb RefClkSrc.Xosc RefClkSrc.Xosc

-- The aux code of the system clock.
abbrev pub sys_from : ℕ → SysClkSrc
sys_from n = choose4 n SysClkSrc.PllSys SysClkSrc.PllUsb SysClkSrc.Rosc SysClkSrc.Xosc

-- The inverse of `sys_code`.
abbrev pub sys_source_from : ℕ → SysClkSrc
sys_source_from n = pick (eqb n 0) SysClkSrc.Ref (sys_from (n - 1))

abbrev pub peri_from : ℕ → PeriClkSrc
peri_from n =
    pick (eqb n 4) PeriClkSrc.Xosc (choose4 n PeriClkSrc.Sys PeriClkSrc.PllSys PeriClkSrc.PllUsb PeriClkSrc.Rosc)

abbrev pub aux_from : ℕ → AuxClkSrc
aux_from n = choose4 n AuxClkSrc.PllUsb AuxClkSrc.PllSys AuxClkSrc.Rosc AuxClkSrc.Xosc

-- A divider field of two bits holds 4 as 0.
abbrev pub div_from : ℕ → ℕ
div_from n = pick (eqb n 0) 4 n

-- The value of an answer, or `other` for a refusal.
abbrev pub value_or : {A : Type 0} → A → Answer A → A
value_or other (value v) = v
value_or other (refusal n) = other

-- The chip-specific part of a plan from voltage code, system divider and RTC; an unknown voltage code gives 1.10 V.
abbrev pub chip_from : Chip → ℕ → ℕ → ℕ → Option RtcClkConfig → ChipConfig
chip_from Rp2040 code whole fraction clock =
    ChipConfig.Rp2040
    (record {
      core_voltage = value_or CoreVoltage.V1_10 (core_voltage_of Rp2040 code);
      div_int = whole;
      div_frac = fraction;
      rtc_clk = clock;
    })
chip_from Rp235x code whole fraction clock =
    ChipConfig.Rp235x
    (record {
      core_voltage = value_or CoreVoltage235.V1_10 (core_voltage_of Rp235x code);
      div_int = whole;
      div_frac = fraction;
    })
