-- Each code of a range or a source decodes to the range or the source that it was made of, and is at most the last one's.
use Rattle.std.specs.Prelude.{Option, Some, None, ◌≡◌, refl, ℕ, ◌+◌, ◌%◌, ◌≤◌, ◌<◌, eqb}
use native.Mathlib.{Nat.mod-eq_of_lt, Omega.arith}
use borrow.Author.Tests.{eqb-true, eqb-false}
use Rattle.base.proofs.Bools.{either_way}
use Rattle.chip.specs.{declared.Chip.TheVariants.Rp2040, declared.Chip.TheVariants.Rp235x, Chips.facts_of}
use Rattle.chip.proofs.Codes.{core-voltage-code, code-small, bod-small}
use Rattle.config.specs.ChipSettings.{chip_of, config_of, FractionFits}
use Rattle.config.specs.Codes.{range_code, ref_code, sys_code, peri_aux, aux_code, chip_from, range_from, ref_from, sys_source_from}
use Rattle.config.specs.Codes.{peri_from, aux_from, div_from}
use Rattle.config.specs.declared.{RoscRange.RoscRange, RefClkSrc.RefClkSrc, SysClkSrc.SysClkSrc, PeriClkSrc.PeriClkSrc}
use Rattle.config.specs.declared.{AuxClkSrc.AuxClkSrc, AuxClkConfig.AuxClkConfig, ChipConfig.ChipConfig}

pub range-code : (x : RoscRange) → (range_from (range_code x) ≡ x) × (range_code x ≤ 3)
range-code RoscRange.Low = (refl, omega arith)
range-code RoscRange.Medium = (refl, omega arith)
range-code RoscRange.High = (refl, omega arith)
range-code RoscRange.TooHigh = (refl, omega arith)

pub ref-code : (x : RefClkSrc) → (ref_from (ref_code x) ≡ x) × (ref_code x ≤ 2)
ref-code RefClkSrc.Rosc = (refl, omega arith)
ref-code RefClkSrc.PllUsb = (refl, omega arith)
ref-code RefClkSrc.Xosc = (refl, omega arith)

pub sys-code : (x : SysClkSrc) → (sys_source_from (sys_code x) ≡ x) × (sys_code x ≤ 4)
sys-code SysClkSrc.Ref = (refl, omega arith)
sys-code SysClkSrc.PllSys = (refl, omega arith)
sys-code SysClkSrc.PllUsb = (refl, omega arith)
sys-code SysClkSrc.Rosc = (refl, omega arith)
sys-code SysClkSrc.Xosc = (refl, omega arith)

pub peri-code : (x : PeriClkSrc) → (peri_from (peri_aux x) ≡ x) × (peri_aux x ≤ 4)
peri-code PeriClkSrc.Sys = (refl, omega arith)
peri-code PeriClkSrc.PllSys = (refl, omega arith)
peri-code PeriClkSrc.PllUsb = (refl, omega arith)
peri-code PeriClkSrc.Rosc = (refl, omega arith)
peri-code PeriClkSrc.Xosc = (refl, omega arith)

pub aux-code : (x : AuxClkSrc) → (aux_from (aux_code x) ≡ x) × (aux_code x ≤ 3)
aux-code AuxClkSrc.PllUsb = (refl, omega arith)
aux-code AuxClkSrc.PllSys = (refl, omega arith)
aux-code AuxClkSrc.Rosc = (refl, omega arith)
aux-code AuxClkSrc.Xosc = (refl, omega arith)

-- The chip-specific part of a plan is read back from the numbers of its settings: its voltage code is known.
pub chip-back : (c : ChipConfig)
    → chip_from (chip_of c).model (chip_of c).volts.code (chip_of c).whole (chip_of c).fraction (chip_of c).rtc ≡ c
chip-back (ChipConfig.Rp2040 c) = rw (core-voltage-code Rp2040 c.core_voltage)
chip-back (ChipConfig.Rp235x c) = rw (core-voltage-code Rp235x c.core_voltage)

-- So is that part itself, where the divider fits the chip's bits.
pub config-back : (c : ChipConfig) → (chip_of c).whole ≤ (facts_of (chip_of c).model).top_whole → FractionFits (chip_of c)
    → config_of (chip_of c) ≡ c
config-back c few fits =
    let inside : (chip_of c).whole < (facts_of (chip_of c).model).top_whole + 1 = omega arith in
    rw (mod-eq_of_lt inside, mod-eq_of_lt fits) (chip-back c)

-- The voltage's code is read back whatever the divider is.
pub code-back : (c : ChipConfig) → (chip_of (config_of (chip_of c))).volts.code ≡ (chip_of c).volts.code
code-back (ChipConfig.Rp2040 c) = rw (core-voltage-code Rp2040 c.core_voltage)
code-back (ChipConfig.Rp235x c) = rw (core-voltage-code Rp235x c.core_voltage)

pub volts-small : (c : ChipConfig) → ((chip_of c).volts.code < 16) × ((chip_of c).volts.brownout < 16)
volts-small (ChipConfig.Rp2040 c) = (code-small Rp2040 c.core_voltage, bod-small Rp2040 c.core_voltage)
volts-small (ChipConfig.Rp235x c) = (code-small Rp235x c.core_voltage, bod-small Rp235x c.core_voltage)

-- A divider from 1 to 4 is read back from its two bits.
abbrev pub Small : ℕ → Type 0
Small d = (1 ≤ d) × (d ≤ 4)

abbrev pub AuxSmall : Option AuxClkConfig → Type 0
AuxSmall (Some a) = Small a.div
AuxSmall None = Unit {0}

pub div-back : (d : ℕ) → Small d → div_from (d % 4) ≡ d
div-back d h =
    either_way (eqb (d % 4) 0)
    (λ e. rw e (omega (arith, eqb-true (d % 4) 0 e))) (λ e. rw e (omega (arith, eqb-false (d % 4) 0 e)))
