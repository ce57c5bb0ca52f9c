-- The rules of refusals 1 to 9 and 11 to 14, one test for each (docs/FORMAT.md, Refusals). Absent parts pass.
use Rattle.std.specs.Prelude.{Option, Some, None, Bool, false, ◌||◌, not, ℕ, ◌+◌, ltb, leb, eqb}
use Rattle.config.specs.declared.{RoscConfig.RoscConfig, DriveStrength.DriveStrength, PeriClkSrc.PeriClkSrc}
use Rattle.config.specs.declared.{AuxClkConfig.AuxClkConfig, RtcClkConfig.RtcClkConfig}
use Rattle.base.specs.{Choice.in_range, Widths.u16, Widths.u24, Widths.u32}
use Rattle.pll.specs.{Setting.valid_of, declared.PllConfig.PllConfig}
use Rattle.settings.specs.declared.Crystal.{Crystal}

abbrev pub strength_over : DriveStrength → Bool
strength_over g =
    ltb 7 g.s0 || ltb 7 g.s1 || ltb 7 g.s2 || ltb 7 g.s3
    || ltb 7 g.s4 || ltb 7 g.s5 || ltb 7 g.s6 || ltb 7 g.s7

-- Refusal 1: a drive strength is over 7.
unfoldable pub strengths_over : Option RoscConfig → Bool
strengths_over (Some r) = strength_over r.drive_strength
strengths_over None = false

-- Refusal 2: divider plus pass value is over 16 bits; this is a divider over 62815 on the RP2040, over 22015 on the RP235x.
unfoldable pub ring_divider_over : ℕ → Option RoscConfig → Bool
ring_divider_over pass (Some r) = ltb u16 (r.div + pass)
ring_divider_over pass None = false

-- Refusal 3: the settling cycles are over 32 bits. Without a settling step the voltage stays or the cycles are 0.
unfoldable pub settling_over : Option ℕ → Bool
settling_over (Some n) = ltb u32 n
settling_over None = false

-- Refusal 4: the startup delay is over 16383. A startup sum over 32 bits gives such a delay too.
unfoldable pub startup_over : Option Crystal → Bool
startup_over (Some x) = ltb 16383 x.delay
startup_over None = false

-- A PLL that is present is invalid where a divider, its reference or its VCO is out of range (docs/PLL.md, Valid PLLs).
abbrev pub pll_invalid : ℕ → Option PllConfig → Bool
pll_invalid hz (Some p) = not (valid_of p hz)
pll_invalid hz None = false

-- Refusal 5: the system PLL is invalid.
unfoldable pub sys_pll_invalid : Option Crystal → Bool
sys_pll_invalid (Some x) = pll_invalid x.hz x.sys
sys_pll_invalid None = false

-- Refusal 6: the USB PLL is invalid.
unfoldable pub usb_pll_invalid : Option Crystal → Bool
usb_pll_invalid (Some x) = pll_invalid x.hz x.usb
usb_pll_invalid None = false

-- Refusal 7: the divider is not 1 to 4.
unfoldable pub divider_bad : ℕ → Bool
divider_bad div = not (in_range 1 4 div)

-- Refusal 8: the reference clock has 0 Hz, or 512 MHz or more.
unfoldable pub reference_bad : ℕ → Bool
reference_bad hz = eqb hz 0 || leb 512000000 hz

-- Refusal 9: the whole part is 0 or over the chip's greatest, 16777215 (24 bits) on the RP2040 and 65535 (16) on the RP235x.
unfoldable pub whole_bad : ℕ → ℕ → Bool
whole_bad top whole = not (in_range 1 top whole)

-- Refusal 11: the source of the peripheral clock has 0 Hz.
unfoldable pub peri_bad : ℕ → Option PeriClkSrc → Bool
peri_bad hz (Some src) = eqb hz 0
peri_bad hz None = false

-- Refusals 12 and 13: the source has 0 Hz, the divider is not 1 to 4, or the phase is over 3.
unfoldable pub aux_bad : ℕ → Option AuxClkConfig → Bool
aux_bad source (Some a) = eqb source 0 || divider_bad a.div || ltb 3 a.phase
aux_bad source None = false

-- Refusal 14: the source has 0 Hz, the whole part is not 1 to 16777215 (24 bits), the phase is over 3, or the RTC has over 65535 Hz.
unfoldable pub rtc_bad : ℕ → ℕ → Option RtcClkConfig → Bool
rtc_bad source hz (Some r) =
    eqb source 0 || whole_bad u24 r.div_int || ltb 3 r.phase || ltb 65535 hz
rtc_bad source hz None = false
