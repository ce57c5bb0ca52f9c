-- A plan whose numbers fit their types, as those of every plan that a program holds do.
use Rattle.std.specs.Prelude.{ℕ, ◌≤◌, Option, Some, None}
use Rattle.base.specs.Widths.{u8, u16, u32}
use Rattle.config.specs.declared.{RoscConfig.RoscConfig, XoscConfig.XoscConfig, AuxClkConfig.AuxClkConfig, RtcClkConfig.RtcClkConfig}
use Rattle.config.specs.declared.{ChipConfig.ChipConfig, ClockConfig.ClockConfig}
use Rattle.pll.specs.declared.PllConfig.{PllConfig}

-- what holds of a part that is there
abbrev pub IfThere : {A : Type 0} → (A → Type 0) → Option A → Type 0
IfThere Holds (Some part) = Holds part
IfThere Holds None = Unit {0}

abbrev pub PllTyped : Option PllConfig → Type 0
PllTyped = IfThere (λ p. (p.refdiv ≤ u8) × (p.fbdiv ≤ u16) × (p.post_div1 ≤ u8) × (p.post_div2 ≤ u8))

abbrev pub RingTyped : Option RoscConfig → Type 0
RingTyped =
    IfThere (λ r. let s = r.drive_strength in
    (r.hz ≤ u32) × (s.s0 ≤ u8) × (s.s1 ≤ u8) × (s.s2 ≤ u8) × (s.s3 ≤ u8)
    × (s.s4 ≤ u8) × (s.s5 ≤ u8) × (s.s6 ≤ u8) × (s.s7 ≤ u8) × (r.div ≤ u16))

abbrev pub CrystalTyped : Option XoscConfig → Type 0
CrystalTyped = IfThere (λ x. (x.hz ≤ u32) × (x.delay_multiplier ≤ u32) × PllTyped x.sys_pll × PllTyped x.usb_pll)

abbrev pub TimeTyped : Option ℕ → Type 0
TimeTyped = IfThere (λ time. time ≤ u32)

abbrev pub AuxTyped : Option AuxClkConfig → Type 0
AuxTyped = IfThere (λ a. (a.div ≤ u8) × (a.phase ≤ u8))

abbrev pub ClockTyped : Option RtcClkConfig → Type 0
ClockTyped = IfThere (λ r. (r.div_int ≤ u32) × (r.div_frac ≤ u8) × (r.phase ≤ u8))

abbrev pub ChipTyped : ChipConfig → Type 0
ChipTyped (ChipConfig.Rp2040 c) = (c.div_int ≤ u32) × (c.div_frac ≤ u8) × ClockTyped c.rtc_clk
ChipTyped (ChipConfig.Rp235x c) = (c.div_int ≤ u16) × (c.div_frac ≤ u16)

pub record PlanTyped (p : ClockConfig) : Type 0 where
  pub chip : ChipTyped p.chip
  pub rosc : RingTyped p.rosc
  pub xosc : CrystalTyped p.xosc
  pub reference : p.ref_clk.div ≤ u8
  pub usb : AuxTyped p.usb_clk
  pub adc : AuxTyped p.adc_clk
  pub settling : TimeTyped p.voltage_stabilization_delay_us
