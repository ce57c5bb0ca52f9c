-- The registers after each part, by its steps, for either chip and from any file.
use Rattle.std.specs.Prelude.{Option, Some, None, Bool, true, false, ◌≡◌, refl, ℕ, ◌+◌, ◌-◌, ◌%◌, eqb}
use mathlib.Core.Path.{ap, ◌∙◌}
use native.Mathlib.Omega.{arith}
use lib.Bits.{bit_and}
use Rattle.base.specs.Choice.{pick}
use Rattle.chip.specs.declared.Chip.{Chip, TheVariants.Rp2040, TheVariants.Rp235x}
use Rattle.config.specs.Codes.{range_code, ref_code, sys_select, sys_aux, peri_aux, aux_code}
use Rattle.config.specs.declared.{RoscRange.RoscRange, RefClkConfig.RefClkConfig, SysClkSrc.SysClkSrc, ChipSettings.ChipSettings}
use Rattle.config.specs.declared.{PeriClkSrc.PeriClkSrc, AuxClkConfig.AuxClkConfig, RtcClkConfig.RtcClkConfig}
use Rattle.config.specs.declared.RoscConfig.{RoscConfig}
use Rattle.pll.specs.declared.PllConfig.{PllConfig}
use Rattle.step.specs.declared.kind.Kind.{Kind}
use Rattle.settings.specs.{declared.Crystal.Crystal, Settings.ring_hz}
use Rattle.registers.specs.Access.{has, access_of}
use Rattle.registers.specs.Map.{on, field, RESET, CLK_REF_CTRL, CLK_REF_DIV, CLK_SYS_CTRL, CLK_SYS_DIV, CLK_PERI_CTRL, CLK_RTC_CTRL}
use Rattle.registers.specs.Map.{CLK_RTC_DIV, XOSC_CTRL, ROSC_CTRL, PLL_CS, PLL_PWR, PLL_FBDIV_INT, PLL_PRIM, BLOCKS, REF_SRC}
use Rattle.registers.specs.Map.{SYS_SRC, AUXSRC, ENABLE, PHASE, INT, FREQ_RANGE, OSCILLATOR_ON, REFDIV, FBDIV, POSTDIV1, POSTDIV2}
use Rattle.sheet.specs.Steps.{head_part, ring_part, crystal_part, ref_part, switch_steps, sys_part, peri_part, aux_part, rtc_part}
use Rattle.sheet.specs.Steps.{last_part}
use Rattle.bring_up.specs.{Machine.powers_down, Machine.carried_out, Tree.oscillates}
use Rattle.bring_up.proofs.Parts.{Aux, Usb, Adc, aux_control, aux_divider, aux_of, crystal_steps, system_steps}

-- the head leaves no block in reset, and both PLLs without power
pub head-sets : (c : Chip) (file : ℕ → ℕ) → let after = carried_out c (head_part c) file in
    (after (RESET c) ≡ 0) × (after (PLL_PWR c 0) ≡ 0x2D) × (after (PLL_PWR c 1) ≡ 0x2D)
unfolding access_of has head_part
head-sets Rp2040 file = (refl, refl, refl)
head-sets Rp235x file = (refl, refl, refl)

pub range-on : (x : RoscRange) → oscillates (FREQ_RANGE (range_code x) + OSCILLATOR_ON) ≡ true
range-on RoscRange.Low = refl
range-on RoscRange.Medium = refl
range-on RoscRange.High = refl
range-on RoscRange.TooHigh = refl

pub zero-hz : (on : Bool) → ◌≡◌ {A = ℕ} (pick on 0 0) 0
zero-hz true = refl
zero-hz false = refl

-- the ring oscillates
pub ring-sets : (c : Chip) (pass : ℕ) (r : Option RoscConfig) (file : ℕ → ℕ)
    → pick (oscillates (carried_out c (ring_part pass r) file (ROSC_CTRL c))) (ring_hz r) 0 ≡ ring_hz r
unfolding access_of has ring_part
ring-sets Rp2040 pass (Some r) file = ap (λ (on : Bool). pick on r.hz 0) (range-on r.range)
ring-sets Rp235x pass (Some r) file = ap (λ (on : Bool). pick on r.hz 0) (range-on r.range)
ring-sets c pass None file = zero-hz (oscillates (carried_out c (ring_part pass None) file (ROSC_CTRL c)))

-- the registers of a PLL hold its setting; an absent PLL has no power
abbrev pub PllSet : Chip → ℕ → Option PllConfig → (ℕ → ℕ) → Type 0
PllSet c w (Some p) file =
    (file (PLL_PWR c w) ≡ 4)
    × (file (PLL_CS c w) ≡ REFDIV p.refdiv)
    × (file (PLL_FBDIV_INT c w) ≡ FBDIV p.fbdiv)
    × (file (PLL_PRIM c w) ≡ POSTDIV1 p.post_div1 + POSTDIV2 p.post_div2)
PllSet c w None file = file (PLL_PWR c w) ≡ 0x2D

-- the same for another file that agrees on these registers
pub pll-moves : (c : Chip) (w : ℕ) (o : Option PllConfig) (f g : ℕ → ℕ) → f (PLL_PWR c w) ≡ g (PLL_PWR c w)
    → f (PLL_CS c w) ≡ g (PLL_CS c w) → f (PLL_FBDIV_INT c w) ≡ g (PLL_FBDIV_INT c w) → f (PLL_PRIM c w) ≡ g (PLL_PRIM c w)
    → PllSet c w o g → PllSet c w o f
pll-moves c w (Some p) f g e0 e1 e2 e3 h = (e0 ∙ h.0, e1 ∙ h.1, e2 ∙ h.2, e3 ∙ h.3)
pll-moves c w None f g e0 e1 e2 e3 h = e0 ∙ h

pub record Plls (c : Chip) (a b : Option PllConfig) (file : ℕ → ℕ) : Type 0 where
  pub on : oscillates (file (XOSC_CTRL c)) ≡ true
  pub sys : PllSet c 0 a file
  pub usb : PllSet c 1 b file

crystal-of : (c : Chip) (delay : ℕ) (a b : Option PllConfig) (file : ℕ → ℕ)
    → file (PLL_PWR c 0) ≡ 0x2D → file (PLL_PWR c 1) ≡ 0x2D → Plls c a b (carried_out c (crystal_steps delay a b) file)
unfolding access_of has
crystal-of Rp2040 delay (Some p) (Some q) file h k = record { on = refl; sys = (refl, refl, refl, refl); usb = (refl, refl, refl, refl) }
crystal-of Rp2040 delay (Some p) None file h k = record { on = refl; sys = (refl, refl, refl, refl); usb = k }
crystal-of Rp2040 delay None (Some q) file h k = record { on = refl; sys = h; usb = (refl, refl, refl, refl) }
crystal-of Rp2040 delay None None file h k = record { on = refl; sys = h; usb = k }
crystal-of Rp235x delay (Some p) (Some q) file h k = record { on = refl; sys = (refl, refl, refl, refl); usb = (refl, refl, refl, refl) }
crystal-of Rp235x delay (Some p) None file h k = record { on = refl; sys = (refl, refl, refl, refl); usb = k }
crystal-of Rp235x delay None (Some q) file h k = record { on = refl; sys = h; usb = (refl, refl, refl, refl) }
crystal-of Rp235x delay None None file h k = record { on = refl; sys = h; usb = k }

abbrev pub CrystalSet : Chip → Option Crystal → (ℕ → ℕ) → Type 0
CrystalSet c (Some x) file = Plls c x.sys x.usb file
CrystalSet c None file = (PllSet c 0 None file) × (PllSet c 1 None file)

pub crystal-sets : (c : Chip) (x : Option Crystal) (file : ℕ → ℕ)
    → file (PLL_PWR c 0) ≡ 0x2D → file (PLL_PWR c 1) ≡ 0x2D → CrystalSet c x (carried_out c (crystal_part x) file)
unfolding crystal_part
crystal-sets c (Some x) file h k = crystal-of c x.delay x.sys x.usb file h k
crystal-sets c None file h k = (h, k)

pub ref-sets : (c : Chip) (hz : ℕ) (r : RefClkConfig) (file : ℕ → ℕ) → let after = carried_out c (ref_part c hz r) file in
    (after (CLK_REF_CTRL c) ≡ REF_SRC (ref_code r.src)) × (after (CLK_REF_DIV c) ≡ INT c (r.div % 4))
unfolding access_of has
ref-sets Rp2040 hz r file = (refl, refl)
ref-sets Rp235x hz r file = (refl, refl)

-- a divider with a fraction, as the chip packs it
abbrev pub packed : Chip → ℕ → ℕ → ℕ
packed c whole fraction = on c (field 8 24 whole + field 0 8 fraction) (field 16 16 whole + field 0 16 fraction)

system-of : (c : Chip) (same : Bool) (hz aux select whole fraction : ℕ) (file : ℕ → ℕ)
    → let after = carried_out c (system_steps c same hz aux select whole fraction) file in
    (after (CLK_SYS_CTRL c) ≡ AUXSRC aux + SYS_SRC select) × (after (CLK_SYS_DIV c) ≡ packed c whole fraction)
unfolding access_of has
system-of Rp2040 true hz aux select whole fraction file = (refl, refl)
system-of Rp235x true hz aux select whole fraction file = (refl, refl)
system-of c same hz aux select whole fraction file = (refl, refl)

pub sys-sets : (b : ChipSettings) (hz : ℕ) (src : SysClkSrc) (file : ℕ → ℕ) → let after = carried_out b.model (sys_part b hz src) file in
    (after (CLK_SYS_CTRL b.model) ≡ AUXSRC (sys_aux src) + SYS_SRC (sys_select src))
    × (after (CLK_SYS_DIV b.model) ≡ packed b.model b.whole b.fraction)
unfolding sys_part switch_steps
sys-sets b hz src file =
    system-of b.model (eqb (sys_select src) 0) hz (sys_aux src) (sys_select src) b.whole b.fraction file

pub peri-sets : (c : Chip) (hz : ℕ) (src : PeriClkSrc) (file : ℕ → ℕ)
    → carried_out c (peri_part hz (Some src)) file (CLK_PERI_CTRL c) ≡ AUXSRC (peri_aux src) + ENABLE
unfolding access_of has peri_part
peri-sets Rp2040 hz src file = refl
peri-sets Rp235x hz src file = refl

-- the control of USB, ADC or RTC
abbrev pub control : ℕ → ℕ → ℕ
control phase aux = PHASE phase + AUXSRC aux + ENABLE

pub aux-sets : (c : Chip) (k : Aux) (hz : ℕ) (a : AuxClkConfig) (file : ℕ → ℕ)
    → let after = carried_out c (aux_of k hz (Some a)) file in
    (after (aux_control c k) ≡ control a.phase (aux_code a.src)) × (after (aux_divider c k) ≡ INT c (a.div % 4))
unfolding access_of has aux_part
aux-sets Rp2040 Usb hz a file = (refl, refl)
aux-sets Rp235x Usb hz a file = (refl, refl)
aux-sets c k hz a file = (refl, refl)

pub rtc-sets : (hz : ℕ) (r : RtcClkConfig) (file : ℕ → ℕ)
    → let after = carried_out Rp2040 (rtc_part Rp2040 hz (Some r)) file in
    (after CLK_RTC_CTRL ≡ control r.phase (aux_code r.src))
    × (after CLK_RTC_DIV ≡ packed Rp2040 r.div_int r.div_frac)
unfolding access_of has rtc_part
rtc-sets hz r file = (refl, refl)

-- the part of a clock that the plan lacks sets nothing
pub peri-absent : (c : Chip) (hz : ℕ) (file : ℕ → ℕ) (x : ℕ) → carried_out c (peri_part hz None) file x ≡ file x
unfolding access_of has peri_part
peri-absent Rp2040 hz file x = refl
peri-absent Rp235x hz file x = refl

pub part-absent : (c : Chip) (divider control : Kind) (clock hz : ℕ) (file : ℕ → ℕ) (x : ℕ)
    → carried_out c (aux_part divider control clock hz None) file x ≡ file x
unfolding access_of has aux_part
part-absent Rp2040 divider control clock hz file x = refl
part-absent Rp235x divider control clock hz file x = refl

pub aux-absent : (c : Chip) (k : Aux) (hz : ℕ) (file : ℕ → ℕ) (x : ℕ) → carried_out c (aux_of k hz None) file x ≡ file x
aux-absent c Usb hz = part-absent c _ _ _ hz
aux-absent c Adc hz = part-absent c _ _ _ hz

pub rtc-absent : (c : Chip) (hz : ℕ) (file : ℕ → ℕ) (x : ℕ) → carried_out c (rtc_part c hz None) file x ≡ file x
unfolding access_of has rtc_part
rtc-absent Rp2040 hz file x = refl
rtc-absent Rp235x hz file x = refl

-- a release where nothing is in reset changes nothing: it leaves RESET 0, and a PLL out of reset keeps its power
released : (mask v : ℕ) → v ≡ 0 → v - bit_and v (BLOCKS mask) + 0 ≡ 0
released mask v e = ap (λ (n : ℕ). n - bit_and n (BLOCKS mask) + 0) e ∙ omega arith

kept : (c : Chip) (w v power : ℕ) → v ≡ 0 → powers_down c (PLL_PWR c w) 0 ≡ false
    → pick (powers_down c (PLL_PWR c w) v) 0x2D power ≡ power
kept c w v power e out = rw (e, out)

pub last-sets : (c : Chip) (mask : ℕ) (file : ℕ → ℕ) → file (RESET c) ≡ 0
    → let after = carried_out c (last_part mask) file in
    (after (RESET c) ≡ 0) × (after (PLL_PWR c 0) ≡ file (PLL_PWR c 0)) × (after (PLL_PWR c 1) ≡ file (PLL_PWR c 1))
unfolding access_of has
last-sets Rp2040 mask file e =
    let z = released mask (file (RESET Rp2040)) e in
    (z, kept Rp2040 0 _ (file (PLL_PWR Rp2040 0)) z refl, kept Rp2040 1 _ (file (PLL_PWR Rp2040 1)) z refl)
last-sets Rp235x mask file e =
    let z = released mask (file (RESET Rp235x)) e in
    (z, kept Rp235x 0 _ (file (PLL_PWR Rp235x 0)) z refl, kept Rp235x 1 _ (file (PLL_PWR Rp235x 1)) z refl)
