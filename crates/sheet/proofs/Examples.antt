-- These plans are accepted at reading 11: the crystal presets, whose sheets have 62 and 63 steps, and for each chip a plan whose
-- sheet has the greatest number of steps.
use Rattle.std.specs.Prelude.{◌≡◌, refl, List, [], ◌∷◌, map, ℕ, length, get_or}
use Rattle.step.specs.{declared.Step.Step, Sheet.max_steps}
use native.Mathlib.Omega.{arith}
use Rattle.chip.specs.declared.Chip.TheVariants.{Rp2040, Rp235x}
use Rattle.chip.specs.declared.voltage.{CoreVoltage.TheVariants.V1_15, CoreVoltage235.TheVariants.V1_15 as volts115}
use Rattle.config.specs.Presets.{ring_config, feeding, from_plls, crystal_plan}
use Rattle.config.specs.declared.{ChipConfig.TheVariants.Rp235x as on235x, RoscRange.TheVariants.Medium, ClockConfig.ClockConfig}
use Rattle.divider.specs.{Delay.startup_sum, Delay.cycles_per_us, Delay.settling_cycles, Clock.divided_hz}
use Rattle.pll.specs.Search.{setting}
use Rattle.config.proofs.OnChip.{on_chip}
use Rattle.settings.specs.Frequencies.{pll_hz, sources_of, ref_hz, sys_hz, sys_in}
use Rattle.settings.specs.{Settings.settling_step, Settings.settings_of, Typed.Typed}
use Rattle.refusals.specs.Rules.{strengths_over, ring_divider_over, settling_over, startup_over, sys_pll_invalid, usb_pll_invalid}
use Rattle.refusals.specs.Rules.{divider_bad, reference_bad, whole_bad, peri_bad, aux_bad, rtc_bad}
use Rattle.refusals.specs.Refusals.{refusal_of, Accepted}
use Rattle.sheet.specs.Steps.{step0, step1, head_part, ring_part, voltage_part, crystal_part, switch_steps, sys_part, peri_part}
use Rattle.sheet.specs.Steps.{aux_part, rtc_part, release_mask, clocks_part, steps_of}
use Rattle.step.specs.declared.kind.Kind.TheVariants as kind

-- A plan within the bounds of its number types is accepted at a reading and gives a sheet of n steps.
pub record Gives (p : ClockConfig) (reading n : ℕ) : Type 0 where
  pub typed : Typed (settings_of p reading)
  pub accepted : Accepted p reading
  pub count : length (steps_of reading (settings_of p reading)) ≡ n

made : {p : ClockConfig} {reading n : ℕ} → Typed (settings_of p reading) → Accepted p reading
    → length (steps_of reading (settings_of p reading)) ≡ n → Gives p reading n
made typed accepted count = record { typed = typed; accepted = accepted; count = count }

-- The RP2040 at 133 MHz from 12 MHz, at 1.15 V.
unfoldable pub longest_plan : ClockConfig
longest_plan = from_plls Rp2040 V1_15 (ring_config 6500000 Medium 16) (feeding 12000000 (setting 133 6 2))

-- The crystal preset of the RP235x with a system divider of 1 + 32768 / 65536, at 1.15 V.
unfoldable pub longest235 : ClockConfig
longest235 =
    on_chip (on235x (record { core_voltage = volts115; div_int = 1; div_frac = 32768 })) (crystal_plan Rp235x 12000000)

counts : Gives (crystal_plan Rp2040 12000000) 11 62 × Gives (crystal_plan Rp235x 12000000) 11 63
    × Gives longest_plan 11 65 × Gives longest235 11 max_steps
unfolding longest_plan longest235 startup_sum cycles_per_us settling_cycles divided_hz settling_step pll_hz sources_of ref_hz sys_hz
    strengths_over ring_divider_over settling_over startup_over sys_pll_invalid usb_pll_invalid divider_bad reference_bad whole_bad
    peri_bad aux_bad rtc_bad refusal_of head_part ring_part voltage_part crystal_part switch_steps sys_part peri_part aux_part rtc_part
    clocks_part steps_of
counts = (
  made (record { rosc = omega arith; xosc = omega arith; fraction = omega arith; rtc = omega arith }) refl refl,
  made (record { rosc = omega arith; xosc = omega arith; fraction = omega arith; rtc = tt }) refl refl,
  made (record { rosc = omega arith; xosc = omega arith; fraction = omega arith; rtc = omega arith }) refl refl,
  made (record { rosc = omega arith; xosc = omega arith; fraction = omega arith; rtc = tt }) refl refl,
)

pub crystal-steps : Gives (crystal_plan Rp2040 12000000) 11 62
crystal-steps = counts.0

pub crystal-steps-235 : Gives (crystal_plan Rp235x 12000000) 11 63
crystal-steps-235 = counts.1

pub longest-steps : Gives longest_plan 11 65
longest-steps = counts.2

pub longest-steps-235 : Gives longest235 11 max_steps
longest-steps-235 = counts.3

-- 150 MHz over 1.5, as the fraction counts in 1 / 65536.
pub system-235 : sys_in (settings_of longest235 11) ≡ 100000000
unfolding longest235 divided_hz pll_hz sources_of ref_hz sys_hz
system-235 = refl

abbrev preset_steps : List Step
preset_steps = steps_of 11 (settings_of (crystal_plan Rp235x 12000000) 11)

abbrev pub at : ℕ → Step
at i = get_or preset_steps i (step0 (kind.Unknown 0))

-- The kinds of the steps of the RP235x's crystal preset in their order, and its masks and dividers.
pub crystal-235 :
    (map (λ (x : Step). x.kind) preset_steps
    ≡ kind.ChipMark
    ∷ kind.Reset ∷ kind.ResusOff ∷ kind.SysSource ∷ kind.WaitSys ∷ kind.RefSource ∷ kind.WaitRef
    ∷ kind.Reset ∷ kind.Release ∷ kind.WaitReleased
    ∷ kind.Strengths0To3 ∷ kind.Strengths4To7 ∷ kind.RingDivider ∷ kind.RingOn ∷ kind.Store
    ∷ kind.Startup ∷ kind.CrystalOn ∷ kind.WaitStable
    ∷ kind.PllPower ∷ kind.Delay ∷ kind.PllReference ∷ kind.PllFeedback ∷ kind.PllPower ∷ kind.WaitLock
    ∷ kind.PllPosts ∷ kind.PllPostOn ∷ kind.Delay
    ∷ kind.PllPower ∷ kind.Delay ∷ kind.PllReference ∷ kind.PllFeedback ∷ kind.PllPower ∷ kind.WaitLock
    ∷ kind.PllPosts ∷ kind.PllPostOn ∷ kind.Delay
    ∷ kind.Store ∷ kind.Store ∷ kind.Store ∷ kind.Store ∷ kind.RefControl ∷ kind.WaitRef ∷ kind.RefDivider
    ∷ kind.TimerCycles ∷ kind.TimerOn ∷ kind.WatchdogCycles ∷ kind.WatchdogOn
    ∷ kind.Store ∷ kind.SysControl ∷ kind.WaitSys ∷ kind.SysControl ∷ kind.WaitSys ∷ kind.SysDivider235
    ∷ kind.PeriControl ∷ kind.Store
    ∷ kind.UsbDivider ∷ kind.UsbControl ∷ kind.Store
    ∷ kind.AdcDivider ∷ kind.AdcControl ∷ kind.Store
    ∷ kind.Release ∷ kind.WaitReleased ∷ [])
    × (at 1 ≡ step1 kind.Reset 0x1EF3B7F)
    × (at 8 ≡ step1 kind.Release 0xC000)
    × (at 12 ≡ step1 kind.RingDivider 0xAA10)
    × (at 62 ≡ step1 kind.WaitReleased 0x1FFFFF7)
unfolding release_mask startup_sum cycles_per_us settling_cycles divided_hz settling_step pll_hz sources_of ref_hz sys_hz head_part
    ring_part voltage_part crystal_part switch_steps sys_part peri_part aux_part rtc_part clocks_part steps_of
crystal-235 = (refl, refl, refl, refl, refl)
