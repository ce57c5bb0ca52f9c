-- The `system_freq` plan of every target is accepted at reading 11.
use Rattle.std.specs.Prelude.{Bool, true, false, not, ◌≡◌, ℕ, eqb, ltb, Some, refl}
use mathlib.Core.Path.{ap, ◌∙◌}
use native.Mathlib.Omega.{arith}
use Rattle.base.specs.{Choice.pick, Answer.value}
use Rattle.base.proofs.Bools.{either_way}
use Rattle.chip.specs.declared.voltage.CoreVoltage.TheVariants.{V1_10, V1_15}
use Rattle.chip.specs.declared.{voltage.CoreVoltage.CoreVoltage, Chip.TheVariants.Rp2040}
use Rattle.config.specs.Presets.{ring_config, feeding, from_plls, crystal_plan, system_voltage, system_plan_from, system_plan}
use Rattle.config.specs.{declared.RoscRange.TheVariants.Medium, declared.ClockConfig.ClockConfig, ChipSettings.chip_of}
use Rattle.divider.specs.{Clock.divided_hz, Delay.startup_sum, Delay.cycles_per_us, Delay.settling_cycles}
use Rattle.pll.specs.{declared.PllConfig.PllConfig, Setting.valid_of, Search.setting}
use Rattle.pll.proofs.{Inputs.found-valid, Inputs.search-finds, UsbPreset.usb-preset}
use Rattle.settings.specs.Frequencies.{pll_hz, sources_of, ref_hz, sys_hz, sys_in}
use Rattle.settings.specs.{declared.Settings.Settings, Settings.settling_step, Settings.settings_of, Typed.Typed}
use Rattle.settings.proofs.Plls.{pll_silent}
use Rattle.refusals.specs.Rules.{strengths_over, ring_divider_over, settling_over, startup_over, sys_pll_invalid, usb_pll_invalid}
use Rattle.refusals.specs.Rules.{divider_bad, reference_bad, whole_bad, peri_bad, aux_bad, rtc_bad}
use Rattle.refusals.specs.Refusals.{refusal_of, Accepted}
use Rattle.report.specs.Report.{reading}

-- a divider of 1 keeps the frequency
undivided : (hz : ℕ) → divided_hz 256 hz 1 0 ≡ hz
unfolding divided_hz
undivided hz = omega arith

module _ (c : PllConfig) (v : CoreVoltage) where
  abbrev plan : ClockConfig
  plan = from_plls Rp2040 v (ring_config 6500000 Medium 16) (feeding 12000000 c)

  abbrev set : Settings
  set = settings_of plan reading

  sounds : valid_of c 12000000 ≡ true → eqb (sys_in set) 0 ≡ false
  unfolding sys_hz sources_of
  sounds ok =
      ap (λ (hz : ℕ). eqb hz 0) (undivided (pll_hz 12000000 (Some c))) ∙ pll_silent 12000000 c ∙ ap not ok

  plan-accepted : valid_of c 12000000 ≡ true → settling_over set.settling ≡ false → Accepted plan reading
  unfolding startup_sum divided_hz pll_hz sources_of ref_hz strengths_over ring_divider_over startup_over sys_pll_invalid
      usb_pll_invalid divider_bad reference_bad whole_bad peri_bad aux_bad rtc_bad refusal_of
  plan-accepted ok calm = rw (calm, sounds ok, ok)

-- the settling time at 1.15 V fits, and at 1.10 V nothing settles
settles : (b : Bool) (c : PllConfig)
    → let v = pick b V1_15 V1_10 in settling_over (set c v).settling ≡ false
unfolding settling_over settling_step cycles_per_us settling_cycles
settles true c = refl
settles false c = refl

-- the plan of a target is one of the RP2040, is accepted at the reading, and its numbers fit their types
pub record Served (hz : ℕ) (p : ClockConfig) : Type 0 where
  pub planned : system_plan Rp2040 hz ≡ value p
  pub on : (chip_of p.chip).model ≡ Rp2040
  pub accepted : Accepted p reading
  pub typed : Typed (settings_of p reading)

plan-typed : (c : PllConfig) (v : CoreVoltage) → Typed (set c v)
unfolding sources_of
plan-typed c v = record { rosc = omega arith; xosc = omega arith; fraction = omega arith; rtc = omega arith }

pub system-accepted : (hz : ℕ) → (p : ClockConfig) × Served hz p
unfolding system_plan system_plan_from
system-accepted hz =
    let found = search-finds 12000000 hz (omega arith) (omega arith) in
    let valid = found-valid 12000000 hz found.0 found.1 in
    either_way (eqb hz 125000000)
    (λ e. (
      crystal_plan Rp2040 12000000,
      record {
        planned = rw e;
        on = refl;
        accepted = plan-accepted (setting 125 6 2) V1_10 refl (settles false (setting 125 6 2));
        typed = plan-typed (setting 125 6 2) V1_10;
      },
    ))
    (λ e. (
      plan found.0 (system_voltage hz),
      record {
        planned = rw (e, found.1, usb-preset);
        on = refl;
        accepted = plan-accepted found.0 (system_voltage hz) valid (settles (ltb 133000000 hz) found.0);
        typed = plan-typed found.0 (system_voltage hz);
      },
    ))

-- so the plan of every target is one of the RP2040
pub on-rp2040 : (hz : ℕ) (p : ClockConfig) → system_plan Rp2040 hz ≡ value p → (chip_of p.chip).model ≡ Rp2040
on-rp2040 hz p e =
    let served = system-accepted hz in
    let is : p ≡ served.0 = let other = served.1.planned in cc in
    rw is served.1.on
