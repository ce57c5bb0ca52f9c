-- A preset's plan is read back from its numbers, since they fit their types: those that the preset gives are small, and a PLL that is
-- searched for, or valid, has dividers of the datasheet's ranges.
use Rattle.std.specs.Prelude.{Option, Some, None, true, ◌≡◌, ℕ, ◌≤◌, eqb, refl}
use mathlib.Core.Path.{ap, subst}
use native.Mathlib.Omega.{arith}
use Rattle.base.specs.{Answer.Answer, Answer.value, Answer.refusal, Widths.u32}
use Rattle.base.proofs.Bools.{either_way}
use Rattle.chip.specs.declared.Chip.TheVariants.{Rp2040, Rp235x}
use Rattle.chip.specs.{declared.Chip.Chip, declared.voltage.CoreVoltage.CoreVoltage, Chips.facts_of}
use Rattle.pll.specs.{declared.PllConfig.PllConfig, Setting.valid_of, Search.search_of, Usb.usb_of, Law.RightAnswer}
use Rattle.pll.proofs.{Right.search-right, Valid.valid, UsbRight.usb-found}
use Rattle.config.specs.Presets.{plain, from_plls, feeding_both, with_found, ring_config, rosc_plan, default_plan, crystal_plan}
use Rattle.config.specs.Presets.{system_voltage, system_plan, system_plan_from, manual_plan}
use Rattle.config.specs.declared.{ClockConfig.ClockConfig, RoscConfig.RoscConfig, RoscRange.RoscRange}
use Rattle.config.specs.{declared.RtcClkConfig.RtcClkConfig, ChipSettings.chip_of}
use Rattle.numbers.specs.{Typed.PllTyped, Typed.RingTyped, Typed.ClockTyped, Typed.ChipTyped, Typed.PlanTyped}
use Rattle.numbers.proofs.Inverse.{plan-back}
use Rattle.export.specs.Plan.{Back, PresetsBack}
use Rattle.chip.specs.declared.voltage.CoreVoltage.TheVariants as volts

-- what holds of a plan that is answered
abbrev ForPlan : Chip → Answer ClockConfig → Type 0
ForPlan chip (value p) = Back chip p
ForPlan chip (refusal n) = Unit {0}

-- the chip's part of a preset is of its chip, and fits its types where its RTC does
plain-chip : (chip : Chip) (v : CoreVoltage) (rtc : Option RtcClkConfig) → (chip_of (plain chip v rtc)).model ≡ chip
plain-chip Rp2040 v rtc = refl
plain-chip Rp235x v rtc = refl

plain-typed : (chip : Chip) (v : CoreVoltage) (rtc : Option RtcClkConfig) → ClockTyped rtc → ChipTyped (plain chip v rtc)
plain-typed Rp2040 v rtc few = (omega arith, omega arith, few)
plain-typed Rp235x v rtc few = (omega arith, omega arith)

back : (chip : Chip) (p : ClockConfig) → (chip_of p.chip).model ≡ chip → PlanTyped p → Back chip p
back chip p e t = subst (λ (on : Chip). Back on p) e (plan-back p t)

-- a plan with both PLLs
plls-back : (chip : Chip) (v : CoreVoltage) (hz : ℕ) (sys usb : PllConfig) (ring : Option RoscConfig) → hz ≤ u32
    → PllTyped (Some sys) → PllTyped (Some usb) → RingTyped ring → Back chip (from_plls chip v ring (feeding_both hz sys usb))
plls-back chip v hz sys usb ring few s u r =
    back chip (from_plls chip v ring (feeding_both hz sys usb)) (plain-chip chip v _)
    (record {
      chip = plain-typed chip v _ (omega arith, omega arith, omega arith);
      rosc = r;
      xosc = (few, omega arith, s, u);
      reference = omega arith;
      usb = (omega arith, omega arith);
      adc = (omega arith, omega arith);
      settling = tt;
    })

-- the rings of the presets
ring-typed : (hz div : ℕ) → hz ≤ u32 → div ≤ 65535 → (range : RoscRange) → RingTyped (ring_config hz range div)
ring-typed hz div few small range =
    (few, omega arith, omega arith, omega arith, omega arith, omega arith, omega arith, omega arith, omega arith, omega (arith, small))

rosc-back : (chip : Chip) → Back chip (rosc_plan chip)
rosc-back chip =
    back chip (rosc_plan chip) (plain-chip chip volts.V1_10 _)
    (record {
      chip = plain-typed chip volts.V1_10 _ (omega arith, omega arith, omega arith);
      rosc = ring-typed 140000000 1 (omega arith) (omega arith) RoscRange.High;
      xosc = tt;
      reference = omega arith;
      usb = tt;
      adc = (omega arith, omega arith);
      settling = tt;
    })

default-back : (chip : Chip) → Back chip (default_plan chip)
default-back chip =
    back chip (default_plan chip) (plain-chip chip volts.V1_10 None)
    (record {
      chip = plain-typed chip volts.V1_10 None tt;
      rosc = tt;
      xosc = tt;
      reference = omega arith;
      usb = tt;
      adc = tt;
      settling = tt;
    })

medium : RingTyped (ring_config 6500000 RoscRange.Medium 16)
medium = ring-typed 6500000 16 (omega arith) (omega arith) RoscRange.Medium

post-small : (chip : Chip) → (facts_of chip).preset_post ≤ 7
post-small Rp2040 = omega arith
post-small Rp235x = omega arith

crystal-back : (chip : Chip) (hz : ℕ) → hz ≤ u32 → Back chip (crystal_plan chip hz)
crystal-back chip hz few =
    plls-back chip volts.V1_10 hz _ _ _ few (omega arith, omega arith, omega (arith, post-small chip), omega arith)
    (omega arith, omega arith, omega arith, omega arith) medium

-- a setting that is valid fits its types, and so does one that is searched for
valid-typed : (c : PllConfig) (input : ℕ) → valid_of c input ≡ true → PllTyped (Some c)
valid-typed c input e = let v = valid c input e in
    (omega (arith, v.refdiv.1), omega (arith, v.fbdiv.1), omega (arith, v.post1.1), omega (arith, v.post2.1))

found-typed : (input target : ℕ) (c : PllConfig) → search_of input target ≡ value c → PllTyped (Some c)
found-typed input target c e =
    let m = (subst (RightAnswer input target) e (search-right input target)).candidate in
    (omega (arith, m.reference), omega (arith, m.feedback_high), omega (arith, m.post1_high), omega (arith, m.post1_high, m.post2_high))

from-back : (chip : Chip) (from hz : ℕ) (p : ClockConfig) → from ≤ u32 → system_plan_from chip from hz ≡ value p → Back chip p
unfolding system_plan_from
from-back chip from hz p few = go (search_of from hz) (usb_of from) refl refl
  where
    go : (s u : Answer PllConfig) → search_of from hz ≡ s → usb_of from ≡ u → with_found chip from hz s u ≡ value p → Back chip p
    go (value s) (value u) e f h =
        subst (ForPlan chip) h
        (plls-back chip (system_voltage hz) from s u _ few (found-typed from hz s e) (valid-typed u from (usb-found from u f).valid) medium)
    go (value s) (refusal n) e f h = subst (λ (t : Type 0). t) (ap (ForPlan chip) h) tt
    go (refusal n) u e f h = subst (λ (t : Type 0). t) (ap (ForPlan chip) h) tt

system-back : (chip : Chip) (hz : ℕ) (p : ClockConfig) → system_plan chip hz ≡ value p → Back chip p
unfolding system_plan
system-back chip hz p e =
    either_way (eqb hz (facts_of chip).preset_hz)
    (λ s. subst (ForPlan chip) (rw s at e) (crystal-back chip 12000000 (omega arith)))
    (λ s. from-back chip 12000000 hz p (omega arith) (rw s at e))

manual-back : (hz : ℕ) (pll : PllConfig) (v : CoreVoltage) (p : ClockConfig) → hz ≤ u32 → manual_plan hz pll v ≡ value p → Back Rp2040 p
unfolding manual_plan
manual-back hz pll v p few e =
    subst (ForPlan Rp2040) e
    (either_way (valid_of pll hz)
    (λ ok.
    rw ok
    (plls-back Rp2040 v hz pll _ None few (valid-typed pll hz ok) (omega arith, omega arith, omega arith, omega arith) tt))
    (λ no. rw no tt))

pub presets-back : PresetsBack
presets-back =
    record {
      crystal = crystal-back;
      rosc = rosc-back;
      default = default-back;
      system = system-back;
      system_from = from-back;
      manual = manual-back;
    }
