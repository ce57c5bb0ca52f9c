-- A plan with the PLLs that the searches find is never refused with 5 or 6, and its USB clock has 48 MHz.
use Rattle.std.specs.Prelude.{◌≡◌, refl, Bool, true, false, ◌&&◌, ◌||◌, List, [], ◌∷◌, Some, ℕ, eqb}
use mathlib.Core.Path.{sym, subst, ap}
use borrow.Author.Tests.{eq-eqb}
use Rattle.base.specs.{declared.refusal.Refusal.Refusal, Answer.value, Refusals.number_of}
use Rattle.base.proofs.Bools.{either_way}
use Rattle.chip.specs.declared.Chip.{Chip}
use Rattle.pll.specs.Setting.{valid_of}
use Rattle.pll.proofs.{Inputs.found-valid, UsbRight.usb-found, UsbRight.usb-output}
use Rattle.config.specs.Presets.{ring_config, feeding_both, from_plls, system_voltage, system_plan_from}
use Rattle.config.specs.declared.{RoscRange.RoscRange, ClockConfig.ClockConfig}
use Rattle.config.proofs.Systems.{Found, system-from-found}
use Rattle.settings.specs.Frequencies.{pll_hz, sources_of, frequencies_of}
use Rattle.settings.specs.{declared.Settings.Settings, Settings.settings_of}
use Rattle.refusals.specs.{Rules.sys_pll_invalid, Rules.usb_pll_invalid, Refusals.tests_of, Refusals.first, Refusals.refusal_of}
use Rattle.base.specs.declared.refusal.Refusal.TheVariants as why

-- A test of this refusal holds.
abbrev holds_for : Refusal → List (Refusal × Bool) → Bool
holds_for reason [] = false
holds_for reason ((tested, test) ∷ rest) = (eqb (number_of reason) (number_of tested) && test) || holds_for reason rest

first_holds : (reason : Refusal) (tests : List (Refusal × Bool)) → first tests ≡ Some reason → holds_for reason tests ≡ true
first_holds reason [] e = absurd cc
first_holds reason ((tested, true) ∷ rest) e = let same : reason ≡ tested = cc in rw (eq-eqb _ _ (ap number_of same))
first_holds reason ((tested, false) ∷ rest) e =
    let h = first_holds reason rest e in either_way (eqb (number_of reason) (number_of tested)) (λ f. rw f h) (λ f. rw f h)

module _ (chip : Chip) (from hz reading : ℕ) (p : ClockConfig) (planned : system_plan_from chip from hz ≡ value p) where
  made : Found chip from hz p
  made = system-from-found chip from hz p planned

  abbrev plan : ClockConfig
  plan =
      from_plls chip (system_voltage hz) (ring_config 6500000 RoscRange.Medium 16)
      (feeding_both from made.sys made.usb)

  usb-valid : valid_of made.usb from ≡ true
  usb-valid = (usb-found from made.usb made.usb-found).valid

  abbrev set : Settings
  set = settings_of plan reading

  never : (reason : Refusal) → holds_for reason (tests_of set (frequencies_of set) reading) ≡ false
      → refusal_of (settings_of p reading) reading ≡ Some reason → ⊥
  unfolding refusal_of
  never reason none e =
      let here : refusal_of (settings_of plan reading) reading ≡ Some reason
      = subst (λ q. refusal_of (settings_of q reading) reading ≡ Some reason) made.is e in
      let held = first_holds reason (tests_of set (frequencies_of set) reading) here in
      cc (held, none)

  -- This holds at any reading.
  pub system-from-never-5 : refusal_of (settings_of p reading) reading ≡ Some why.SysPll → ⊥
  unfolding sys_pll_invalid
  system-from-never-5 = never why.SysPll (rw (found-valid from hz made.sys made.sys-found))

  pub system-from-never-6 : refusal_of (settings_of p reading) reading ≡ Some why.UsbPll → ⊥
  unfolding usb_pll_invalid
  system-from-never-6 = never why.UsbPll (rw usb-valid)

  -- The stored frequencies of the USB PLL, the USB and the ADC clock are 48 MHz.
  pub system-from-usb :
      ((frequencies_of (settings_of p reading)).sources.pll_usb ≡ 48000000)
      × ((frequencies_of (settings_of p reading)).usb ≡ 48000000)
      × ((frequencies_of (settings_of p reading)).adc ≡ 48000000)
  unfolding sources_of pll_hz
  system-from-usb =
      subst (λ q. ((frequencies_of (settings_of q reading)).sources.pll_usb ≡ 48000000)
      × ((frequencies_of (settings_of q reading)).usb ≡ 48000000)
      × ((frequencies_of (settings_of q reading)).adc ≡ 48000000)) (sym made.is)
      (rw (usb-valid, usb-output from made.usb made.usb-found) (refl, refl, refl))
