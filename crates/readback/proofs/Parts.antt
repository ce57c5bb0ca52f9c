-- The settings of a sheet consist of its parts, each read from the steps after the previous one.
use Rattle.std.specs.Prelude.{Option, Some, ◌≡◌, refl, List, ℕ, drop}
use mathlib.Core.Path.{◌∙◌}
use Rattle.config.specs.{declared.ChipSettings.ChipSettings, ChipSettings.chip_of, Codes.chip_from}
use Rattle.settings.specs.declared.{Crystal.Crystal, Settings.Settings}
use Rattle.step.specs.declared.Step.{Step}
use Rattle.sheet.specs.Read.{Part, part, ◌then◌, step_at, read_pll, past_tick, read_rtc, settings_from}
use Rattle.chip.specs.declared.Chip.{Chip, TheVariants.Rp2040, TheVariants.Rp235x}
use Rattle.readback.specs.Parse.{value_in, rest_in, cut_part, ticks, chip_taken, ring_taken, voltage_taken, crystal_taken, ref_taken}
use Rattle.readback.specs.Parse.{sys_taken, peri_taken, usb_taken, adc_taken}

then_is : {A B : Type 0} (p : Part A) (f : A → List Step → B) → (p then f) ≡ f (value_in p) (rest_in p)
then_is (part a rest) f = refl

-- The truncated value of a part, and the steps after it.
pub record Goes {A : Type 0} (cut : A → A) (p : Part A) (a : A) (after : List Step) : Type 0 where
  pub value : a ≡ cut (value_in p)
  pub rest : rest_in p ≡ after

part-is : {A : Type 0} (cut : A → A) (p : Part A) (a : A) (rest : List Step) → cut_part cut p ≡ part a rest
    → Goes cut p a rest
part-is cut (part b ys) a rest e = record { value = cc; rest = cc }

pub goes_on : {A : Type 0} (read : List Step → Part A) (cut : A → A) (xs : List Step) (a : A) (rest : List Step) {ys : List Step}
    → cut_part cut (read xs) ≡ part a rest → ys ≡ xs → Goes cut (read ys) a rest
goes_on read cut xs a rest p e = rw e (part-is cut _ a _ p)

-- The part of a crystal from its start delay and its PLLs, which begin at these steps.
pub crystal-there : (ys : List Step) (delay : ℕ)
    → ◌≡◌ {A = Part (Option Crystal)}
    (read_pll 0 ys then λ sys ys. read_pll 1 ys then λ usb zs.
    part (Some (record { hz = (step_at zs 0).f1; delay = delay; sys = sys; usb = usb })) zs)
    (part
    (Some
    (record {
      hz = (step_at (rest_in (read_pll 1 (rest_in (read_pll 0 ys)))) 0).f1;
      delay = delay;
      sys = value_in (read_pll 0 ys);
      usb = value_in (read_pll 1 (rest_in (read_pll 0 ys)));
    }))
    (rest_in (read_pll 1 (rest_in (read_pll 0 ys)))))
crystal-there ys delay = then_is (read_pll 0 ys) _ ∙ then_is (read_pll 1 (rest_in (read_pll 0 ys))) _

pub past-tick : (chip : Chip) (xs : List Step) → past_tick chip xs ≡ drop (ticks chip) xs
past-tick Rp2040 xs = refl
past-tick Rp235x xs = refl

-- The chip-specific part of the plan in common fields.
abbrev pub chip_there : ℕ → List Step → ChipSettings
chip_there reading xs =
    chip_of
    (chip_from (value_in (chip_taken xs)) (value_in (voltage_taken reading xs)).code
    (value_in (sys_taken reading xs)).whole (value_in (sys_taken reading xs)).fraction
    (read_rtc (rest_in (adc_taken reading xs))))

-- The settings are those of the parts.
pub settings-there : (reading : ℕ) (xs : List Step)
    → ◌≡◌ {A = Settings} (settings_from reading xs)
    (record {
      chip = chip_there reading xs;
      rosc = value_in (ring_taken xs);
      xosc = value_in (crystal_taken reading xs);
      settling = (value_in (voltage_taken reading xs)).settling;
      reference = value_in (ref_taken reading xs);
      sys = (value_in (sys_taken reading xs)).src;
      peri = value_in (peri_taken reading xs);
      usb = value_in (usb_taken reading xs);
      adc = value_in (adc_taken reading xs);
    })
unfolding settings_from chip_taken ring_taken voltage_taken crystal_taken ref_taken sys_taken peri_taken usb_taken adc_taken
settings-there reading xs =
    rw (then_is (chip_taken xs), then_is (ring_taken xs), then_is (voltage_taken reading xs))
    (rw (then_is (crystal_taken reading xs), then_is (sys_taken reading xs), then_is (peri_taken reading xs))
    (rw (then_is (usb_taken reading xs), then_is (adc_taken reading xs))))
