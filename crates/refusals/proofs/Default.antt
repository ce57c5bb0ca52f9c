-- The default plan is refused with 8 at every reading that its chip can have, as its reference clock has 0 Hz.
use Rattle.std.specs.Prelude.{Option, Some, None, ◌≡◌, refl, Bool, true, false, ℕ, ◌≤◌, eqb}
use borrow.Author.Tests.{le-ltb}
use Rattle.base.specs.Choice.{pick}
use Rattle.chip.specs.{declared.Chip.Chip, declared.Chip.TheVariants.Rp2040, declared.Chip.TheVariants.Rp235x, Chips.facts_of}
use Rattle.config.specs.Presets.{default_plan}
use Rattle.settings.specs.{Settings.settling_step, Settings.settings_of, Frequencies.sources_of, Frequencies.ref_hz}
use Rattle.refusals.specs.Rules.{strengths_over, ring_divider_over, settling_over, startup_over, sys_pll_invalid, usb_pll_invalid}
use Rattle.refusals.specs.Rules.{divider_bad, reference_bad}
use Rattle.refusals.specs.Refusals.{refusal_of}
use Rattle.base.specs.declared.refusal.Refusal.TheVariants as why

calmly : (b : Bool) → settling_over (pick {A = Option ℕ} b None None) ≡ false
unfolding settling_over
calmly true = refl
calmly false = refl

-- There is no settling step: the voltage stays, or its default settling time is 0.
calm : (chip : Chip) (reading : ℕ) → settling_over (settings_of (default_plan chip) reading).settling ≡ false
unfolding settling_over settling_step
calm Rp2040 reading = calmly (eqb 11 reading)
calm Rp235x reading = calmly (eqb 11 reading)

pub default-refused : (chip : Chip) (reading : ℕ) → reading ≤ (facts_of chip).top_reading
    → refusal_of (settings_of (default_plan chip) reading) reading ≡ Some why.RefClock
unfolding strengths_over ring_divider_over startup_over sys_pll_invalid usb_pll_invalid divider_bad reference_bad refusal_of ref_hz
    sources_of
default-refused Rp2040 reading h = rw (le-ltb 15 reading h, calm Rp2040 reading)
default-refused Rp235x reading h = rw (le-ltb 31 reading h, calm Rp235x reading)
