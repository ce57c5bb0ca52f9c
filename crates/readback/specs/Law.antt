-- The answer of reading a sheet back, stated declaratively (docs/FORMAT.md, Reading a sheet back). The law allows exactly one
-- answer, as `readback-one` shows.
use Rattle.std.specs.Prelude.{Option, Some, None, ◌≡◌, ◌&&◌, List, ℕ, ◌/◌, ◌≤◌, ◌<◌, length, get_or, leb}
use Rattle.base.specs.{Choice.pick, Answer.Answer, Answer.value, Answer.refusal}
use Rattle.chip.specs.{declared.Chip.Chip, declared.Chip.TheVariants.Rp2040, declared.Chip.TheVariants.Rp235x, Chips.facts_of}
use Rattle.step.specs.Kinds.{kind_of, is}
use Rattle.config.specs.{declared.ClockConfig.ClockConfig, declared.XoscConfig.XoscConfig, ChipSettings.chip_of}
use Rattle.settings.specs.{Settings.settling_time, Settings.settings_of, Typed.Typed}
use Rattle.refusals.specs.Refusals.{Accepted}
use Rattle.sheet.specs.Writer.{sheet_bytes}
use Rattle.step.specs.declared.kind.Kind.TheVariants as kind

-- The chip of a sheet: a first step of kind 38 means the RP235x, anything else the RP2040. A step has 8 bytes, and its kind is
-- the first six bits of the first byte, whatever bits follow.
abbrev pub chip_in : List ℕ → Chip
chip_in sheet = pick (leb 8 (length sheet) && is (kind_of (get_or sheet 0 0 / 4)) kind.ChipMark) Rp235x Rp2040

-- The greatest reading of that chip, 15 or 31.
unfoldable pub top_reading : List ℕ → ℕ
top_reading sheet = (facts_of (chip_in sheet)).top_reading

-- The plan, within the bounds of its number types, is accepted at the reading, and its sheet is exactly these bytes.
pub record Gives (sheet : List ℕ) (reading : ℕ) (p : ClockConfig) : Type 0 where
  pub typed : Typed (settings_of p reading)
  pub accepted : Accepted p reading
  pub bytes : sheet_bytes p reading ≡ sheet

-- The delay multiplier of a plan; without a crystal it counts as 0.
abbrev pub multiplier_in : Option XoscConfig → ℕ
multiplier_in (Some x) = x.delay_multiplier
multiplier_in None = 0

abbrev pub multiplier_of : ClockConfig → ℕ
multiplier_of p = multiplier_in p.xosc

-- The settling time of a plan, given or the voltage's default.
abbrev pub time_of : ClockConfig → ℕ
time_of p = settling_time p.voltage_stabilization_delay_us (chip_of p.chip).volts.settling_us

-- The plan that is answered gives the bytes, with the smallest multiplier and the smallest time of all plans that do. Its time is
-- given, and it is 0 where there is no settling step.
pub record Back (sheet : List ℕ) (reading : ℕ) (p : ClockConfig) : Type 0 where
  pub gives : Gives sheet reading p
  pub multiplier : (q : ClockConfig) → Gives sheet reading q → multiplier_of p ≤ multiplier_of q
  pub time : (q : ClockConfig) → Gives sheet reading q → time_of p ≤ time_of q
  pub is_given : p.voltage_stabilization_delay_us ≡ Some (time_of p)
  pub still : (settings_of p reading).settling ≡ None → time_of p ≡ 0

-- 18 is for a reading over the greatest of the sheet's chip, 26 where no accepted plan gives these bytes at this reading.
pub data ReadBack (sheet : List ℕ) (reading : ℕ) : Answer ClockConfig → Type 0 where
  over : top_reading sheet < reading → ReadBack sheet reading (refusal 18)
  none : reading ≤ top_reading sheet → ((p : ClockConfig) → Gives sheet reading p → ⊥) → ReadBack sheet reading (refusal 26)
  back : (p : ClockConfig) → reading ≤ top_reading sheet → Back sheet reading p → ReadBack sheet reading (value p)
