-- The frequency of a Gpout, the Rust's `get_freq` (docs/FORMAT.md, Gpout).
use Rattle.std.specs.Prelude.{ℕ, Option, Some, None, List, leb, eqb, get_or}
use Rattle.base.specs.{Choice.pick, Answer.Answer, Answer.value, Answer.refusal}
use Rattle.chip.specs.{declared.Chip.Chip, declared.Chip.TheVariants.Rp2040, declared.Chip.TheVariants.Rp235x, Chips.facts_of}
use Rattle.step.specs.{declared.clock.Clock.Clock, Clocks.clock_number}
use Rattle.divider.specs.declared.GpoutDiv.TheVariants.{Rp2040 as On2040, Rp235x as On235x}
use Rattle.divider.specs.{declared.GpoutDiv.GpoutDiv, Clock.divided_hz}

-- The clock of a source code; none for an unknown code.
unfoldable pub gpout_clock : Chip → ℕ → Option Clock
gpout_clock chip source = get_or (facts_of chip).gpout source None

-- A whole part of 0 counts as 65536, as the datasheets state.
abbrev pub gpout_whole : ℕ → ℕ
gpout_whole whole = pick (eqb whole 0) 65536 whole

-- The divided stored frequency of a clock; 23 for none.
abbrev pub gpout_from : ℕ → ℕ → ℕ → List ℕ → Option Clock → Answer ℕ
gpout_from scale whole fraction freqs (Some clock) =
    value (divided_hz scale (get_or freqs (clock_number clock) 0) (gpout_whole whole) fraction)
gpout_from scale whole fraction freqs None = refusal 23

-- The divided stored frequency of the source; 23 for an unknown source code or a whole part over the chip's greatest.
unfoldable pub gpout_of : Chip → ℕ → ℕ → ℕ → List ℕ → Answer ℕ
gpout_of chip source whole fraction freqs =
    pick (leb whole (facts_of chip).top_whole)
    (gpout_from (facts_of chip).scale whole fraction freqs (gpout_clock chip source))
    (refusal 23)

-- A divider names its chip, which fixes the width of its fraction.
abbrev pub gpout_in : GpoutDiv → ℕ → List ℕ → Answer ℕ
gpout_in (On2040 whole fraction) source freqs = gpout_of Rp2040 source whole fraction freqs
gpout_in (On235x whole fraction) source freqs = gpout_of Rp235x source whole fraction freqs
