-- The refusal of settings is 18 exactly where the reading is over the chip's greatest; otherwise there is none or one of 1 to 14.
use Rattle.std.specs.Prelude.{◌≡◌, Bool, true, false, List, [], ◌∷◌, Some, ℕ, ◌≤◌, ◌<◌, drop}
use native.Mathlib.{Omega.arith, Decide.dec_le}
use borrow.Author.Tests.{lt-ltb, le-ltb}
use Rattle.base.specs.{declared.refusal.Refusal.Refusal, Refusals.number_of}
use Rattle.chip.specs.Chips.{facts_of}
use Rattle.settings.specs.{declared.Settings.Settings, Frequencies.frequencies_of}
use Rattle.refusals.specs.Refusals.{tests_of, first, refusal_of}
use Rattle.base.specs.declared.refusal.Refusal.TheVariants as why

abbrev pub top : Settings → ℕ
top s = (facts_of s.chip.model).top_reading

pub record Numbered (s : Settings) (reading : ℕ) : Type 0 where
  pub over : top s < reading → refusal_of s reading ≡ Some why.VoltageReading
  pub only-over : refusal_of s reading ≡ Some why.VoltageReading → top s < reading
  pub others : reading ≤ top s → (reason : Refusal) → refusal_of s reading ≡ Some reason
      → (1 ≤ number_of reason) × (number_of reason ≤ 14)

-- Every number of the list is 1 to 14.
abbrev Low : List (Refusal × Bool) → Type 0
Low [] = Unit {0}
Low ((reason, test) ∷ rest) = (1 ≤ number_of reason) × (number_of reason ≤ 14) × Low rest

first-low : (tests : List (Refusal × Bool)) → Low tests → (reason : Refusal) → first tests ≡ Some reason
    → (1 ≤ number_of reason) × (number_of reason ≤ 14)
first-low [] h reason e = absurd cc
first-low ((held, true) ∷ rest) h reason e = let same : held ≡ reason = cc in rw (← same) (h.0, h.1)
first-low ((held, false) ∷ rest) h reason e = first-low rest h.2 reason e

pub refusal-numbers : (s : Settings) (reading : ℕ) → Numbered s reading
unfolding refusal_of
refusal-numbers s reading = record { over = over; only-over = only-over; others = others }
  where
    over : top s < reading → refusal_of s reading ≡ Some why.VoltageReading
    over h = rw (lt-ltb (top s) reading h)

    others : reading ≤ top s → (reason : Refusal) → refusal_of s reading ≡ Some reason
        → (1 ≤ number_of reason) × (number_of reason ≤ 14)
    others h =
        rw (le-ltb (top s) reading h) (first-low (drop 1 (tests_of s (frequencies_of s) reading)) (omega arith))

    only-over : refusal_of s reading ≡ Some why.VoltageReading → top s < reading
    only-over e = go (dec_le reading (top s))
      where
        go : Dec (reading ≤ top s) → top s < reading
        go (yes h) = absurd (omega (arith, (others h why.VoltageReading e).1))
        go (no h) = omega arith
