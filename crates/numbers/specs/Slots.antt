-- Slots and steps as numbers (docs/SLEEP.md, As numbers).
use Rattle.std.specs.Prelude.{List, [], ◌∷◌, ℕ, ◌+◌, eqb, flat_map}
use Rattle.base.specs.Choice.{bit}
use Rattle.numbers.specs.Fields.{nth}
use Rattle.sleep.specs.declared.steps.Step.TheVariants.{Write, RingStable, CrystalStable, Locked, Numbered}
use Rattle.sleep.specs.{declared.Slot.Slot, declared.steps.Step.Step, Registers.number_of}
use Rattle.step.specs.Clocks.{pll_number}

-- ---- read

-- eleven words from index i on
abbrev pub words_at : List ℕ → ℕ → List ℕ
words_at n i =
    nth n i ∷ nth n (i + 1) ∷ nth n (i + 2) ∷ nth n (i + 3) ∷ nth n (i + 4) ∷ nth n (i + 5)
    ∷ nth n (i + 6) ∷ nth n (i + 7) ∷ nth n (i + 8) ∷ nth n (i + 9) ∷ nth n (i + 10) ∷ []

-- a slot is a flag, 1 where it is saved, followed by eleven words
abbrev pub slot_in : List ℕ → ℕ → Slot
slot_in n i = record { saved = eqb (nth n i) 1; words = words_at n (i + 1) }

abbrev pub slots_in : List ℕ → ℕ → List Slot
slots_in n i = slot_in n i ∷ slot_in n (i + 12) ∷ slot_in n (i + 24) ∷ slot_in n (i + 36) ∷ []

-- ---- written

abbrev pub slot_numbers : Slot → List ℕ
slot_numbers s = bit s.saved ∷ s.words

abbrev pub slots_numbers : List Slot → List ℕ
slots_numbers slots = flat_map slot_numbers slots

-- a step is two numbers: a register and its value, or the code of what is waited for and 0
abbrev pub step_numbers : Step → List ℕ
step_numbers (Write r v) = number_of r ∷ v ∷ []
step_numbers RingStable = 11 ∷ 0 ∷ []
step_numbers CrystalStable = 12 ∷ 0 ∷ []
step_numbers (Locked pll) = (13 + pll_number pll) ∷ 0 ∷ []
step_numbers (Numbered code v) = code ∷ v ∷ []

-- the numbers of each step, one after another
abbrev pub steps_numbers : List Step → List ℕ
steps_numbers steps = flat_map step_numbers steps
