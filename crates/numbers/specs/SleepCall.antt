-- Sleep and wake (docs/SLEEP.md) over four slots, eleven words and the steps, all given as numbers (specs/Slots).
use Rattle.std.specs.Prelude.{Option, Some, None, ◌≡◌, Bool, ◌&&◌, ◌||◌, List, ℕ, leb, ltb, get_or}
use lib.Seq.{sets}
use Rattle.base.specs.{Choice.pick, Placed.past}
use Rattle.sleep.specs.{declared.Slot.Slot, declared.steps.Step.Step, Sleep.SleepOutcome}
use Rattle.numbers.specs.Slots.{words_at, slots_in, slots_numbers, steps_numbers}
use Rattle.numbers.specs.Answers.{answer_number, left_by, given_number, left_given}

-- each of the four flags is 0 or 1; other numbers are of no slots
abbrev pub are_slots : List ℕ → Bool
are_slots ns = ((leb (get_or ns 0 0) 1 && leb (get_or ns 12 0) 1) && leb (get_or ns 24 0) 1) && leb (get_or ns 36 0) 1

-- a call with numbers; none where they are of no slots, but refusal 29 precedes that test
abbrev pub asked_with : (List Slot → ℕ → List ℕ → SleepOutcome) → List ℕ → ℕ → List ℕ → Option SleepOutcome
asked_with call slots slot words =
    pick (ltb 3 slot || are_slots slots) (Some (call (slots_in slots 0) slot (words_at words 0))) None

-- the count of numbers written for the steps, two for each step
abbrev pub steps_number : Option SleepOutcome → List ℕ → ℕ
steps_number asked steps = given_number (λ o. answer_number (λ (s : List Step). past steps 0 (steps_numbers s)) o.answer) asked

-- the numbers after the call, with those of its outcome and its steps written over the old ones
abbrev pub left_asked : Option SleepOutcome → (SleepOutcome → List Step → List ℕ) → List ℕ → List ℕ
left_asked asked f = left_given (λ o. left_by (λ s numbers. sets numbers 0 (f o s)) o.answer) asked

-- the call's contract: its answer r, and all numbers after it
pub record SlotsCall (o : Option SleepOutcome) (slots words steps : List ℕ) (r : ℕ) (slots' words' steps' : List ℕ) : Type 0
  where
    pub answer : r ≡ steps_number o steps
    pub slots_left : slots' ≡ left_asked o (λ (o : SleepOutcome) (s : List Step). slots_numbers o.slots) slots
    pub words_left : words' ≡ left_asked o (λ (o : SleepOutcome) (s : List Step). o.words) words
    pub steps_left : steps' ≡ left_asked o (λ (o : SleepOutcome) (s : List Step). steps_numbers s) steps
