-- Sleep and wake (docs/SLEEP.md): their answers, and the words and slots after them.
use Rattle.std.specs.Prelude.{ℕ, Bool, true, false, List, [], ◌∷◌, ◌++◌, map, ltb, get_or, set, replicate}
use Rattle.base.specs.{Answer.Answer, Answer.value, Answer.refusal, Choice.pick, Bounded.Bounded}
use Rattle.sleep.specs.declared.steps.Step.TheVariants.{Write, RingStable, CrystalStable, Locked}
use Rattle.sleep.specs.{declared.register.Register.Register, declared.steps.Step.Step, declared.Slot.Slot, Registers.number_of}
use Rattle.sleep.specs.{Bits.pll_runs, Bits.crystal_runs, Words.word_in, Words.asleep}
use Rattle.step.specs.declared.clock.Pll.TheVariants.{Sys, Usb}
use Rattle.sleep.specs.declared.register.Register.TheVariants as reg

-- the outcome of a call: its steps or a refusal, and the words and slots after it
pub record SleepOutcome : Type 0 where
  pub answer : Answer (List Step)
  pub words : List ℕ
  pub slots : List Slot

-- the steps that the list of an answer holds
abbrev pub steps_held : Answer (Bounded Step) → Answer (List Step)
steps_held (value steps) = value steps.list
steps_held (refusal n) = refusal n

abbrev pub outcome : Answer (Bounded Step) → List ℕ → List Slot → SleepOutcome
outcome answer ws slots = record { answer = steps_held answer; words = ws; slots = slots }

-- the steps of an answer; a refusal has none
abbrev pub answer_steps : Answer (List Step) → List Step
answer_steps (value steps) = steps
answer_steps (refusal n) = []

-- ---- the steps, to the words ws

-- the word of a register, written to it
abbrev pub write : List ℕ → Register → Step
write ws r = Write r (word_in ws (number_of r))

abbrev pub writes : List ℕ → List Register → List Step
writes ws rs = map (write ws) rs

-- into sleep: from the first register to the last; the ring is stable before any clock runs from it
unfoldable pub sleep_steps : List ℕ → List Step
sleep_steps ws =
    writes ws (reg.AdcCtrl ∷ reg.UsbCtrl ∷ reg.PeriCtrl ∷ reg.RoscCtrl ∷ reg.RoscDiv ∷ [])
    ++ (RingStable
    ∷ writes ws (reg.RefCtrl ∷ reg.SysCtrl ∷ reg.PllSysPwr ∷ reg.PllUsbPwr ∷ reg.XoscCtrl ∷ reg.XipCtrl ∷ []))

-- a wait, if what it waits for was running
abbrev pub wait_if : Bool → Step → List Step
wait_if running wait = pick running (wait ∷ []) []

-- out of sleep: from the last register to the first, but ring control before ring divider
unfoldable pub wake_steps_by : List ℕ → Bool → Bool → Bool → List Step
wake_steps_by ws crystal usb sys =
    writes ws (reg.XipCtrl ∷ reg.XoscCtrl ∷ [])
    ++ (wait_if crystal CrystalStable
    ++ (write ws reg.PllUsbPwr ∷ (wait_if usb (Locked Usb)
    ++ (write ws reg.PllSysPwr ∷ (wait_if sys (Locked Sys)
    ++ writes ws (reg.SysCtrl ∷ reg.RefCtrl ∷ reg.RoscCtrl ∷ reg.RoscDiv ∷ reg.PeriCtrl ∷ reg.UsbCtrl ∷ reg.AdcCtrl ∷ []))))))

-- a wake waits exactly for what was running
abbrev pub wake_steps : List ℕ → List Step
wake_steps ws = wake_steps_by ws (crystal_runs (word_in ws 9)) (pll_runs (word_in ws 8)) (pll_runs (word_in ws 7))

-- ---- the calls: they take the four slots, the number of a slot and the words handed in

abbrev pub unsaved : Slot
unsaved = record { saved = false; words = replicate 11 0 }

abbrev pub saved : List ℕ → Slot
saved ws = record { saved = true; words = ws }

abbrev pub fresh_slots : List Slot
fresh_slots = replicate 4 unsaved

-- the slot with this number; the filler past the fourth is never read
abbrev pub slot_at : List Slot → ℕ → Slot
slot_at slots i = get_or slots i (record { saved = false; words = [] })

-- a refusal changes nothing
abbrev pub refused_call : List Slot → List ℕ → ℕ → SleepOutcome
refused_call slots ws n = record { answer = refusal n; words = ws; slots = slots }

abbrev pub slept : List Slot → ℕ → List ℕ → SleepOutcome
slept slots slot ws =
    record { answer = value (sleep_steps (asleep ws)); words = asleep ws; slots = set slots slot (saved ws) }

unfoldable pub sleep_of : List Slot → ℕ → List ℕ → SleepOutcome
sleep_of slots slot ws = pick (ltb 3 slot) (refused_call slots ws 29) (slept slots slot ws)

-- the saved words come back, and stay saved
abbrev pub woken : List Slot → List ℕ → SleepOutcome
woken slots ws = record { answer = value (wake_steps ws); words = ws; slots = slots }

abbrev pub woken_from : List Slot → Slot → List ℕ → SleepOutcome
woken_from slots held ws = pick held.saved (woken slots held.words) (refused_call slots ws 30)

unfoldable pub wake_of : List Slot → ℕ → List ℕ → SleepOutcome
wake_of slots slot ws = pick (ltb 3 slot) (refused_call slots ws 29) (woken_from slots (slot_at slots slot) ws)
