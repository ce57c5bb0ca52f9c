-- The registers and the slots after any history of sleeps, wakes and other register writes (docs/SLEEP.md).
use Rattle.std.specs.Prelude.{ℕ, ◌<◌, Option, Some, None, ◌≡◌, List, [], ◌∷◌, ltb, eqb, length, set}
use Rattle.base.specs.Choice.{pick}
use Rattle.sleep.specs.declared.steps.Step.TheVariants.{Write, RingStable, CrystalStable, Locked, Numbered}
use Rattle.sleep.specs.Sleep.{SleepOutcome, answer_steps, fresh_slots, refused_call, woken, sleep_of, wake_of}
use Rattle.sleep.specs.{declared.steps.Step.Step, declared.Slot.Slot, Registers.number_of}

-- ---- the steps of an answer

-- the registers after a step: a write sets one, a wait none; a step by its numbers is a write where the first is a register's
abbrev pub written : Step → List ℕ → List ℕ
written (Write r v) ws = set ws (number_of r) v
written RingStable ws = ws
written CrystalStable ws = ws
written (Locked pll) ws = ws
written (Numbered code v) ws = set ws code v

abbrev pub replayed : List Step → List ℕ → List ℕ
replayed [] ws = ws
replayed (s ∷ steps) ws = replayed steps (written s ws)

-- the registers that are written, in order
abbrev pub order : List Step → List ℕ
order [] = []
order (Write r v ∷ steps) = number_of r ∷ order steps
order (RingStable ∷ steps) = order steps
order (CrystalStable ∷ steps) = order steps
order (Locked pll ∷ steps) = order steps
order (Numbered code v ∷ steps) = pick (ltb code 11) (code ∷ order steps) (order steps)

-- the waits, in order
abbrev pub wait_steps : List Step → List Step
wait_steps [] = []
wait_steps (Write r v ∷ steps) = wait_steps steps
wait_steps (RingStable ∷ steps) = RingStable ∷ wait_steps steps
wait_steps (CrystalStable ∷ steps) = CrystalStable ∷ wait_steps steps
wait_steps (Locked pll ∷ steps) = Locked pll ∷ wait_steps steps
wait_steps (Numbered code v ∷ steps) = pick (ltb code 11) (wait_steps steps) (Numbered code v ∷ wait_steps steps)

-- ---- a history

-- the eleven registers and the slots
pub record Board : Type 0 where
  pub slots : List Slot
  pub registers : List ℕ

-- a sleep or a wake, with the slot and the words handed in; or another write of a register
pub data SleepEvent : Type 0 where
  sleeps : ℕ → List ℕ → SleepEvent
  wakes : ℕ → List ℕ → SleepEvent
  writes : ℕ → ℕ → SleepEvent

-- the board after a call: the slots are those of the outcome, and its steps are carried out
abbrev pub moved : Board → SleepOutcome → Board
moved b o = record { slots = o.slots; registers = replayed (answer_steps o.answer) b.registers }

unfoldable pub happens : SleepEvent → Board → Board
happens (sleeps slot ws) b = moved b (sleep_of b.slots slot ws)
happens (wakes slot ws) b = moved b (wake_of b.slots slot ws)
happens (writes i v) b = record { slots = b.slots; registers = set b.registers i v }

-- a history from fresh slots and any registers, the latest event first
unfoldable pub board_after : List ℕ → List SleepEvent → Board
board_after registers [] = record { slots = fresh_slots; registers = registers }
board_after registers (e ∷ h) = happens e (board_after registers h)

-- the words handed to the last sleep in a slot
unfoldable pub last_sleep : List SleepEvent → ℕ → Option (List ℕ)
last_sleep [] slot = None
last_sleep (sleeps at ws ∷ h) slot = pick (eqb at slot) (Some ws) (last_sleep h slot)
last_sleep (wakes at ws ∷ h) slot = last_sleep h slot
last_sleep (writes i v ∷ h) slot = last_sleep h slot

-- the outcome of a wake after the last sleep in its slot
abbrev pub wake_from : Option (List ℕ) → List Slot → List ℕ → SleepOutcome
wake_from (Some ws) slots handed = woken slots ws
wake_from None slots handed = refused_call slots handed 30

-- After any history, and for any words handed in, a wake answers the words of the last sleep in its slot, and the
-- registers hold them after it. It is refused with 30 where there was no sleep, and with 29 for a slot over 3.
pub record Restores (registers : List ℕ) (h : List SleepEvent) (slot : ℕ) (handed : List ℕ) : Type 0 where
  pub answers :
      wake_of (board_after registers h).slots slot handed
      ≡ pick (ltb 3 slot) (refused_call (board_after registers h).slots handed 29)
      (wake_from (last_sleep h slot) (board_after registers h).slots handed)
  pub restores : (ws : List ℕ) → slot < 4 → last_sleep h slot ≡ Some ws → length ws ≡ 11
      → (board_after registers (wakes slot handed ∷ h)).registers ≡ ws
