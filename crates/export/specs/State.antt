-- What the numbers that a caller holds mean: a runner, a bench or slots read back from their numbers as themselves, numbers that are
-- read and written again are the same, and all zeros are the value before any call. A mark is 1 or 0.
use Rattle.std.specs.Prelude.{true, ◌≡◌, List, [], ◌∷◌, ◌++◌, ℕ, ◌≤◌, flat_map, All, length, get_or, replicate}
use Rattle.step.specs.Sheet.{max_bytes}
use Rattle.runner.specs.{declared.Runner.Runner, declared.Stepper.Stepper, Run.fresh}
use Rattle.boards.specs.{declared.Bench.Bench, Bench.fresh_bench}
use Rattle.sleep.specs.{declared.Slot.Slot, Sleep.fresh_slots}
use Rattle.numbers.specs.{Bench.bench_in, Bench.board_numbers, Slots.slots_in, Slots.slots_numbers, SleepCall.are_slots}
use Rattle.export.specs.Calls.{Held, runner_of, held_of, IsBench}

-- ---- a bench

-- the bench that numbers and bytes hold
abbrev pub bench_held : Held → Bench
bench_held h = bench_in h.numbers h.bytes

-- encodes a bench: 14 numbers for each board, then the kept length
abbrev pub held_bench : Bench → Held
held_bench b = record { numbers = flat_map board_numbers b.boards ++ (b.len ∷ []); bytes = b.kept }

-- eight boards, each with ten frequencies
pub record EightBoards (b : Bench) : Type 0 where
  pub eight : length b.boards ≡ 8
  pub ten : All (λ (s : Stepper). length s.freqs ≡ 10) b.boards

-- ---- slots

-- 48 numbers, of which the four flags are 1 or 0
pub record IsSlots (ns : List ℕ) : Type 0 where
  pub all : length ns ≡ 48
  pub flags : are_slots ns ≡ true

-- four slots, each with eleven words
pub record FourSlots (slots : List Slot) : Type 0 where
  pub four : length slots ≡ 4
  pub eleven : All (λ (s : Slot). length s.words ≡ 11) slots

-- ---- all three

pub record StateMeans : Type 0 where
  pub runner : (r : Runner) → runner_of (held_of r) ≡ r
  pub runner_again : (h : Held) → length h.numbers ≡ 15 → get_or h.numbers 3 0 ≤ 1 → held_of (runner_of h) ≡ h
  pub runner_fresh : runner_of (record { numbers = replicate 15 0; bytes = replicate max_bytes 0 }) ≡ fresh
  pub bench : (b : Bench) → EightBoards b → bench_held (held_bench b) ≡ b
  pub bench_again : (h : Held) → IsBench h.numbers → held_bench (bench_held h) ≡ h
  pub bench_fresh : bench_held (record { numbers = replicate 113 0; bytes = replicate max_bytes 0 }) ≡ fresh_bench
  pub slots : (s : List Slot) → FourSlots s → slots_in (slots_numbers s) 0 ≡ s
  pub slots_again : (ns : List ℕ) → IsSlots ns → slots_numbers (slots_in ns 0) ≡ ns
  pub slots_fresh : slots_in (replicate 48 0) 0 ≡ fresh_slots
