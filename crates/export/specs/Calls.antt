-- Sequences of exported calls: the numbers and bytes that the caller holds after each, and the answers. The theorems are in
-- proofs/Calls (a runner), proofs/BenchCalls (a bench) and proofs/Sleeps (slots): after any calls the caller holds the numbers of
-- the runner, bench or slots after the same calls. What their numbers mean is in specs/State.
use Rattle.std.specs.Prelude.{Some, Bool, false, ◌≡◌, List, [], ◌∷◌, ℕ, zero, suc, ◌+◌, ◌*◌, ◌≤◌, ◌<◌, map, fold, eqb, length}
use Rattle.std.specs.Prelude.{get_or, drop, replicate}
use lib.Seq.{sets}
use Rattle.base.specs.Choice.{pick, bit}
use Rattle.config.specs.declared.ClockConfig.{ClockConfig}
use Rattle.settings.specs.{Settings.settings_of, Frequencies.ten_of}
use Rattle.sheet.specs.Writer.{sheet_bytes}
use Rattle.step.specs.Size.{bad_size}
use Rattle.runner.specs.{declared.Runner.Runner, Run.start_of, Run.lock_timeout, Calls.Call, Calls.call, Calls.flags_of}
use Rattle.boards.specs.{Bench.start_all_of, History.Own, History.start, History.poll, History.BenchEvent, History.own_of}
use Rattle.sleep.specs.{declared.Slot.Slot, declared.steps.Step.Step, Sleep.SleepOutcome, Sleep.wake_steps, Sleep.sleep_of}
use Rattle.sleep.specs.{Sleep.wake_of, History.SleepEvent, History.sleeps, History.wakes, History.writes, History.last_sleep}
use Rattle.numbers.specs.Bench.{runner_at, bench_in, bench_number, bench_leaves, start_all_leaves}
use Rattle.numbers.specs.Run.{runner_in, run_number, run_leaves, start_leaves}
use Rattle.numbers.specs.{Slots.slots_numbers, Slots.steps_numbers, SleepCall.asked_with, SleepCall.left_asked, SleepCall.SlotsCall}
use Rattle.bring_up.specs.{Wait.HearsAtMost, ComesUp.most_calls}

-- ---- a runner

-- a runner as its caller holds it: 15 numbers, and the kept bytes
pub record Held : Type 0 where
  pub numbers : List ℕ
  pub bytes : List ℕ

abbrev pub runner_of : Held → Runner
runner_of h = runner_in h.numbers h.bytes

-- encodes a runner as its numbers and bytes
abbrev pub held_of : Runner → Held
held_of r =
    let s = r.stepper.state in
    record {
      numbers = s.position ∷ s.lock_polls ∷ s.total ∷ bit s.stopped ∷ r.len ∷ r.stepper.freqs;
      bytes = r.kept;
    }

-- the numbers and bytes that `dizbaral_start` and `dizbaral_run` leave
abbrev pub call_leaves : Held → Own → Held
call_leaves h (start sheet) =
    let o = start_of (runner_of h) sheet in
    record { numbers = start_leaves o.answer h.numbers o.next.len; bytes = o.next.kept }
call_leaves h (poll sheet ready) =
    record { numbers = run_leaves h.numbers h.bytes sheet ready; bytes = h.bytes }

abbrev pub held_after : Held → List Own → Held
held_after = fold call_leaves

-- the answers of the calls of `dizbaral_run`
abbrev pub run_numbers : Held → List Own → List ℕ
run_numbers h [] = []
run_numbers h (start sheet ∷ es) = run_numbers (call_leaves h (start sheet)) es
run_numbers h (poll sheet ready ∷ es) =
    run_number h.numbers h.bytes sheet ready ∷ run_numbers (call_leaves h (poll sheet ready)) es

-- calls with any sheets, and calls with one sheet
abbrev pub polls : List Call → List Own
polls [] = []
polls (call sheet ready ∷ calls) = poll sheet ready ∷ polls calls

abbrev pub polls_with : List ℕ → List Bool → List Own
polls_with sheet = map (poll sheet)

-- whatever the runner was before an accepted start, and whatever sheets are handed in after it, the numbers and bytes are those
-- after the same calls with the sheet of the start alone
abbrev pub ExportedOneSheet : Type 0
ExportedOneSheet =
    (h : Held) (sheet : List ℕ) → bad_size (length sheet) ≡ false → (calls : List Call)
    → held_after h (start sheet ∷ polls calls) ≡ held_after h (start sheet ∷ polls_with sheet (flags_of sheet calls))

-- a start followed by a call for each ready flag
unfoldable pub held_from : Held → List ℕ → (ℕ → Bool) → ℕ → Held
held_from h sheet ready zero = call_leaves h (start sheet)
held_from h sheet ready (suc i) = call_leaves (held_from h sheet ready i) (poll sheet (ready i))

abbrev pub number_of : Held → List ℕ → (ℕ → Bool) → ℕ → ℕ
number_of h sheet ready i =
    run_number (held_from h sheet ready i).numbers (held_from h sheet ready i).bytes sheet (ready i)

-- `ComesUp` of exported calls: whatever the runner was before its start, with at most k unready polls at each wait the first
-- answer 0 follows at most `most_calls` calls, every later call answers 0, and the last ten numbers are then the stored values
pub record ExportedUp (p : ClockConfig) (reading : ℕ) (h : Held) (k : ℕ) (ready : ℕ → Bool) : Type 0 where
  pub calls : ℕ
  pub few : calls ≤ most_calls (settings_of p reading).chip.model k
  pub before : (i : ℕ) → i < calls → number_of h (sheet_bytes p reading) ready i ≡ 0 → ⊥
  pub ends : (i : ℕ) → calls ≤ i → number_of h (sheet_bytes p reading) ready i ≡ 0
  pub holds : (i : ℕ) → calls ≤ i
      → drop 5 (held_from h (sheet_bytes p reading) ready i).numbers ≡ ten_of (settings_of p reading)

abbrev pub ExportedComesUp : ClockConfig → ℕ → Type 0
ExportedComesUp p reading =
    (h : Held) (k : ℕ) → k < lock_timeout → (ready : ℕ → Bool) → HearsAtMost k (sheet_bytes p reading) ready
    → ExportedUp p reading h k ready

-- ---- a bench: 113 numbers, and the kept bytes

-- the eight marks are 1 or 0
pub record IsBench (ns : List ℕ) : Type 0 where
  pub all : length ns ≡ 113
  pub marked : (n : ℕ) → n ≤ 7 → get_or ns (14 * n + 3) 0 ≤ 1

-- the numbers and bytes that `dizbaral_bench_start` and `dizbaral_bench_run` leave
abbrev pub bench_call_leaves : Held → BenchEvent → Held
bench_call_leaves h (BenchEvent.start sheet) =
    let o = start_all_of (bench_in h.numbers h.bytes) sheet in
    record { numbers = start_all_leaves o.answer h.numbers o.next.len; bytes = o.next.kept }
bench_call_leaves h (BenchEvent.poll n sheet ready) =
    record { numbers = bench_leaves h.numbers h.bytes n sheet ready; bytes = h.bytes }

abbrev pub bench_held_after : Held → List BenchEvent → Held
bench_held_after = fold bench_call_leaves

-- the answers of the calls for board n
abbrev pub bench_numbers : ℕ → Held → List BenchEvent → List ℕ
bench_numbers n h [] = []
bench_numbers n h (BenchEvent.start sheet ∷ es) = bench_numbers n (bench_call_leaves h (BenchEvent.start sheet)) es
bench_numbers n h (BenchEvent.poll m sheet ready ∷ es) =
    let rest = bench_numbers n (bench_call_leaves h (BenchEvent.poll m sheet ready)) es in
    pick (eqb m n) (bench_number h.numbers h.bytes m sheet ready ∷ rest) rest

-- `AsSingle` of exported calls, for a bench h and a runner g that are started with the same sheet, whatever both were: board n
-- answers as the runner does over the board's own calls, and the board's numbers are the runner's fifteen
pub record ExportedSingle (n : ℕ) (h g : Held) (sheet : List ℕ) (es : List BenchEvent) : Type 0 where
  pub answered : bench_numbers n h (BenchEvent.start sheet ∷ es) ≡ run_numbers g (start sheet ∷ own_of n es)
  pub numbers :
      runner_at (bench_held_after h (BenchEvent.start sheet ∷ es)).numbers n ≡ (held_after g (start sheet ∷ own_of n es)).numbers
  pub bytes : (bench_held_after h (BenchEvent.start sheet ∷ es)).bytes ≡ (held_after g (start sheet ∷ own_of n es)).bytes

-- `SameBoard` of exported calls, for two benches h and d that are started with the same sheet
pub record ExportedSame (n : ℕ) (h d : Held) (sheet : List ℕ) (es fs : List BenchEvent) : Type 0 where
  pub answered : bench_numbers n h (BenchEvent.start sheet ∷ es) ≡ bench_numbers n d (BenchEvent.start sheet ∷ fs)
  pub numbers :
      runner_at (bench_held_after h (BenchEvent.start sheet ∷ es)).numbers n
      ≡ runner_at (bench_held_after d (BenchEvent.start sheet ∷ fs)).numbers n

-- ---- the four slots: 48 numbers

-- the slots that `dizbaral_sleep` and `dizbaral_wake` leave
abbrev pub slots_left : (List Slot → ℕ → List ℕ → SleepOutcome) → List ℕ → ℕ → List ℕ → List ℕ
slots_left change slots slot words =
    left_asked (asked_with change slots slot words) (λ (o : SleepOutcome) (s : List Step). slots_numbers o.slots) slots

-- the slots after a history that starts from zeros, the latest event first
unfoldable pub slots_after : List SleepEvent → List ℕ
slots_after [] = replicate 48 0
slots_after (sleeps slot ws ∷ h) = slots_left sleep_of (slots_after h) slot ws
slots_after (wakes slot ws ∷ h) = slots_left wake_of (slots_after h) slot ws
slots_after (writes i v ∷ h) = slots_after h

-- each call is given eleven words
abbrev pub Elevens : List SleepEvent → Type 0
Elevens [] = Unit {0}
Elevens (sleeps slot ws ∷ h) = (length ws ≡ 11) × Elevens h
Elevens (wakes slot ws ∷ h) = (length ws ≡ 11) × Elevens h
Elevens (writes i v ∷ h) = Elevens h

-- `Restores` of exported calls: after any history, a wake in a slot whose last sleep was given the words ws returns them, and its
-- steps write them
pub record ExportedRestores (ws slots words steps slots' words' steps' : List ℕ) : Type 0 where
  pub words_back : words' ≡ ws
  pub slots_kept : slots' ≡ slots
  pub written : steps' ≡ sets steps 0 (steps_numbers (wake_steps ws))

abbrev pub ExportedWakes : Type 0
ExportedWakes =
    (h : List SleepEvent) → Elevens h → (slot : ℕ) → slot < 4 → (ws : List ℕ) → last_sleep h slot ≡ Some ws → length ws ≡ 11
    → (words steps slots' words' steps' : List ℕ) (r : ℕ) → length words ≡ 11
    → SlotsCall (asked_with wake_of (slots_after h) slot words) (slots_after h) words steps r slots' words' steps'
    → ExportedRestores ws (slots_after h) words steps slots' words' steps'
