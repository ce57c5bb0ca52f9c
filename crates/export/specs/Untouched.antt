-- A refusal leaves what was lent unchanged, for every exported call that may write: where the answer is a refusal or malformed,
-- each lent number and byte keeps its value. The one exception is the lock timeout of `dizbaral_run` and `dizbaral_bench_run`,
-- the first refusal 22 of a run.
use Rattle.std.specs.Prelude.{Option, Bool, ◌≡◌, ◌⊎◌, List, ℕ, ◌+◌, ◌^◌, ◌≤◌, ◌<◌, length, get_or, set}
use Rattle.base.specs.Answer.{Answer}
use Rattle.chip.specs.declared.Chip.{Chip}
use Rattle.config.specs.declared.ClockConfig.{ClockConfig}
use Rattle.runner.specs.{Run.one_more, Calls.stepper_timed_out}
use Rattle.sleep.specs.Sleep.{SleepOutcome}
use Rattle.lister.specs.Lister.{listed_of, listed_in}
use Rattle.margin.specs.Margin.{margin_of}
use Rattle.numbers.specs.Answers.{refusals, itself, answer_number, done, limits_after}
use Rattle.numbers.specs.Bench.{stepper_at, with_board, bench_number, bench_leaves, StartAllCall}
use Rattle.numbers.specs.{Run.run_number, Run.run_leaves, Run.StartCall, SleepCall.SlotsCall, Read.RowCall, Access.AccessCall}
use Rattle.export.specs.{Sheet.SheetCall, Plan.PlanCall}

-- an answer that is a refusal or malformed; values are below this range, the words of steps above it
abbrev pub Refused : ℕ → Type 0
Refused r = (refusals ≤ r) × (r < 2 ^ 58)

-- the numbers stay, or the answer r is refusal 22 and they are those after the timeout
abbrev pub SaveTimeout : ℕ → List ℕ → List ℕ → List ℕ → Type 0
SaveTimeout r before after timed_out = (after ≡ before) ⊎ ((r ≡ refusals + 22) × (after ≡ timed_out))

-- the lock timeout sets the stopped mark and adds 1 to the total, which saturates
abbrev pub timed_out_numbers : List ℕ → List ℕ
timed_out_numbers ns = set (set ns 2 (one_more (get_or ns 2 0))) 3 1

pub record Untouched : Type 1 where
  -- `dizbaral_run`, and `dizbaral_bench_run` for any board number, even one over 7
  pub run : (ns kept sheet : List ℕ) (ready : Bool) → length ns ≡ 15 → Refused (run_number ns kept sheet ready)
      → SaveTimeout (run_number ns kept sheet ready) ns (run_leaves ns kept sheet ready) (timed_out_numbers ns)
  pub bench_run : (ns kept : List ℕ) (n : ℕ) (sheet : List ℕ) (ready : Bool) → Refused (bench_number ns kept n sheet ready)
      → SaveTimeout (bench_number ns kept n sheet ready) ns (bench_leaves ns kept n sheet ready)
      (with_board n (stepper_timed_out (stepper_at ns n)) ns)
  -- `dizbaral_start`, `dizbaral_bench_start`
  pub start : (ns kept sheet : List ℕ) {r : ℕ} {ns' kept' : List ℕ} → StartCall ns kept sheet r ns' kept' → Refused r
      → (ns' ≡ ns) × (kept' ≡ kept)
  pub bench_start : (ns kept sheet : List ℕ) {r : ℕ} {ns' kept' : List ℕ} → StartAllCall ns kept sheet r ns' kept' → Refused r
      → (ns' ≡ ns) × (kept' ≡ kept)
  -- `dizbaral_system_sheet`, `dizbaral_system_sheet_from`, `dizbaral_plan_sheet`
  pub sheets : (plan : Option (Answer ClockConfig)) {reading r : ℕ} {before after : List ℕ}
      → SheetCall plan reading before r after → Refused r → after ≡ before
  -- `dizbaral_list`, `dizbaral_target_margin`, `dizbaral_read_sheet`
  pub list : (input target : ℕ) (before : List ℕ) → Refused (answer_number itself (listed_of input target (length before)))
      → listed_in input target before ≡ before
  pub margin : (input target : ℕ) (before : List ℕ) → Refused (answer_number done (margin_of input target))
      → limits_after (margin_of input target) before ≡ before
  pub read_sheet : (read : Answer ClockConfig) {before after : List ℕ} {r : ℕ} → RowCall read before r after → Refused r
      → after ≡ before
  -- the presets
  pub presets : (plan : Option (Answer ClockConfig)) {before after : List ℕ} {r : ℕ} → PlanCall plan before r after → Refused r
      → after ≡ before
  -- `dizbaral_access`
  pub access : (chip : Option Chip) (sheet : List ℕ) (position : ℕ) {before after : List ℕ} {r : ℕ}
      → AccessCall chip sheet position before r after → Refused r → after ≡ before
  -- `dizbaral_sleep`, `dizbaral_wake`
  pub slots : (o : Option SleepOutcome) {slots words steps slots' words' steps' : List ℕ} {r : ℕ} → length steps ≡ 28
      → SlotsCall o slots words steps r slots' words' steps' → Refused r
      → (slots' ≡ slots) × (words' ≡ words) × (steps' ≡ steps)
