-- The answers of the cases that lend a buffer, a runner, a bench or slots, from the row n of their numbers (docs/CASES.md). The
-- words of a case are named above its definition.
use Rattle.std.specs.Prelude.{Option, Some, None, Bool, List, [], ◌++◌, ℕ, ◌-◌, eqb, ltb, length, take, drop, replicate}
use lib.Seq.{sets}
use Rattle.base.specs.{Answer.Answer, Choice.pick}
use Rattle.chip.specs.declared.Chip.{Chip, TheVariants.Rp2040, TheVariants.Rp235x}
use Rattle.config.specs.declared.ClockConfig.{ClockConfig}
use Rattle.lister.specs.Lister.{listed_of, listed_in}
use Rattle.sleep.specs.{Sleep.SleepOutcome, Sleep.sleep_of, Sleep.wake_of, declared.steps.Step.Step}
use Rattle.numbers.specs.Fields.{nth, byte_at, half_at, room_at, pll_at, ten_at}
use Rattle.numbers.specs.Answers.{answer_number, itself, malformed, chip_numbered, divider_numbered, gpout_number}
use Rattle.numbers.specs.{Slots.slots_numbers, Slots.steps_numbers, Manual.manual_by_code, Run.runner_in, Run.run_number}
use Rattle.numbers.specs.{Run.run_leaves, Run.go_number, Run.start_leaves, Bench.bench_in, Bench.bench_number, Bench.bench_leaves}
use Rattle.numbers.specs.{Bench.start_all_leaves, SleepCall.asked_with, SleepCall.steps_number, SleepCall.left_asked}
use Rattle.runner.specs.Run.{start_of}
use Rattle.boards.specs.Bench.{start_all_of}
use Rattle.export.specs.Sheet.{sheet_number, sheet_buffer, plan_on}
use Rattle.cases.specs.{Said.call_text, Say.one_text, Say.written_text, Say.planned_text}

-- 0 is the RP2040, 1 the RP235x
abbrev pub chip_at : List ℕ → Chip
chip_at n = pick (eqb (nth n 0) 1) Rp235x Rp2040

-- a lent buffer has as many bytes as the case asks for, each 0xEE before the call
abbrev pub lent : ℕ → List ℕ
lent room = replicate room 238

-- count numbers from index i on, 0 past the end
abbrev pub part : ℕ → ℕ → List ℕ → List ℕ
part count i n = sets (replicate count 0) 0 (drop i n)

-- CHIP SOURCE WHOLE FRACTION F0 to F9
abbrev pub gpout_text : List ℕ → List ℕ
gpout_text n =
    one_text (gpout_number (divider_numbered (nth n 2) (half_at n 3) (chip_numbered (byte_at n 0))) (byte_at n 1) (ten_at n 4))

-- INPUT TARGET ROOM
abbrev pub list_in : ℕ → ℕ → List ℕ → List ℕ
list_in input target buffer =
    written_text (answer_number itself (listed_of input target (length buffer))) (listed_in input target buffer)

unfoldable pub list_text : List ℕ → List ℕ
list_text n = list_in (nth n 0) (nth n 1) (lent (room_at n 2))

-- HZ REFDIV FBDIV POST1 POST2 CODE; malformed for a code that no voltage has
abbrev pub plan_or_malformed : Option (Answer ClockConfig) → List ℕ
plan_or_malformed (Some plan) = planned_text plan
plan_or_malformed None = one_text malformed

abbrev pub manual_text : List ℕ → List ℕ
manual_text n = plan_or_malformed (manual_by_code (nth n 0) (pll_at n 1) (byte_at n 5))

-- READING ROOM CHIP PLAN
abbrev pub plan_at : List ℕ → ℕ → List ℕ
plan_at n count = pick (ltb count 3) [] (pick (ltb (length n) count) [] (take (count - 3) (drop 3 n)))

abbrev pub sheet_in : Option (Answer ClockConfig) → ℕ → List ℕ → List ℕ
sheet_in plan reading buffer = written_text (sheet_number plan reading buffer) (sheet_buffer plan reading buffer)

unfoldable pub sheet_text : List ℕ → ℕ → List ℕ
sheet_text n count = sheet_in (plan_on (plan_at n count) (chip_numbered (byte_at n 2))) (byte_at n 0) (lent (room_at n 1))

-- the answer r, the numbers, which hold the kept length at index i, and the kept bytes
abbrev pub kept_text : ℕ → ℕ → List ℕ → List ℕ → List ℕ
kept_text i r numbers kept = call_text r numbers (take (nth numbers i) kept)

-- SHEET KEPT, the runner's 15 numbers; the answer includes the kept bytes

unfoldable pub start_text : List ℕ → List ℕ → List ℕ → List ℕ
start_text n kept sheet =
    let o = start_of (runner_in (part 15 2 n) kept) sheet in
    kept_text 4 (answer_number go_number o.answer) (start_leaves o.answer (part 15 2 n) o.next.len) o.next.kept

-- SHEET KEPT READY, the runner's 15 numbers
unfoldable pub run_text : List ℕ → List ℕ → List ℕ → List ℕ
run_text n kept sheet =
    let ready = eqb (nth n 2) 1 in
    call_text (run_number (part 15 3 n) kept sheet ready) (run_leaves (part 15 3 n) kept sheet ready) []

-- SHEET KEPT BOARD, which a start ignores, the bench's 113 numbers; the answer includes the kept bytes
unfoldable pub bench_start_of : List ℕ → List ℕ → List ℕ → List ℕ
bench_start_of bench kept sheet =
    let o = start_all_of (bench_in bench kept) sheet in
    kept_text 112 (answer_number go_number o.answer) (start_all_leaves o.answer bench o.next.len) o.next.kept

abbrev pub bench_start_text : List ℕ → List ℕ → List ℕ → List ℕ
bench_start_text n kept sheet = bench_start_of (part 113 3 n) kept sheet

-- SHEET KEPT BOARD READY, the bench's 113 numbers
unfoldable pub bench_run_text : List ℕ → List ℕ → List ℕ → List ℕ
bench_run_text n kept sheet =
    let board = byte_at n 2 in
    let ready = eqb (nth n 3) 1 in
    call_text (bench_number (part 113 4 n) kept board sheet ready) (bench_leaves (part 113 4 n) kept board sheet ready) []

-- SLOT, eleven words, four slots; the answer has words, slots and steps in a row of 87
abbrev pub changed_row : List ℕ → List ℕ → List ℕ → List ℕ
changed_row words slots steps = sets (replicate 87 0) 0 (words ++ (slots ++ steps))

abbrev pub changed_text : ℕ → List ℕ → List ℕ → List ℕ → List ℕ
changed_text r words slots steps = call_text r (changed_row words slots steps) []

unfoldable pub change_of : Bool → List ℕ → ℕ → List ℕ → List ℕ
change_of wakes slots slot words =
    let o = asked_with (pick wakes wake_of sleep_of) slots slot words in
    changed_text (steps_number o (replicate 28 0))
    (left_asked o (λ (o : SleepOutcome) (s : List Step). o.words) words)
    (left_asked o (λ (o : SleepOutcome) (s : List Step). slots_numbers o.slots) slots)
    (left_asked o (λ (o : SleepOutcome) (s : List Step). steps_numbers s) (replicate 28 0))

abbrev pub change_text : Bool → List ℕ → List ℕ
change_text wakes n = change_of wakes (part 48 12 n) (byte_at n 0) (part 11 1 n)
