-- The table of cases: each row has a name, the letters of its words, and the answer (docs/CASES.md).
use Rattle.std.specs.Prelude.{Option, Some, None, is_some, find, Bool, true, false, List, [], ◌∷◌, ℕ}
use Prim.Native.String.{String}
use Rattle.base.specs.Choice.{bit}
use Rattle.text.specs.{Ascii.ascii, Ascii.same, Words.up_to}
use Rattle.pll.specs.{Setting.valid_of, Setting.output_of, Search.search_of, Usb.usb_of}
use Rattle.speed_book.specs.Book.{crystal}
use Rattle.margin.specs.Margin.{margin_of}
use Rattle.divider.specs.Pio.{pio_of}
use Rattle.bring_up.specs.ComesUp.{longest_wait}
use Rattle.config.specs.Presets.{default_plan, crystal_plan, rosc_plan, system_plan, system_plan_from}
use Rattle.readback.specs.Read.{read_of}
use Rattle.numbers.specs.Fields.{nth, byte_at, pll_at}
use Rattle.numbers.specs.Answers.{answer_number, itself, malformed, chip_numbered, given_number, voltage_number}
use Rattle.cases.specs.{declared.words.Words.Words, Line.rest_of, Words.spelled, Words.unread, Words.sheet_at, Words.given}
use Rattle.cases.specs.{declared.table.Case.Case, Say.one_text, Say.found_text, Say.margin_text, Say.level_text, Say.plan_text}
use Rattle.cases.specs.{Say.planned_text, Calls.chip_at, Calls.gpout_text, Calls.list_text, Calls.manual_text, Calls.sheet_text}
use Rattle.cases.specs.Calls.{start_text, run_text, change_text, bench_start_text, bench_run_text}
use Rattle.cases.specs.declared.table.Case.TheVariants as case

-- the row of a case: its name, the letters of its words (specs/Words, `spelled`), and the answer from what is read
pub record Row : Type 0 where
  pub name : List ℕ
  pub letters : List ℕ
  pub text : Words → List ℕ

-- the row of a case that also takes words of hex or a count, from all that is read
abbrev pub call_row : String → String → (Words → List ℕ) → Row
call_row name letters text = record { name = ascii name; letters = spelled 0 (ascii letters); text = text }

-- the row of a case that takes only numbers, from the row n of these
abbrev pub plain_row : String → String → (List ℕ → List ℕ) → Row
plain_row name letters text = call_row name letters (λ s. text s.row)

-- SHEET is the first word
abbrev pub sheet_of : Words → List ℕ
sheet_of s = sheet_at s 0

abbrev pub rows : Case → Row
-- INPUT REFDIV FBDIV POST1 POST2
rows case.Valid = plain_row "valid" "wbhbb" (λ n. one_text (bit (valid_of (pll_at n 1) (nth n 0))))
rows case.Output = plain_row "output" "wbhbb" (λ n. one_text (answer_number itself (output_of (pll_at n 1) (nth n 0))))
-- INPUT TARGET
rows case.Search = plain_row "search" "ww" (λ n. found_text (search_of (nth n 0) (nth n 1)))
-- CRYSTAL, TARGET
rows case.UsbPll = plain_row "usb_pll" "w" (λ n. found_text (usb_of (nth n 0)))
rows case.Book = plain_row "book" "w" (λ n. found_text (search_of crystal (nth n 0)))
-- INPUT TARGET
rows case.Margin = plain_row "margin" "ww" (λ n. margin_text (margin_of (nth n 0) (nth n 1)))
-- CHIP READING
rows case.Voltage =
    plain_row "voltage" "fb"
    (λ n. level_text (given_number (λ on. voltage_number on (byte_at n 1)) (chip_numbered (byte_at n 0))))
-- SYSTEM TARGET
rows case.Pio = plain_row "pio" "ww" (λ n. one_text (answer_number itself (pio_of (nth n 0) (nth n 1))))
-- CHIP SOURCE WHOLE FRACTION F0 to F9
rows case.Gpout = plain_row "gpout" "fbwh10w" gpout_text
-- POLLS
rows case.Wait = plain_row "wait" "w" (λ n. one_text (longest_wait (nth n 0)))
rows case.List = plain_row "list" "wwr" list_text
-- CHIP, and what the preset takes
rows case.Crystal = plain_row "crystal" "fw" (λ n. plan_text (crystal_plan (chip_at n) (nth n 1)))
rows case.Rosc = plain_row "rosc" "f" (λ n. plan_text (rosc_plan (chip_at n)))
rows case.Default = plain_row "default" "f" (λ n. plan_text (default_plan (chip_at n)))
rows case.System = plain_row "system" "fw" (λ n. planned_text (system_plan (chip_at n) (nth n 1)))
rows case.SystemFrom = plain_row "system_from" "fww" (λ n. planned_text (system_plan_from (chip_at n) (nth n 1) (nth n 2)))
rows case.Manual = plain_row "manual" "wbhbbb" manual_text
rows case.Sheet = call_row "sheet" "brf43w5o" (λ s. sheet_text s.row s.count)
-- SHEET READING
rows case.Read = call_row "read" "xb" (λ s. planned_text (read_of (sheet_of s) (byte_at s.row 1)))
rows case.Start = call_row "start" "xk15w" (λ s. start_text s.row s.kept (sheet_of s))
rows case.Run = call_row "run" "xkf15w" (λ s. run_text s.row s.kept (sheet_of s))
rows case.BenchStart = call_row "bench_start" "xkb113w" (λ s. bench_start_text s.row s.kept (sheet_of s))
rows case.BenchRun = call_row "bench_run" "xkbf113w" (λ s. bench_run_text s.row s.kept (sheet_of s))
rows case.Sleep = call_row "sleep" "b59w" (λ s. change_text false s.row)
rows case.Wake = call_row "wake" "b59w" (λ s. change_text true s.row)

abbrev pub name_of : Case → List ℕ
name_of c = (rows c).name

abbrev pub letters_of : Case → List ℕ
letters_of c = (rows c).letters

abbrev pub case_text : Case → Words → List ℕ
case_text c = (rows c).text

abbrev pub all_cases : List Case
all_cases =
    case.Valid ∷ case.Output ∷ case.Search ∷ case.UsbPll ∷ case.Book ∷ case.Margin ∷ case.Voltage ∷ case.Pio ∷ case.Gpout
    ∷ case.Wait ∷ case.List ∷ case.Crystal ∷ case.Rosc ∷ case.Default ∷ case.System ∷ case.SystemFrom ∷ case.Manual ∷ case.Sheet
    ∷ case.Read ∷ case.Start ∷ case.Run ∷ case.BenchStart ∷ case.BenchRun ∷ case.Sleep ∷ case.Wake ∷ []

-- the case with a name
abbrev pub case_named : List ℕ → Option Case
case_named word = find (λ c. same word (name_of c)) all_cases

abbrev pub is_case : List ℕ → Bool
is_case word = is_some (case_named word)

-- a line with a word that is not what its letter asks for is no case
abbrev pub read_text : Case → Option Words → List ℕ
read_text c (Some s) = case_text c s
read_text c None = one_text malformed

-- the answer of the case that was named, from the rest of the line; there is no case of any other name
abbrev pub named_text : List ℕ → Option Case → List ℕ
named_text rest (Some c) = read_text c (given rest (letters_of c) unread)
named_text rest None = one_text malformed

-- a line is answered by the case that its first word names, from the words after it
unfoldable pub answer_to : List ℕ → List ℕ
answer_to line = named_text (rest_of line) (case_named (up_to 32 line))
