-- An order is the words that ask for a plan (docs/PROGRAMS.md, check). Each order has a row: its name, the letters of the words
-- that it takes (cases/specs/Words), and the plan that it asks for.
use Rattle.std.specs.Prelude.{Option, Some, None, is_some, find, option_and_then, option_map, Bool, List, [], ◌∷◌, ℕ, eqb, ltb, length}
use Rattle.std.specs.Prelude.{take}
use Prim.Native.String.{String}
use Rattle.base.specs.{Answer.Answer, Answer.value, Choice.pick}
use Rattle.text.specs.Ascii.{ascii, same}
use Rattle.chip.specs.declared.{Chip.Chip, Chip.TheVariants.Rp2040, Chip.TheVariants.Rp235x}
use Rattle.config.specs.declared.ClockConfig.{ClockConfig}
use Rattle.config.specs.Presets.{default_plan, crystal_plan, rosc_plan, system_plan, system_plan_from}
use Rattle.numbers.specs.{Fields.nth, Fields.byte_at, Fields.pll_at, Plan.plan_numbered, Manual.manual_by_code}
use Rattle.readback.specs.Read.{read_of}
use Rattle.cases.specs.{Line.word_after, Line.rest_after, Words.unread, Words.sheet_at, Words.given}
use Rattle.wording.specs.declared.orders.names.Preset.{Preset}
use Rattle.wording.specs.declared.orders.names.Preset.TheVariants.{System, SystemFrom, Crystal, Rosc, Default, Manual, Plan}

-- the row of an order; a preset's plan depends on the chip and on the numbers that were read
pub record Row : Type 0 where
  pub name : List ℕ
  pub letters : List ℕ
  pub plan : Chip → List ℕ → Option (Answer ClockConfig)

abbrev pub row : String → String → (Chip → List ℕ → Option (Answer ClockConfig)) → Row
row name letters plan = record { name = ascii name; letters = ascii letters; plan = plan }

-- `manual` takes HZ REFDIV FBDIV POST1 POST2 CODE, for the RP2040 only; an unknown voltage code gives none
abbrev pub manual_on : Chip → List ℕ → Option (Answer ClockConfig)
manual_on Rp2040 n = manual_by_code (nth n 0) (pll_at n 1) (byte_at n 5)
manual_on Rp235x n = None

-- `plan` takes 43 numbers for the RP235x and 48 for the RP2040, so the last five may be absent; their plan is `plan_in`
abbrev pub presets : Preset → Row
presets System = row "system" "w" (λ chip n. Some (system_plan chip (nth n 0)))
presets SystemFrom = row "system_from" "ww" (λ chip n. Some (system_plan_from chip (nth n 0) (nth n 1)))
presets Crystal = row "crystal" "w" (λ chip n. Some (value (crystal_plan chip (nth n 0))))
presets Rosc = row "rosc" "" (λ chip n. Some (value (rosc_plan chip)))
presets Default = row "default" "" (λ chip n. Some (value (default_plan chip)))
presets Manual = row "manual" "wbhbbb" manual_on
presets Plan = row "plan" "wwwwwwwwwwwwwwwwwwwwwwwwwwwwwwwwwwwwwwwwwwwooooo" (λ chip n. None)

-- the preset of a number: 0 to 5 in the order above; any other gives no plan of its own
abbrev pub preset_numbered : ℕ → Preset
preset_numbered n =
    pick (eqb n 0) System
    (pick (eqb n 1) SystemFrom
    (pick (eqb n 2) Crystal (pick (eqb n 3) Rosc (pick (eqb n 4) Default (pick (eqb n 5) Manual Plan)))))

abbrev pub name_of : Preset → List ℕ
name_of p = (presets p).name

abbrev pub letters_of : Preset → List ℕ
letters_of p = (presets p).letters

unfoldable pub preset_of : Preset → Chip → List ℕ → Option (Answer ClockConfig)
preset_of p = (presets p).plan

-- the order with a name
abbrev pub order_named : List ℕ → Option Preset
order_named word =
    find (λ p. same word (name_of p)) (System ∷ SystemFrom ∷ Crystal ∷ Rosc ∷ Default ∷ Manual ∷ Plan ∷ [])

abbrev pub is_order : List ℕ → Bool
is_order word = is_some (order_named word)

-- the plan of the first `count` numbers; none where there are fewer
unfoldable pub plan_in : Chip → List ℕ → ℕ → Option (Answer ClockConfig)
plan_in chip n count = pick (ltb (length n) count) None (option_map value (plan_numbered chip (take count n)))

-- the plan that an order asks for with the numbers that were read, of which there are `count`
unfoldable pub order_with : Preset → Chip → List ℕ → ℕ → Option (Answer ClockConfig)
order_with Plan chip n count = plan_in chip n count
order_with p chip n count = preset_of p chip n

-- an order for a chip, in the rest of a line: the next word is its name, and those after it are the ones that its letters ask for
unfoldable pub order_on : Chip → List ℕ → Option (Answer ClockConfig)
order_on chip rest = option_and_then
    (λ p. option_and_then (λ s. order_with p chip s.row s.count) (given (rest_after rest) (letters_of p) unread))
    (order_named (word_after rest))

-- an order that is a sheet in hex asks for the plan that the sheet is read back to
unfoldable pub sheet_order : List ℕ → ℕ → Option (Answer ClockConfig)
sheet_order rest reading = option_map (λ s. read_of (sheet_at s 0) reading) (given rest (ascii "x") unread)

-- the order in the rest of a line, at a reading: `rp235x` before a name selects that chip, and a word that names no order is a
-- sheet
unfoldable pub order_of : List ℕ → ℕ → Option (Answer ClockConfig)
order_of rest reading =
    pick (same (word_after rest) (ascii "rp235x")) (order_on Rp235x (rest_after rest))
    (pick (is_order (word_after rest)) (order_on Rp2040 rest) (sheet_order rest reading))
