-- A sheet read back as the chip and the numbers of its plan (docs/FORMAT.md, Reading a sheet back).
use Rattle.std.specs.Prelude.{List, ℕ, Some}
use Rattle.std.proofs.lemmas.List.Edits.{sets}
use Rattle.base.specs.Answer.{Answer}
use Rattle.chip.specs.declared.Chip.{Chip, TheVariants.Rp2040, TheVariants.Rp235x}
use Rattle.config.specs.{declared.ClockConfig.ClockConfig, ChipSettings.chip_of}
use Rattle.numbers.specs.{Row.plan_row, Answers.Writes}

-- the number of a chip, as the calls take it: 0 is the RP2040, 1 the RP235x
abbrev pub chip_number : Chip → ℕ
chip_number Rp2040 = 0
chip_number Rp235x = 1

abbrev pub plan_chip : ClockConfig → ℕ
plan_chip p = chip_number (chip_of p.chip).model

-- the plan's numbers, followed by the old ones
abbrev pub put_row : ClockConfig → List ℕ → List ℕ
put_row p row = sets row 0 (plan_row p)

-- the call's contract: its answer r, and all numbers after it
abbrev pub RowCall : Answer ClockConfig → List ℕ → ℕ → List ℕ → Type 0
RowCall read = Writes plan_chip put_row (Some read)
