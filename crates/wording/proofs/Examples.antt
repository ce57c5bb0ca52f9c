-- Five worked listings: the first step of the sheet of the preset `crystal`; the chip mark and a step that only the RP235x has; a
-- second step that the chip does not have; a second step with too few bytes; and the empty sheet.
use mathlib.Core.{Path.◌≡◌, Path.refl, List.List, List.[], List.◌∷◌, List.◌++◌}
use Prim.Native.{Nat.ℕ, String.String}
use Rattle.text.specs.{Ascii.ascii, Decimal.decimal_of, Hex.hex_of}
use Rattle.step.specs.{Access.read_at, Bytes.word8, Layout.widths, Kinds.kinds}
use Rattle.step.specs.Steps.{storable, kind_in, step_in, spare_in, sound, unpack_of}
use Rattle.registers.specs.Access.{has, access_of}
use Rattle.wording.specs.{Rows.row_text, Form.clock_rows, Form.clock_name, Form.mask_text, Form.piece_of, Steps.step_text}
use Rattle.wording.specs.{StepNames.name_rows, StepNames.name_of, Does.word_text, Does.register_text, Does.does_text}
use Rattle.wording.specs.StepLines.{line_text, found_at, line_at, lines_of, steps_text}

-- lines, each closed by a newline
abbrev closed : List String → List ℕ
closed [] = []
closed (line ∷ more) = ascii line ++ (10 ∷ closed more)

abbrev reset_write : List ℕ
reset_write = 0x05 ∷ 0xF7 ∷ 0x9B ∷ 0x7E ∷ 0 ∷ 0 ∷ 0 ∷ 0 ∷ []

abbrev chip_mark : List ℕ
chip_mark = 0x98 ∷ 0 ∷ 0 ∷ 0 ∷ 0 ∷ 0 ∷ 0 ∷ 0 ∷ []

-- 43(12): the voltage code of the RP235x
abbrev voltage : List ℕ
voltage = 0xAD ∷ 0x80 ∷ 0 ∷ 0 ∷ 0 ∷ 0 ∷ 0 ∷ 0 ∷ []

abbrev reset_line : String
reset_line = "0 05f79b7e00000000 1 reset write: mask 0x0fbcdbf; write RESETS_RESET 0x4000c000 = 0x00fbcdbf"

pub worked-listings :
    (steps_text reset_write ≡ closed (reset_line ∷ []))
    × (steps_text (chip_mark ++ voltage)
    ≡ closed ("0 9800000000000000 38 chip mark; no register"
    ∷ "1 ad80000000000000 43 voltage: code 12; change POWMAN_VREG 0x4010000c bits 0xffff01f0 to 0x5afe00c0"
    ∷ []))
    × (steps_text (reset_write ++ (voltage ++ reset_write)) ≡ closed (reset_line ∷ "1 ad80000000000000 no step" ∷ []))
    × (steps_text (reset_write ++ (0x10 ∷ 0 ∷ 0 ∷ [])) ≡ closed (reset_line ∷ "1 100000 no step" ∷ []))
    × (steps_text [] ≡ [])
unfolding steps_text lines_of line_at found_at line_text does_text register_text word_text name_of name_rows step_text
    piece_of mask_text clock_name clock_rows row_text access_of has read_at unpack_of sound storable kind_in step_in
    spare_in widths kinds word8 hex_of decimal_of
worked-listings = (refl, refl, refl, refl, refl)
