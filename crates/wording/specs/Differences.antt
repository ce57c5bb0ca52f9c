-- The settings in which two plans differ, as a mask with a bit for each part of the settings that count; the first part has the
-- lowest bit.
use Rattle.std.specs.Prelude.{Result, ◌≡◌, ◌↔◌, Bool, List, [], ◌∷◌, ◌++◌, ℕ, zero, suc, ◌+◌, ◌*◌, ◌/◌, ◌%◌, ◌^◌}
use Rattle.std.specs.Prelude.{eqb}
use Rattle.base.specs.{declared.refusal.Refusal.Refusal, Choice.pick, Answer.value, Answer.answer_of}
use Prim.Native.String.{String}
use Rattle.text.specs.Ascii.{same}
use Rattle.config.specs.declared.ClockConfig.{ClockConfig}
use Rattle.settings.specs.{declared.Settings.Settings, Settings.settings_of}
use Rattle.sheet.specs.{Writer.InitCall, Demand3.SameUpTo}
use Rattle.wording.specs.{Rows.row_text, Parts.parts_of}

-- a bit for each two rows of numbers that are not the same
abbrev pub mask_of : List (List ℕ) → List (List ℕ) → ℕ
mask_of [] ys = 0
mask_of (x ∷ xs) [] = 0
mask_of (x ∷ xs) (y ∷ ys) = pick (same x y) 0 1 + 2 * mask_of xs ys

unfoldable pub differences_of : Settings → Settings → ℕ
differences_of a b = mask_of (parts_of a) (parts_of b)

-- Two calls at one reading, of any two plans, with any two buffers, that answered lengths: the lengths and the bytes up to them
-- are equal exactly when no setting differs.
abbrev pub NoneDiffers : Type 0
NoneDiffers =
    (p q : ClockConfig) (reading : ℕ) (b b' c c' : List ℕ) (r s : (Result ℕ Refusal)) (m n : ℕ)
    → InitCall p reading b r b' → answer_of r ≡ value m
    → InitCall q reading c s c' → answer_of s ≡ value n
    → ((m ≡ n) × SameUpTo m b' c') ↔ (differences_of (settings_of p reading) (settings_of q reading) ≡ 0)

-- ---- the names of the parts that differ, one per line

unfoldable pub part_names : List String
part_names =
    "chip"
    ∷ "ring oscillator"
    ∷ "crystal"
    ∷ "system PLL"
    ∷ "USB PLL"
    ∷ "voltage code"
    ∷ "settling step"
    ∷ "reference clock"
    ∷ "system clock"
    ∷ "peripheral clock"
    ∷ "USB clock"
    ∷ "ADC clock"
    ∷ "RTC clock"
    ∷ []

abbrev pub has_bit : ℕ → ℕ → Bool
has_bit mask k = eqb (mask / 2 ^ k % 2) 1

unfoldable pub part_line : ℕ → ℕ → List ℕ
part_line mask k = pick (has_bit mask k) (row_text part_names k ++ (10 ∷ [])) []

-- the lines of the first k parts
abbrev pub part_lines : ℕ → ℕ → List ℕ
part_lines mask zero = []
part_lines mask (suc k) = part_lines mask k ++ part_line mask k

unfoldable pub differences_text : ℕ → List ℕ
differences_text mask = part_lines mask 13
