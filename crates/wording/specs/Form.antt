-- A text with numbers in it: `#` stands for the next number in decimal, `$` for the next as a mask in hex, `@` for the next as
-- the name of a clock.
use Rattle.std.specs.Prelude.{Bool, ◌||◌, List, [], ◌∷◌, ◌++◌, ℕ, ◌+◌, ◌/◌, ◌%◌, min, eqb, get_or}
use Prim.Native.String.{String}
use Rattle.base.specs.Choice.{pick, bit}
use Rattle.text.specs.{Decimal.decimal_of, Hex.hex_digit, Hex.hex_of}
use Rattle.wording.specs.Rows.{row_text}

-- the clocks by number (docs/FORMAT.md, Frequencies and delays)
unfoldable pub clock_rows : List String
clock_rows =
    "rosc" ∷ "xosc" ∷ "pll_sys" ∷ "pll_usb" ∷ "ref" ∷ "sys" ∷ "peri" ∷ "usb" ∷ "adc" ∷ "rtc" ∷ "no clock" ∷ []

-- from 10 on there is no clock
unfoldable pub clock_name : ℕ → List ℕ
clock_name clock = row_text clock_rows (min clock 10)

-- the 28 low bits as seven hex digits; a mask of blocks has 25 bits
unfoldable pub mask_text : ℕ → List ℕ
mask_text mask =
    hex_digit (mask / 16777216 % 16) ∷ hex_of (mask / 65536 % 256 ∷ mask / 256 % 256 ∷ mask % 256 ∷ [])

-- `#` is byte 35, `$` 36 and `@` 64
abbrev pub is_field : ℕ → Bool
is_field c = (eqb c 35 || eqb c 36) || eqb c 64

unfoldable pub piece_of : ℕ → ℕ → List ℕ
piece_of c n =
    pick (eqb c 35) (decimal_of n) (pick (eqb c 36) (mask_text n) (pick (eqb c 64) (clock_name n) (c ∷ [])))

-- the text with the numbers from index i on; a missing number is 0
abbrev pub formed_from : List ℕ → List ℕ → ℕ → List ℕ
formed_from [] ns i = []
formed_from (c ∷ cs) ns i = piece_of c (get_or ns i 0) ++ formed_from cs ns (i + bit (is_field c))

abbrev pub formed : List ℕ → List ℕ → List ℕ
formed form ns = formed_from form ns 0
