-- A row of numbers. A number is read by its index; past the row's end it is 0.
use Rattle.std.specs.Prelude.{List, [], ◌∷◌, ℕ, ◌+◌, min, get_or}
use Rattle.base.specs.Widths.{u8, u16}
use Rattle.pll.specs.declared.PllConfig.{PllConfig}

abbrev pub nth : List ℕ → ℕ → ℕ
nth row i = get_or row i 0

-- a number of a row clamped to 8 and to 16 bits; the limits of the letters are checked first, so nothing is lost
abbrev pub byte_at : List ℕ → ℕ → ℕ
byte_at row i = min (nth row i) u8

abbrev pub half_at : List ℕ → ℕ → ℕ
half_at row i = min (nth row i) u16

-- the longest buffer in bytes that a case may ask for, and the length that it asks for
abbrev pub room : ℕ
room = 1024

abbrev pub room_at : List ℕ → ℕ → ℕ
room_at row i = min (nth row i) room

-- the four dividers of a PLL from index i on
abbrev pub pll_at : List ℕ → ℕ → PllConfig
pll_at row i =
    record {
      refdiv = byte_at row i;
      fbdiv = half_at row (i + 1);
      post_div1 = byte_at row (i + 2);
      post_div2 = byte_at row (i + 3);
    }

-- ten numbers from index i on
abbrev pub ten_at : List ℕ → ℕ → List ℕ
ten_at row i =
    nth row i ∷ nth row (i + 1) ∷ nth row (i + 2) ∷ nth row (i + 3) ∷ nth row (i + 4)
    ∷ nth row (i + 5) ∷ nth row (i + 6) ∷ nth row (i + 7) ∷ nth row (i + 8) ∷ nth row (i + 9) ∷ []
