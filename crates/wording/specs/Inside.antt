-- Inside: how the code finds a register's name and the parts that differ.
use Rattle.std.specs.Prelude.{List, [], ◌∷◌, ◌≡◌, ◌+◌, ◌*◌, map, eqb, Bool, true, false, ◌&&◌, Option, Some, None, ℕ}
use Rattle.std.specs.Option.{option_eq}
use denote.Ref.{Bor}
use Rattle.base.specs.Choice.{pick}
use Rattle.chip.specs.declared.{Chip.Chip, Chip.TheVariants.Rp2040, Chip.TheVariants.Rp235x}
use Rattle.text.specs.Ascii.{ascii}
use Rattle.wording.specs.{StepNames.Row, StepNames.name_rows}

-- the code has one table of registers: the address on the RP2040 and on the RP235x, where it has one there, and the
-- name
abbrev pub Place : Type 0
Place = Option ℕ × Option ℕ × Bor (List ℕ)

abbrev pub address_on : Chip → Place → Option ℕ
address_on Rp2040 p = p.0
address_on Rp235x p = p.1

abbrev pub is_at : Chip → ℕ → Place → Bool
is_at c a p = option_eq eqb (address_on c p) (Some a)

-- the addresses of the chip's registers, and their names as bytes
abbrev pub row_on : Option ℕ → List ℕ → List (ℕ × List ℕ) → List (ℕ × List ℕ)
row_on (Some a) name rows = (a, name) ∷ rows
row_on None name rows = rows

abbrev pub rows_on : Chip → List Place → List (ℕ × List ℕ)
rows_on c [] = []
rows_on c (p ∷ ps) = row_on (address_on c p) p.2.now (rows_on c ps)

abbrev pub bytes_at : List (ℕ × List ℕ) → ℕ → List ℕ
bytes_at [] a = []
bytes_at (r ∷ rs) a = pick (eqb r.0 a) r.1 (bytes_at rs a)

-- the table has the rows of both chips
abbrev pub bytes_of : List Row → List (ℕ × List ℕ)
bytes_of rows = map (λ r. (r.address, ascii r.name)) rows

pub record IsTable (ps : List Place) : Type 0 where
  pub old : rows_on Rp2040 ps ≡ bytes_of (name_rows Rp2040)
  pub new : rows_on Rp235x ps ≡ bytes_of (name_rows Rp235x)

-- Two rows of numbers are compared from the first on, as a derived `==` does it: t says whether the numbers before are equal.
abbrev pub agree_from : Bool → List ℕ → List ℕ → Bool
agree_from t [] [] = t
agree_from t [] (y ∷ ys) = false
agree_from t (x ∷ xs) [] = false
agree_from t (x ∷ xs) (y ∷ ys) = agree_from (t && eqb x y) xs ys

abbrev pub agree : List ℕ → List ℕ → Bool
agree [] [] = true
agree [] (y ∷ ys) = false
agree (x ∷ xs) [] = false
agree (x ∷ xs) (y ∷ ys) = agree_from (eqb x y) xs ys

-- which rows of two lists agree, and the bits of those that do not
abbrev pub agreeing : List (List ℕ) → List (List ℕ) → List Bool
agreeing [] ys = []
agreeing (x ∷ xs) [] = []
agreeing (x ∷ xs) (y ∷ ys) = agree x y ∷ agreeing xs ys

abbrev pub bits_of : List Bool → ℕ
bits_of [] = 0
bits_of (same ∷ others) = pick same 0 1 + 2 * bits_of others
