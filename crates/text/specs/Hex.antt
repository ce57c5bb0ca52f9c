-- Bytes as hexadecimal digits, two for each byte, the more significant first: the text printed for bytes, and the bytes that a
-- text spells.
use mathlib.Core.{Path.◌≡◌, Bool.Bool, Bool.true, Bool.false, Bool.◌&&◌, Bool.◌||◌, List.List, List.[], List.◌∷◌, List.◌++◌}
use Rattle.std.specs.Prelude.{Option, Some, None, ℕ, ◌+◌, ◌-◌, ◌*◌, ◌/◌, ◌%◌}
use lib.{Dec.leb, Dec.ltb, Dec.eqb, ListN.length, Seq.sets}
use Rattle.base.specs.Choice.{pick, in_range}
use Rattle.text.specs.Decimal.{is_digit}

-- the digit of a number below 16: `0` to `9`, then `a` to `f`
abbrev pub hex_digit : ℕ → ℕ
hex_digit d = pick (ltb d 10) (48 + d) (87 + d)

-- the two digits of a byte
abbrev pub hex_pair : ℕ → List ℕ
hex_pair b = hex_digit (b / 16) ∷ hex_digit (b % 16) ∷ []

abbrev pub hex_digits : List ℕ → List ℕ
hex_digits [] = []
hex_digits (b ∷ bs) = hex_pair b ++ hex_digits bs

-- the text printed for bytes; `-` where there are none
unfoldable pub hex_of : List ℕ → List ℕ
hex_of [] = 45 ∷ []
hex_of (b ∷ bs) = hex_digits (b ∷ bs)

-- the value of a hex digit of either case; 0 for any other byte
abbrev pub hex_value : ℕ → ℕ
hex_value c =
    pick (is_digit c) (c - 48) (pick (in_range 97 102 c) (c - 87) (pick (in_range 65 70 c) (c - 55) 0))

abbrev pub is_hex : ℕ → Bool
is_hex c = is_digit c || in_range 97 102 c || in_range 65 70 c

abbrev pub is_pair : ℕ → ℕ → Bool
is_pair a b = is_hex a && is_hex b

-- only hex digits, two for each byte
abbrev pub are_pairs : List ℕ → Bool
are_pairs [] = true
are_pairs (a ∷ []) = false
are_pairs (a ∷ b ∷ cs) = is_pair a b && are_pairs cs

abbrev pub pair_values : List ℕ → List ℕ
pair_values [] = []
pair_values (a ∷ []) = []
pair_values (a ∷ b ∷ cs) = (hex_value a * 16 + hex_value b) ∷ pair_values cs

-- a word of hex: `-` alone, or one pair or more
abbrev pub is_hex_word : List ℕ → Bool
is_hex_word [] = false
is_hex_word (c ∷ []) = eqb c 45
is_hex_word (a ∷ b ∷ cs) = are_pairs (a ∷ b ∷ cs)

-- a word of hex whose bytes fit the room; `-` has no bytes
unfoldable pub is_readable : List ℕ → ℕ → Bool
is_readable w room = is_hex_word w && leb (length (pair_values w)) room

-- the call that reads the word w into the buffer xs, answers r and leaves the buffer ys; an unreadable word changes nothing
pub record HexReading (w xs : List ℕ) (r : Option ℕ) (ys : List ℕ) : Type 0 where
  pub answer : r ≡ pick (is_readable w (length xs)) (Some (length (pair_values w))) None
  pub bytes : ys ≡ pick (is_readable w (length xs)) (sets xs 0 (pair_values w)) xs
