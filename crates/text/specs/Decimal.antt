-- Decimal numbers as ASCII digits, the most significant first: the digits printed for a number, and the number that bytes spell.
use Rattle.std.specs.Prelude.{Bool, true, ◌&&◌, List, [], ◌∷◌, ◌++◌, ℕ, zero, suc, ◌+◌, ◌-◌, ◌*◌, ◌/◌, ◌%◌, leb, ltb, length}
use Rattle.base.specs.{Answer.Answer, Answer.value, Answer.refusal, Choice.pick, Choice.in_range}

-- the last digit of n
abbrev pub last_digit : ℕ → ℕ
last_digit n = 48 + n % 10

-- the digits of n without leading zeros; the bound limits their number, and any bound above n gives all of them
abbrev pub digits_of : ℕ → ℕ → List ℕ
digits_of zero n = []
digits_of (suc bound) n = let more = digits_of bound (n / 10) in pick (ltb n 10) [] more ++ (last_digit n ∷ [])

-- the text printed for n
unfoldable pub decimal_of : ℕ → List ℕ
decimal_of n = digits_of (suc n) n

abbrev pub is_digit : ℕ → Bool
is_digit c = in_range 48 57 c

abbrev pub all_digits : List ℕ → Bool
all_digits [] = true
all_digits (c ∷ cs) = is_digit c && all_digits cs

-- the value of the digits cs after digits of value n
abbrev pub value_after : ℕ → List ℕ → ℕ
value_after n [] = n
value_after n (c ∷ cs) = value_after (n * 10 + (c - 48)) cs

unfoldable pub value_of : List ℕ → ℕ
value_of cs = value_after 0 cs

-- a number has 1 to 10 digits and a value of at most 4294967295
unfoldable pub is_number : List ℕ → Bool
is_number cs = in_range 1 10 (length cs) && all_digits cs && leb (value_of cs) 4294967295

-- the number that the bytes spell, or refusal 24 where they spell none
unfoldable pub number_of : List ℕ → Answer ℕ
number_of cs = pick (is_number cs) (value (value_of cs)) (refusal 24)
