-- Decimal numbers are printed digit by digit, a printed number reads back as itself, and bytes spell a number just where their
-- length, digits and value allow it.
use Rattle.std.specs.Prelude.{◌≡◌, refl, Bool, true, false, ◌&&◌, List, [], ◌∷◌, ◌++◌, ℕ, zero, suc, ◌+◌, ◌-◌, ◌*◌, ◌/◌, ◌%◌, ◌^◌}
use Rattle.std.specs.Prelude.{◌≤◌, ◌<◌, leb, ltb, length, Result, Ok, Err}
use mathlib.Core.Path.{ap, ◌∙◌}
use native.Mathlib.{Decide.dec_le, Decide.dec_lt, Nat.pow-suc, Omega.arith}
use borrow.Author.{Rules.rules, Tests.tests, Tests.lt-ltb, Tests.le-ltb, Tests.le-leb, Tests.lt-leb}
use lib.ListN.{length-append}
use Rattle.base.specs.{Answer.value, Answer.refusal, Choice.pick, Choice.in_range}
use Rattle.std.specs.{Char.is_ascii_digit, List.list_all, Result.MatchResult, Str.IsUtf8, Str.Parse.ParsesUnsigned}
use Rattle.std.proofs.lemmas.Str.Parse.{IsNumeralModel, numerals_by_fold, parse_digits}
use Rattle.std.proofs.lemmas.{Bool.and_parts, Fmt.IsAscii-from_digits, Str.IsUtf8-from_ascii}
use Rattle.text.specs.Decimal.{last_digit, digits_of, decimal_of, is_digit, all_digits, value_after, value_of, is_number, number_of}

digits-small : (k n : ℕ) → n < 10 → digits_of (suc k) n ≡ last_digit n ∷ []
digits-small k n small = rw (lt-ltb n 10)

digits_more : (k n : ℕ) → 10 ≤ n → digits_of (suc k) n ≡ digits_of k (n / 10) ++ (last_digit n ∷ [])
digits_more k n more = rw (le-ltb n 10)

-- any bound above n gives the same digits
enough : (k m n : ℕ) → n < k → n < m → digits_of k n ≡ digits_of m n
enough zero m n h l = absurd (omega arith)
enough (suc k) zero n h l = absurd (omega arith)
enough (suc k) (suc m) n h l = elim (dec_lt n 10) [
  | yes small ↦ rw (lt-ltb n 10)
  | no large ↦
      ap (λ (ds : List ℕ). pick (ltb n 10) [] ds ++ (last_digit n ∷ []))
      (enough k m (n / 10) (omega arith) (omega arith))
]

pub decimal_small : (n : ℕ) → n < 10 → decimal_of n ≡ last_digit n ∷ []
unfolding decimal_of
decimal_small n small = digits-small n n small

pub decimal_more : (n : ℕ) → 10 ≤ n → decimal_of n ≡ decimal_of (n / 10) ++ (last_digit n ∷ [])
unfolding decimal_of
decimal_more n more =
    digits_more n n more
    ∙ ap (λ (ds : List ℕ). ds ++ (last_digit n ∷ [])) (enough n (suc (n / 10)) (n / 10) (omega arith) (omega arith))

-- induction over the digits: what holds of a number below 10, and of n where it holds of n / 10, holds of all
by_digits : (P : ℕ → List ℕ → Type 0) → ((n : ℕ) → n < 10 → P n (last_digit n ∷ []))
    → ((n : ℕ) (ds : List ℕ) → 10 ≤ n → P (n / 10) ds → P n (ds ++ (last_digit n ∷ [])))
    → (k n : ℕ) → n < k → P n (decimal_of n)
by_digits P small more zero n h = absurd (omega arith)
by_digits P small more (suc k) n h = elim (dec_lt n 10) [
  | yes l ↦ rw (decimal_small n l) (small n l)
  | no l ↦
      let m : 10 ≤ n = omega arith in
      rw (decimal_more n m) (more n (decimal_of (n / 10)) m (by_digits P small more k (n / 10) (omega arith)))
]

pub value_grows : (cs : List ℕ) (n : ℕ) → n ≤ value_after n cs
value_grows [] n = omega arith
value_grows (c ∷ cs) n = let h = value_grows cs (n * 10 + (c - 48)) in omega arith

value-last : (cs : List ℕ) (n d : ℕ) → value_after n (cs ++ (d ∷ [])) ≡ value_after n cs * 10 + (d - 48)
value-last [] n d = refl
value-last (c ∷ cs) n d = value-last cs (n * 10 + (c - 48)) d

-- the digits printed for n have the value n
pub value-decimal : (n : ℕ) → value_of (decimal_of n) ≡ n
unfolding value_of
value-decimal n = by_digits (λ (m : ℕ) (ds : List ℕ). value_after 0 ds ≡ m)
    (λ m small. omega arith)
    (λ m ds more e. value-last ds 0 (last_digit m) ∙ ap (λ (v : ℕ). v * 10 + (last_digit m - 48)) e ∙ omega arith)
    (suc n) n (omega arith)

all-last : (cs : List ℕ) (d : ℕ) → all_digits cs ≡ true → is_digit d ≡ true → all_digits (cs ++ (d ∷ [])) ≡ true
all-last [] d h e = rw e
all-last (c ∷ cs) d h e =
    let p = and_parts (is_digit c) (all_digits cs) h in
    rw p.0 (all-last cs d p.1 e)

last-is-digit : (n : ℕ) → is_digit (last_digit n) ≡ true
last-is-digit n = rw (le-leb 48 (48 + n % 10) (omega arith), le-leb (48 + n % 10) 57 (omega arith))

-- only digits are printed
pub digits_decimal : (n : ℕ) → all_digits (decimal_of n) ≡ true
digits_decimal n = by_digits (λ (m : ℕ) (ds : List ℕ). all_digits ds ≡ true)
    (λ m small. rw (last-is-digit m))
    (λ m ds more e. all-last ds (last_digit m) e (last-is-digit m))
    (suc n) n (omega arith)

-- a number below 10 ^ (k + 1) has 1 to k + 1 digits
pub length-decimal : (k n : ℕ) → n < 10 ^ suc k → (1 ≤ length (decimal_of n)) × (length (decimal_of n) ≤ suc k)
length-decimal zero n h = let l : n < 10 = omega arith in rw (decimal_small n l) (omega arith, omega arith)
length-decimal (suc k) n h =
    let p : 10 ^ suc (suc k) ≡ 10 ^ suc k * 10 = pow-suc 10 (suc k) in
    let e = length-decimal k (n / 10) (omega arith) in
    elim (dec_lt n 10) [
      | yes l ↦ rw (decimal_small n l) (omega arith, omega arith)
      | no l ↦ rw (decimal_more n (omega arith)) (simp length-append (omega arith))
    ]

-- bytes that spell no number: a wrong length, a value above 32 bits, bytes that are not 1 to 10 digits
pub bad-length : (cs : List ℕ) → in_range 1 10 (length cs) ≡ false → number_of cs ≡ refusal 24
unfolding number_of is_number
bad-length cs e = rw e

third : (a b c : Bool) → c ≡ false → (a && b && c) ≡ false
third true true c e = e
third true false c e = refl
third false b c e = refl

pub bad-value : (cs : List ℕ) → 4294967295 < value_of cs → number_of cs ≡ refusal 24
unfolding number_of is_number
bad-value cs h =
    let e : leb (value_of cs) 4294967295 ≡ false = lt-leb (value_of cs) 4294967295 h in
    rw (third (in_range 1 10 (length cs)) (all_digits cs) (leb (value_of cs) 4294967295) e)

pub not_digits : (cs : List ℕ) → (in_range 1 10 (length cs) && all_digits cs) ≡ false → number_of cs ≡ refusal 24
unfolding number_of is_number
not_digits cs e = rw (neither (in_range 1 10 (length cs)) (all_digits cs) (leb (value_of cs) 4294967295) e)
  where
    neither : (a b c : Bool) → (a && b) ≡ false → (a && b && c) ≡ false
    neither true true c e = absurd (search (rules, e))
    neither true false c e = refl
    neither false b c e = refl

-- bytes that spell one
pub good-number : (cs : List ℕ) → 1 ≤ length cs → length cs ≤ 10 → all_digits cs ≡ true → value_of cs ≤ 4294967295
    → number_of cs ≡ value (value_of cs)
unfolding number_of is_number
good-number cs h l e v =
    rw (le-leb 1 (length cs) h, le-leb (length cs) 10 l, e, le-leb (value_of cs) 4294967295 v)

-- the digits printed for a 32-bit number read back as that number
pub decimal-back : (n : ℕ) → n ≤ 4294967295 → number_of (decimal_of n) ≡ value n
decimal-back n h =
    let l = length-decimal 9 n (omega arith) in
    let v = value-decimal n in
    good-number (decimal_of n) l.0 l.1 (digits_decimal n) (omega arith) ∙ ap value v

-- all bytes are digits just where each is
pub each_digit : (cs : List ℕ) → list_all is_ascii_digit cs ≡ all_digits cs
each_digit [] = refl
each_digit (c ∷ cs) = rw (each_digit cs)

-- the digits and their value are those that the library's `parse` reads
numerals : IsNumeralModel (λ cs. all_digits cs ≡ true) value_of
unfolding value_of
numerals = numerals_by_fold _ (search rules) value_after (search rules)

pub digits_utf8 : (cs : List ℕ) → all_digits cs ≡ true → IsUtf8 cs
digits_utf8 cs e = IsUtf8-from_ascii cs (IsAscii-from_digits cs (numerals.to cs e))

-- what `parse` makes of 1 to 10 digits is the number that they spell, or no number where it is above 32 bits
pub parsed : {E : Type 0} (cs : List ℕ) (r : Result ℕ E) → ParsesUnsigned 32 10 cs r
    → (in_range 1 10 (length cs) && all_digits cs) ≡ true → MatchResult r (λ n. number_of cs ≡ value n) (λ e. number_of cs ≡ refusal 24)
unfolding number_of is_number
parsed {E} cs (Ok n) h e =
    let p = and_parts (in_range 1 10 (length cs)) (all_digits cs) e in
    let k = parse_digits numerals {E = E} 32 cs (Ok n) h p.1 in
    rw (k.1, p.0, p.1, le-leb (value_of cs) 4294967295 (omega (arith, k.0.1))) refl
parsed {E} cs (Err x) h e =
    let p = and_parts (in_range 1 10 (length cs)) (all_digits cs) e in
    let some : 0 < length cs = search (rules, tests, p.0) in
    elim (dec_le (value_of cs) 4294967295) [
      | yes l ↦ absurd (parse_digits numerals {E = E} 32 cs (Err x) h p.1 (some, omega (arith, l)))
      | no l ↦ bad-value cs (omega (arith, l))
    ]
