-- Hex digits are printed byte by byte and read pair by pair, and printed bytes read back as themselves.
use Rattle.std.specs.Prelude.{◌≡◌, refl, Bool, true, false, ◌&&◌, ◌||◌, List, [], ◌∷◌, ◌++◌, map, ℕ, suc, ◌+◌, ◌-◌, ◌*◌, ◌/◌, ◌%◌, ◌≤◌}
use Rattle.std.specs.Prelude.{◌<◌, eqb, ltb, length, take, get_or, Some, None}
use mathlib.Core.Path.{ap}
use native.Mathlib.{Decide.dec_lt, Numerals.add-one, Omega.arith}
use borrow.Author.Tests.{lt-ltb, le-ltb, le-leb, lt-leb, ltb-true}
use lib.{Pow.are_bytes, Seq.take-suc}
use Rattle.std.specs.{Char.is_ascii_hexdigit, List.list_all, Simd.first_chunks}
use Rattle.base.specs.{Choice.pick, Choice.in_range, Placed.Placed}
use Rattle.base.proofs.Bools.{either_way, in-range}
use Rattle.std.proofs.lemmas.Bool.{and_parts}
use Rattle.text.specs.{Decimal.is_digit, Hex.hex_digit, Hex.hex_pair, Hex.hex_digits, Hex.hex_of, Hex.hex_value, Hex.is_hex}
use Rattle.text.specs.Hex.{is_pair, are_pairs, pair_values, is_hex_word, is_readable, HexReading}

-- a byte's two digits
pub hex-pair : (b high low : ℕ) → b < 256 → high ≡ hex_digit (b / 16 % 16) → low ≡ hex_digit (b % 16)
    → high ∷ low ∷ [] ≡ hex_pair b
hex-pair b high low h p q = let e : b / 16 % 16 ≡ b / 16 = omega arith in rw (p, q, e)

hex-append : (xs ys : List ℕ) → hex_digits (xs ++ ys) ≡ hex_digits xs ++ hex_digits ys
hex-append [] ys = refl
hex-append (x ∷ xs) ys = ap (λ (l : List ℕ). hex_digit (x / 16) ∷ hex_digit (x % 16) ∷ l) (hex-append xs ys)

-- the digits of the first i + 1 bytes are those of the first i and the pair of byte i
pub hex-step : (s : List ℕ) (i : ℕ) → i < length s
    → hex_digits (take (i + 1) s) ≡ hex_digits (take i s) ++ hex_pair (get_or s i 0)
hex-step s i inside = rw (add-one, take-suc s i 0 inside) (hex-append (take i s) (get_or s i 0 ∷ []))

-- one byte or more is printed as its digits, none as `-`
pub hex-some : (s : List ℕ) → 1 ≤ length s → hex_of s ≡ hex_digits s
unfolding hex_of
hex-some [] h = absurd (omega arith)
hex-some (b ∷ bs) h = refl

pub hex-none : (s : List ℕ) → length s ≡ 0 → hex_of s ≡ 45 ∷ []
unfolding hex_of
hex-none [] h = refl
hex-none (b ∷ bs) h = absurd (omega arith)

-- the tests of a byte, of all bytes, and of pairs agree
hex-digit : (c : ℕ) → is_ascii_hexdigit c ≡ is_hex c
hex-digit c = swap (is_digit c) (in_range 65 70 c) (in_range 97 102 c)
  where
    swap : (a b d : Bool) → ((a || b) || d) ≡ ((a || d) || b)
    swap true b d = refl
    swap false true true = refl
    swap false true false = refl
    swap false false true = refl
    swap false false false = refl

pub pairs-even : (w : List ℕ) → length w % 2 ≡ 0 → list_all is_ascii_hexdigit w ≡ are_pairs w
pairs-even [] even = refl
pairs-even (a ∷ []) even = absurd (omega arith)
pairs-even (a ∷ b ∷ cs) even =
    rw (hex-digit a, hex-digit b, pairs-even cs (omega arith)) (join (is_hex a) (is_hex b) (are_pairs cs))
  where
    join : (x y z : Bool) → (x && (y && z)) ≡ ((x && y) && z)
    join true y z = refl
    join false y z = refl

pub pairs-odd : (w : List ℕ) → (length w % 2 ≡ 0 → ⊥) → are_pairs w ≡ false
pairs-odd [] odd = absurd (odd refl)
pairs-odd (a ∷ []) odd = refl
pairs-odd (a ∷ b ∷ cs) odd = rw (pairs-odd cs (λ e. odd (omega (arith, e)))) (none (is_pair a b))
  where
    none : (x : Bool) → (x && false) ≡ false
    none true = refl
    none false = refl

-- the value of a pair of digits, and the values of the pairs that a word is cut into
abbrev pub pair_value : List ℕ → ℕ
pair_value p = hex_value (get_or p 0 0) * 16 + hex_value (get_or p 1 0)

pub pairs-cut : (w : List ℕ) → map pair_value (first_chunks 2 (length w / 2) w) ≡ pair_values w
pairs-cut [] = refl
pairs-cut (a ∷ []) = refl
pairs-cut (a ∷ b ∷ cs) =
    let half : length (a ∷ b ∷ cs) / 2 ≡ suc (length cs / 2) = omega arith in
    rw half (ap (λ (l : List ℕ). (hex_value a * 16 + hex_value b) ∷ l) (pairs-cut cs))

pub length_pairs : (w : List ℕ) → length (pair_values w) ≡ length w / 2
length_pairs [] = refl
length_pairs (a ∷ []) = refl
length_pairs (a ∷ b ∷ cs) = let e = length_pairs cs in omega arith

-- a word of no byte, of one and of more
pub word_none : (w : List ℕ) → length w ≡ 0 → false ≡ is_hex_word w
word_none [] h = refl
word_none (a ∷ cs) h = absurd (omega arith)

pub word-one : (w : List ℕ) → length w ≡ 1 → eqb (get_or w 0 0) 45 ≡ is_hex_word w
word-one [] h = absurd (omega arith)
word-one (a ∷ []) h = refl
word-one (a ∷ b ∷ cs) h = absurd (omega arith)

pub word_more : (w : List ℕ) → (length w ≡ 0 → ⊥) → (length w ≡ 1 → ⊥) → are_pairs w ≡ is_hex_word w
word_more [] h l = absurd (h refl)
word_more (a ∷ []) h l = absurd (l refl)
word_more (a ∷ b ∷ cs) h l = refl

pick_small : (low high base c other : ℕ) → high - base < 16 → other < 16
    → pick (in_range low high c) (c - base) other < 16
pick_small low high base c other h l =
    either_way (in_range low high c)
    (λ t. let r = in-range low high c t in rw t (omega arith))
    (λ n. rw n l)

-- the value of a digit is below 16, and that of a byte which is no digit is 0
pub hex-small : (c : ℕ) → hex_value c < 16
hex-small c =
    pick_small 48 57 48 c _ (omega arith) (pick_small 97 102 87 c _ (omega arith)
    (pick_small 65 70 55 c 0 (omega arith) (omega arith)))

unreadable : (w xs : List ℕ) → is_readable w (length xs) ≡ false → HexReading w xs None xs
unreadable w xs e = record { answer = rw e; bytes = rw e }

module _ (w xs : List ℕ) where
  pub no_word : is_hex_word w ≡ false → HexReading w xs None xs
  unfolding is_readable
  no_word e = unreadable w xs (rw e)

  pub no_room : is_hex_word w ≡ true → length xs < length w / 2 → HexReading w xs None xs
  unfolding is_readable
  no_room e h = unreadable w xs (rw (e, length_pairs w) (lt-leb (length w / 2) (length xs) h))

  pub word_read : is_hex_word w ≡ true → length w / 2 ≤ length xs → (n : ℕ) (ys : List ℕ)
      → Placed xs 0 (pair_values w) n ys → HexReading w xs (Some n) ys
  unfolding is_readable
  word_read e h n ys p =
      let l = length_pairs w in
      let i = p.index in
      let readable : is_readable w (length xs) ≡ true =
      rw e (le-leb (length (pair_values w)) (length xs) (omega arith)) in
      record { answer = rw readable (ap Some (omega arith)); bytes = rw readable p.bytes }

-- the digit printed for a number has that number as its value
digit-back : (d : ℕ) → d < 16 → (hex_value (hex_digit d) ≡ d) × (is_hex (hex_digit d) ≡ true)
digit-back d h = elim (dec_lt d 10) [
  | yes small ↦
      rw (lt-ltb d 10 small, le-leb 48 (48 + d) (omega arith), le-leb (48 + d) 57 (omega arith)) (omega arith, refl)
  | no large ↦
      let e : is_digit (87 + d) ≡ false = rw (le-leb 48 (87 + d) (omega arith), lt-leb (87 + d) 57 (omega arith)) in
      let l : ltb d 10 ≡ false = le-ltb d 10 (omega arith) in
      rw (l, e, le-leb 97 (87 + d) (omega arith), le-leb (87 + d) 102 (omega arith)) (omega arith, refl)
]

-- the digits printed for bytes are pairs, and their values are the bytes
pairs-back : (bs : List ℕ) → are_bytes bs ≡ true → (are_pairs (hex_digits bs) ≡ true) × (pair_values (hex_digits bs) ≡ bs)
pairs-back [] h = (refl, refl)
pairs-back (b ∷ bs) h =
    let p = and_parts (ltb b 256) (are_bytes bs) h in
    let byte : b < 256 = ltb-true b 256 p.0 in
    let high = digit-back (b / 16) (omega arith) in
    let low = digit-back (b % 16) (omega arith) in
    let rest = pairs-back bs p.1 in
    (rw (high.1, low.1) rest.0, rw (high.0, low.0, rest.1) (ap (λ (x : ℕ). x ∷ bs) (omega arith)))

pub hex-back : (bs : List ℕ) → are_bytes bs ≡ true → (is_hex_word (hex_of bs) ≡ true) × (pair_values (hex_of bs) ≡ bs)
unfolding hex_of
hex-back [] h = (refl, refl)
hex-back (b ∷ bs) h = pairs-back (b ∷ bs) h
