-- An answer has at most 3477 bytes: a 32-bit number has at most 10 digits, a 64-bit number at most 20, and a byte has two hex
-- digits.
use Rattle.std.specs.Prelude.{◌≡◌, List, [], ◌∷◌, ℕ, suc, ◌+◌, ◌*◌, ◌%◌, ◌≤◌, ◌<◌, eqb, length, get_or}
use native.Mathlib.Omega.{arith}
use lib.ListN.{length-append}
use Rattle.base.specs.Choice.{in_range}
use Rattle.base.proofs.Bools.{either_way}
use Rattle.text.specs.{Decimal.decimal_of, Hex.hex_digits, Hex.hex_of, Reply.spaced, Reply.row_text}
use Rattle.text.proofs.Decimals.{length-decimal}
use Rattle.numbers.specs.{Answers.refusals, Answers.malformed, Fields.room}
use Rattle.cases.specs.{Said.number_text, Said.hex_behind, Said.call_text, Say.longest_answer}

-- a 64-bit number has at most 20 digits
decimal-short : (n : ℕ) → n < 18446744073709551616 → length (decimal_of n) ≤ 20
decimal-short n h = (length-decimal 19 n (omega arith)).1

number_short : (r : ℕ) → r < 18446744073709551616 → length (number_text r) ≤ 20
number_short r h =
    either_way (in_range refusals (refusals + 255) r)
    (λ e. rw e (simp length-append (omega (arith, (length-decimal 2 (r % 256) (omega arith)).1)))) (λ e. rw e (decimal-short r h))

spaced-short : (ns : List ℕ) → ((i : ℕ) → get_or ns i 0 < 4294967296) → length (spaced ns) ≤ 11 * length ns
spaced-short [] all = omega arith
spaced-short (n ∷ ns) all =
    let digits = length-decimal 9 n (omega (arith, all 0)) in
    let rest = spaced-short ns (λ i. all (suc i)) in
    simp length-append (omega (arith, digits.1, rest))

digits-length : (bs : List ℕ) → length (hex_digits bs) ≡ 2 * length bs
digits-length [] = omega arith
digits-length (b ∷ bs) = let rest = digits-length bs in omega arith

hex-short : (bs : List ℕ) → length (hex_behind bs) ≤ 1 + 2 * length bs
unfolding hex_of
hex-short [] = omega arith
hex-short (b ∷ bs) = let rest = digits-length (b ∷ bs) in omega arith

pub call_short : (r : ℕ) (row bytes : List ℕ) → r < 18446744073709551616 → ((i : ℕ) → get_or row i 0 < 4294967296)
    → length row ≤ 128 → length bytes ≤ room → length (call_text r row bytes) ≤ longest_answer
unfolding call_text
call_short r row bytes h all few small =
    either_way (eqb r malformed) (λ e. rw e (omega arith))
    (λ e. rw e (simp length-append (omega (arith, number_short r h, spaced-short row all, hex-short bytes))))

pub row_short : (a b : ℕ) → a < 18446744073709551616 → b < 18446744073709551616 → length (row_text a (b ∷ [])) ≤ longest_answer
row_short a b h k = simp length-append (omega (arith, decimal-short a h, decimal-short b k))
