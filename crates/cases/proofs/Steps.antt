-- A word is taken as its letter says, the letters are taken one after another, and the hex of no bytes is no text.
use Rattle.std.specs.Prelude.{Option, Some, None, Result, Ok, Err, MatchOption, option_map, option_and_then, ◌≡◌, refl, Bool, true}
use Rattle.std.specs.Prelude.{false, List, [], ◌∷◌, ℕ, suc, ◌≤◌, ◌<◌, eqb, leb, length, drop, get_or}
use Rattle.std.specs.{Bool.then_some, Result.result_ok}
use Rattle.base.specs.{Answer.answer_of, declared.refusal.Refusal.Refusal, Choice.pick}
use native.Mathlib.Omega.{arith}
use borrow.Author.Tests.{lt-ltb, le-ltb, leb-true}
use lib.{ListN.drop_of_length-le, Seq.sets, Seq.drop-cons}
use Rattle.base.proofs.Bools.{either_way}
use Rattle.std.proofs.lemmas.Bool.{and_parts}
use Rattle.text.specs.Hex.{is_hex_word, is_readable, pair_values, hex_of, HexReading}
use Rattle.text.proofs.HexWords.{no_word}
use Rattle.cases.specs.Words.{with_number, number_step, step, given}
use Rattle.cases.specs.{declared.words.Words.Words, Line.word_after, Line.rest_after, Said.hex_behind}

-- a word of hex that is read: it is readable, the count is that of its bytes, and these are at the buffer's start
pub record Hexed (w xs : List ℕ) (m : ℕ) (ys : List ℕ) : Type 0 where
  pub readable : is_readable w (length xs) ≡ true
  pub count : m ≡ length (pair_values w)
  pub fits : m ≤ length xs
  pub bytes : ys ≡ sets xs 0 (pair_values w)

module _ {w xs ys : List ℕ} where
  pub hexed : {m : ℕ} → HexReading w xs (Some m) ys → Hexed w xs m ys
  unfolding is_readable
  hexed {m} h =
      either_way (is_readable w (length xs))
      (λ r.
      let e : Some m ≡ Some (length (pair_values w)) = rw r at h.answer in
      let count : m ≡ length (pair_values w) = cc in
      let room = and_parts (is_hex_word w) (leb (length (pair_values w)) (length xs)) r in
      let fits : m ≤ length xs = omega (arith, leb-true (length (pair_values w)) (length xs) room.1) in
      record { readable = r; count = count; fits = fits; bytes = rw r at h.bytes })
      (λ r. let e : Some m ≡ None = rw r at h.answer in let z : ◌≡◌ {A = ℕ} 0 1 = cc in absurd (omega arith))

  pub not-hexed : HexReading w xs None ys → is_readable w (length xs) ≡ false
  not-hexed h = no_word refl h

-- a number that is at most its limit is stored
pub counted : (s : Words) (a : Result ℕ Refusal) (top : ℕ) (r : Option ℕ)
    → MatchOption (result_ok a) (r ≡ None) (λ n. r ≡ then_some (leb n top) n)
    → option_map (with_number s) r ≡ number_step top (answer_of a) s
counted s (Ok n) top r e = rw e (either_way (leb n top) (λ t. rw t) (λ t. rw t))
counted s (Err why) top r e = rw e

-- the result for the letters from i on, by one letter more
module _ (rest letters : List ℕ) (i : ℕ) (s : Words) (in_letters : i < length letters) where
  pub letter-none : eqb (length rest) 0 ≡ true → given rest (drop i letters) s ≡ pick (eqb (get_or letters i 0) 111) (Some s) None
  unfolding given
  letter-none out = rw (drop-cons letters i 0 in_letters, out)

  module _ (more : eqb (length rest) 0 ≡ false) where
    pub letter-full : 128 ≤ s.count → given rest (drop i letters) s ≡ None
    unfolding given
    letter-full full = rw (drop-cons letters i 0 in_letters, more, le-ltb s.count 128 full)

    letter-more : s.count < 128 → given rest (drop i letters) s
        ≡ option_and_then (given (rest_after rest) (drop (suc i) letters)) (step (get_or letters i 0) (word_after rest) s)
    unfolding given
    letter-more room = rw (drop-cons letters i 0 in_letters, more, lt-ltb s.count 128 room)

    pub letter-taken : {o : Option Words} {word after : List ℕ} → s.count < 128 → word ≡ word_after rest → after ≡ rest_after rest
        → o ≡ step (get_or letters i 0) word s
        → given rest (drop i letters) s ≡ option_and_then (given after (drop (suc i) letters)) o
    letter-taken room w r t = rw (r, rw w at t) (letter-more room)

pub letters-end : (rest letters : List ℕ) (i : ℕ) (s : Words) → length letters ≤ i
    → given rest (drop i letters) s ≡ pick (eqb (length rest) 0) (Some s) None
unfolding given
letters-end rest letters i s out = rw (drop_of_length-le letters out)

pub behind-none : (bs : List ℕ) → length bs ≡ 0 → hex_behind bs ≡ []
behind-none [] e = refl
behind-none (b ∷ bs) e = absurd (omega arith)

pub behind_some : (bs : List ℕ) → eqb (length bs) 0 ≡ false → hex_behind bs ≡ 32 ∷ hex_of bs
behind_some [] some = let z : ◌≡◌ {A = Bool} true false = some in cc
behind_some (b ∷ bs) some = refl
