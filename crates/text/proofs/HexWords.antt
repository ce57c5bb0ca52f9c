-- A word of hex that is read into a buffer is readable and its bytes are at the buffer's start; where the answer is None the word
-- is not readable.
use Rattle.std.specs.Prelude.{◌≡◌, true, false, List, Option, Some, None, ℕ, ◌+◌, ◌≤◌, length, take, drop}
use mathlib.Core.Path.{sym, ap, ◌∙◌}
use native.Mathlib.Omega.{arith}
use borrow.Author.Tests.{leb-true}
use lib.Seq.{take-append_seam, length-sets, sets-eq}
use Rattle.std.proofs.lemmas.Bool.{and_parts}
use Rattle.base.proofs.Bools.{either_way}
use Rattle.text.specs.Hex.{is_hex_word, pair_values, is_readable, HexReading}

-- a word that is read: the first k bytes of the buffer are its bytes
pub record WordRead (w xs : List ℕ) (k : ℕ) (ys : List ℕ) : Type 0 where
  pub readable : is_readable w (length xs) ≡ true
  pub within : k ≤ length ys
  pub taken : k ≡ length (take k ys)
  pub bytes : take k ys ≡ pair_values w

module _ {w xs ys : List ℕ} {r : Option ℕ} where
  pub word_read : {k : ℕ} → r ≡ Some k → HexReading w xs r ys → WordRead w xs k ys
  unfolding is_readable
  word_read {k} told h =
      either_way (is_readable w (length xs))
      (λ e.
      let a : Some k ≡ Some (length (pair_values w)) = rw (e, told) at h.answer in
      let long : k ≡ length (pair_values w) = cc in
      let room = leb-true (length (pair_values w)) (length xs) (and_parts (is_hex_word w) _ e).1 in
      let bytes = rw e at h.bytes in
      let size : length ys ≡ length xs = ap length bytes ∙ length-sets xs 0 (pair_values w) in
      let in-front : take k ys ≡ pair_values w = rw (bytes, sets-eq (pair_values w) xs 0 (omega arith), long)
      (take-append_seam (pair_values w) (drop (0 + length (pair_values w)) xs)) in
      record { readable = e; within = omega arith; taken = long ∙ sym (ap length in-front); bytes = in-front })
      (λ e. let a : Some k ≡ None = rw (e, told) at h.answer in let z : ◌≡◌ {A = ℕ} 0 1 = cc in absurd (omega arith))

  pub no_word : r ≡ None → HexReading w xs r ys → is_readable w (length xs) ≡ false
  no_word told h =
      either_way (is_readable w (length xs))
      (λ e.
      let a : None ≡ Some (length (pair_values w)) = rw (e, told) at h.answer in
      let z : ◌≡◌ {A = ℕ} 0 1 = cc in
      absurd (omega arith)) (λ e. e)
