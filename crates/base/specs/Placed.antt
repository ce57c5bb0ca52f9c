-- Values placed into a lent buffer one after another, as a function promises that answers the index after them; what a writer
-- puts is stated by `Puts`.
use Rattle.std.specs.Prelude.{◌≡◌, List, ℕ, ◌+◌, min, length}
use lib.Seq.{sets}

-- the index after the values vs placed from index at on, at most the buffer's length
abbrev pub past : {A : Type 0} → List A → ℕ → List A → ℕ
past xs at vs = min (at + length vs) (length xs)

-- the call that finds the buffer xs, writes the values bs at index at, leaves the buffer ys and answers the index next; a value
-- whose index is not in the buffer is dropped
pub record Placed {A : Type 0} (xs : List A) (at : ℕ) (bs : List A) (next : ℕ) (ys : List A) : Type 0 where
  pub index : next ≡ past xs at bs
  pub bytes : ys ≡ sets xs at bs
