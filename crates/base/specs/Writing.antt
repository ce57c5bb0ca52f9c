-- What a writer holds, and what it holds after values are put.
use Rattle.std.specs.Prelude.{◌≡◌, List, ℕ, ◌+◌, min, max, length}
use Rattle.std.specs.Borrow.{MutBor}
use lib.Seq.{sets}
use Rattle.base.specs.declared.writer.Writer.{Writer}

-- which buffer it is, what the buffer holds, and the index after the values that were put
pub record Written (A : Type 0) : Type 0 where
  pub name : ℕ
  pub values : List A
  pub at : ℕ

abbrev pub written : {A : Type 0} → Writer A → Written A
written w = record { name = w.buf.ghost_name; values = w.buf.now; at = w.at }

-- values are put from the index on; a value whose index is not in the buffer is dropped
unfoldable pub puts : {A : Type 0} → Written A → List A → Written A
puts w vs =
    record { name = w.name; values = sets w.values w.at vs; at = max w.at (min (w.at + length vs) (length w.values)) }

-- the call that finds the writer before, puts the values vs and leaves the writer after
abbrev pub Puts : {A : Type 0} → Writer A → List A → Writer A → Type 0
Puts before vs after = written after ≡ puts (written before) vs

-- a writer at the start of the buffer
pub record IsNew {A : Type 0} (buf : MutBor (List A)) (w : Writer A) : Type 0 where
  pub name : w.buf.ghost_name ≡ buf.ghost_name
  pub values : w.buf.now ≡ buf.now
  pub at : w.at ≡ 0
