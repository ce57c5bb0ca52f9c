-- The output of a program as a call writes it into a buffer: whole, and decided by the first bytes of the input.
use Rattle.std.specs.Prelude.{List, ◌++◌, ◌≡◌, ℕ, ◌≤◌, length, take, drop}

-- the whole output fits the buffer, and the bytes after it keep their values
pub record Whole (output before : List ℕ) (size : ℕ) (after : List ℕ) : Type 0 where
  pub fits : size ≤ length after
  pub size_is : size ≡ length output
  pub bytes : after ≡ output ++ drop size before

-- a call that is given the first bytes of an input, all of them or enough, writes the output of every input that begins with them
pub record Printed (output_of : List ℕ → List ℕ) (enough : ℕ) (start before : List ℕ) (size : ℕ) (after : List ℕ) : Type 0 where
  pub fits : size ≤ length after
  pub prints : (input : List ℕ) → take enough input ≡ take enough start → Whole (output_of input) before size after
