-- What a contract sees of a list of bounded length.
use Rattle.std.specs.Prelude.{List}

-- the elements in order, and what the rest of the array holds, of which no clause says anything
pub record Bounded (T : Type 0) : Type 0 where
  pub list : List T
  pub spare : List T
