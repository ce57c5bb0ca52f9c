-- Quoted text as bytes, the ASCII code of each character, and the comparison of two texts.
use mathlib.Core.{Bool.Bool, List.List, List.[], List.◌∷◌}
use Prim.Native.{Nat.ℕ, Char.code, String.String, String.[] as ended, String.◌∷◌ as ◌before◌}
use lib.{Dec.eqb, Pointwise.pointwise}

abbrev pub ascii : String → List ℕ
ascii ended = []
ascii (c before cs) = code c ∷ ascii cs

-- whether two texts are the same
abbrev pub same : List ℕ → List ℕ → Bool
same = pointwise eqb
