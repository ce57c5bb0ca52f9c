-- Numbers that each follow a space are printed one by one: the text of two lists is that of both, one after the other.
use Rattle.std.specs.Prelude.{◌≡◌, refl, List, [], ◌∷◌, ◌++◌, ℕ, ◌+◌, ◌<◌, length, take, get_or}
use mathlib.Core.{Path.ap, List.append-nil, List.append_assoc}
use native.Mathlib.Numerals.{add-one}
use lib.Seq.{take-suc}
use Rattle.text.specs.{Decimal.decimal_of, Reply.spaced_by}

module _ {A : Type 0} (number : A → ℕ) where
  pub spaced-append : (ns ms : List A) → spaced_by number (ns ++ ms) ≡ spaced_by number ns ++ spaced_by number ms
  spaced-append [] ms = refl
  spaced-append (n ∷ ns) ms =
      ap (λ (l : List ℕ). 32 ∷ l) (rw (spaced-append ns ms, append_assoc))

  pub spaced-step : (ns : List A) (i : ℕ) (d : A) → i < length ns
      → spaced_by number (take (i + 1) ns) ≡ spaced_by number (take i ns) ++ (32 ∷ decimal_of (number (get_or ns i d)))
  spaced-step ns i d h =
      rw (add-one, take-suc ns i d h, spaced-append (take i ns) (get_or ns i d ∷ []), append-nil)
