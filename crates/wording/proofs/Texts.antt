-- The texts of k + 1 settings are those of k settings and one more, and so are the lines of the clocks.
use Rattle.std.specs.Prelude.{◌≡◌, List, [], ◌∷◌, ◌++◌, ℕ, ◌+◌, drop, get_or}
use mathlib.Core.Path.{refl, ap, ◌∙◌}
use native.Mathlib.{Nat.add-zero, Numerals.add-one}
use Rattle.std.proofs.lemmas.List.{get_or-drop, drop-drop}
use Rattle.base.proofs.Writing.{writing}
use Rattle.config.specs.declared.ClockConfig.{ClockConfig}
use Rattle.wording.specs.Differs.{part_text, part_texts, clock_text, clock_texts}

pub parts_none : (mask reading : ℕ) (p q : ClockConfig) → part_texts mask reading p q 0 ≡ []
unfolding part_texts
parts_none mask reading p q = refl

pub parts_more : (mask reading : ℕ) (p q : ClockConfig) (k : ℕ)
    → part_texts mask reading p q (k + 1) ≡ part_texts mask reading p q k ++ part_text mask k reading p q
unfolding part_texts
parts_more mask reading p q k = rw (add-one k)

pub clocks_none : (was asked : List ℕ) → clock_texts was asked 0 ≡ []
unfolding clock_texts
clocks_none was asked = refl

-- the first of what is left of a list from index k on, and the rest
pub left : (xs ys : List ℕ) (k x : ℕ) → x ∷ ys ≡ drop k xs → (x ≡ get_or xs k 0) × (ys ≡ drop (k + 1) xs)
left xs ys k x e = (
  rw add-zero at (ap (λ l. get_or l 0 0) e ∙ get_or-drop k xs 0 0),
  ap (λ (l : List ℕ). drop 1 l) e ∙ drop-drop 1 k xs,
)

pub clocks_more : (was asked : List ℕ) (k w a : ℕ) → w ≡ get_or was k 0 → a ≡ get_or asked k 0
    → clock_texts was asked (k + 1) ≡ clock_texts was asked k ++ clock_text k w a
unfolding clock_texts
clocks_more was asked k w a e f = rw (add-one k, e, f)

-- what the loops over the settings and over the clocks rewrite by
pub ruleset parts = (writing, parts_none, parts_more)

pub ruleset clocks = (writing, clocks_none, clocks_more, left)
