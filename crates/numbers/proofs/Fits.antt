-- The test of each number and its limit, by their index, is the test of a row against its limits.
use Rattle.std.specs.Prelude.{◌≡◌, Bool, ◌&&◌, List, [], ◌∷◌, ℕ, suc, ◌+◌, leb}
use mathlib.Core.Path.{refl, ap, ◌∙◌}
use native.Mathlib.Omega.{arith}
use Rattle.std.specs.List.{list_all, enumerate_from}
use Rattle.base.specs.Choice.{pick}
use Rattle.numbers.specs.{Fields.nth, Parts.fit_from}

abbrev pub within : Bool → List ℕ → ℕ → ℕ × ℕ → Bool
within there n i p = leb (nth n (i + p.0)) (pick there p.1 0)

pub each_within : (there : Bool) (n : List ℕ) (i k : ℕ) (limits : List ℕ)
    → list_all (within there n i) (enumerate_from k limits) ≡ fit_from there n (i + k) limits
each_within there n i k [] = refl
each_within there n i k (limit ∷ limits) =
    let e : list_all (within there n i) (enumerate_from (k + 1) limits) ≡ fit_from there n (suc (i + k)) limits =
    each_within there n i (k + 1) limits ∙ ap (λ (at : ℕ). fit_from there n at limits) (omega arith) in
    ap (λ (t : Bool). leb (nth n (i + k)) (pick there limit 0) && t) e
