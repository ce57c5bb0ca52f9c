-- The test `same` is true just for equal texts, which have equal lengths.
use Rattle.std.specs.Prelude.{◌≡◌, refl, true, List, [], ◌∷◌, ℕ, eqb, length}
use mathlib.Core.Path.{ap}
use native.Mathlib.Omega.{arith}
use borrow.Author.Tests.{eqb-true, eq-eqb}
use Rattle.std.proofs.lemmas.Bool.{and_parts}
use Rattle.text.specs.Ascii.{same}

pub same_true : (xs ys : List ℕ) → same xs ys ≡ true → xs ≡ ys
same_true [] [] e = refl
same_true [] (y ∷ ys) e = let z : ◌≡◌ {A = ℕ} 0 1 = cc in absurd (omega arith)
same_true (x ∷ xs) [] e = let z : ◌≡◌ {A = ℕ} 0 1 = cc in absurd (omega arith)
same_true (x ∷ xs) (y ∷ ys) e =
    let both = and_parts (eqb x y) (same xs ys) e in
    let x-y : x ≡ y = eqb-true x y both.0 in
    let xs-ys : xs ≡ ys = same_true xs ys both.1 in
    cc

pub same_refl : (xs : List ℕ) → same xs xs ≡ true
same_refl [] = refl
same_refl (x ∷ xs) = rw (eq-eqb x x refl) (same_refl xs)

pub same_length : (xs ys : List ℕ) → same xs ys ≡ true → length xs ≡ length ys
same_length xs ys e = ap length (same_true xs ys e)
