-- The test holds exactly for equal rows of numbers, no bit is set exactly where all rows are equal, and each bit says whether its
-- rows differ.
use Rattle.std.specs.Prelude.{◌≡◌, Bool, ◌&&◌, not, List, [], ◌∷◌, ℕ, zero, suc, ◌+◌, ◌*◌, ◌/◌, ◌%◌, ◌^◌, ◌<◌, eqb, length, get_or}
use mathlib.Core.{Path.refl, Path.sym, Path.◌∙◌, Bool.and-true, Bool.and-false}
use native.Mathlib.{Nat.div-div-eq-div-mul, Nat.pow-suc, Omega.arith}
use borrow.Author.Tests.{eq-eqb, ne_eqb}
use Rattle.base.specs.Choice.{pick}
use Rattle.base.proofs.Bools.{either_way}
use Rattle.std.proofs.Math.Bool.{and_assoc}
use Rattle.text.specs.Ascii.{same}
use Rattle.text.proofs.Same.{same_true, same_refl}
use Rattle.wording.specs.{Differences.mask_of, Differences.has_bit, Inside.agree_from, Inside.agree}

from-same : (t : Bool) (xs ys : List ℕ) → agree_from t xs ys ≡ (t && same xs ys)
from-same t [] [] = sym (and-true t)
from-same t [] (y ∷ ys) = sym (and-false t)
from-same t (x ∷ xs) [] = sym (and-false t)
from-same t (x ∷ xs) (y ∷ ys) = from-same (t && eqb x y) xs ys ∙ and_assoc t (eqb x y) (same xs ys)

pub agree-same : (xs ys : List ℕ) → agree xs ys ≡ same xs ys
agree-same [] [] = refl
agree-same [] (y ∷ ys) = refl
agree-same (x ∷ xs) [] = refl
agree-same (x ∷ xs) (y ∷ ys) = from-same (eqb x y) xs ys

pub mask-none : (xs ys : List (List ℕ)) → length xs ≡ length ys → mask_of xs ys ≡ 0 → xs ≡ ys
mask-none [] [] l e = refl
mask-none [] (y ∷ ys) l e = absurd (omega arith)
mask-none (x ∷ xs) [] l e = absurd (omega arith)
mask-none (x ∷ xs) (y ∷ ys) l e =
    either_way (same x y)
    (λ yes.
    let z = rw yes at e in
    let x-y : x ≡ y = same_true x y yes in
    let xs-ys : xs ≡ ys = mask-none xs ys (omega arith) (omega arith) in
    cc) (λ no. let z = rw no at e in absurd (omega arith))

pub mask-same : (xs : List (List ℕ)) → mask_of xs xs ≡ 0
mask-same [] = refl
mask-same (x ∷ xs) = rw (same_refl x, mask-same xs)

-- bit k is set exactly where the rows k differ
pub mask-bit : (xs ys : List (List ℕ)) (k : ℕ) → k < length xs → k < length ys
    → has_bit (mask_of xs ys) k ≡ not (same (get_or xs k []) (get_or ys k []))
mask-bit [] ys k h l = absurd (omega arith)
mask-bit (x ∷ xs) [] k h l = absurd (omega arith)
mask-bit (x ∷ xs) (y ∷ ys) zero h l =
    either_way (same x y) (λ e. rw e (ne_eqb ((0 + 2 * mask_of xs ys) / 1 % 2) 1 (λ e. omega arith)))
    (λ e. rw e (eq-eqb ((1 + 2 * mask_of xs ys) / 1 % 2) 1 (omega arith)))
mask-bit (x ∷ xs) (y ∷ ys) (suc k) h l =
    let both : ℕ = pick (same x y) 0 1 + 2 * mask_of xs ys in
    let half : both / 2 ≡ mask_of xs ys = either_way (same x y) (λ e. rw e (omega arith)) (λ e. rw e (omega arith)) in
    let twice : 2 ^ suc k ≡ 2 * 2 ^ k = omega (arith, pow-suc 2 k) in
    rw (twice, ← div-div-eq-div-mul both 2 (2 ^ k), half) (mask-bit xs ys k (omega arith) (omega arith))
