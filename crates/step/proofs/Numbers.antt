-- A kind and its number determine each other, and `is` is equality of kinds.
use Rattle.std.specs.Prelude.{Bool, true, false, ◌&&◌, not, ◌≡◌, ℕ, zero, suc, ◌≤◌, ◌<◌, eqb, ltb, cond, refl}
use mathlib.Core.Path.{sym, ap, ◌∙◌}
use native.Mathlib.Omega.{arith}
use lib.ListN.{get_or-eq_default}
use borrow.Author.Tests.{eqb-true, eqb-false, eq-eqb, ltb-true, ltb-false}
use Rattle.std.proofs.lemmas.Bool.{and_parts}
use Rattle.base.proofs.Bools.{either_way}
use Rattle.step.specs.{declared.kind.Kind.Kind, Kinds.kind_number, Kinds.kinds, Kinds.kind_of, Kinds.known, Kinds.is}
use Rattle.step.specs.declared.kind.Kind.TheVariants as kind
use Rattle.step.specs.contracts.kind.KindPartialEq.TheImpl as derived

-- The test holds for each number below n.
abbrev every : (ℕ → Bool) → ℕ → Bool
every p zero = true
every p (suc n) = p n && every p n

below : (p : ℕ → Bool) (n : ℕ) → every p n ≡ true → (k : ℕ) → k < n → p k ≡ true
below p zero t k h = absurd (omega arith)
below p (suc n) t k h =
    let both = and_parts (p n) (every p n) t in
    either_way (eqb k n) (λ e. rw (eqb-true k n e) both.0) (λ e. below p n both.1 k (omega (arith, eqb-false k n e)))

-- The number x is not one of 1 to n.
abbrev pub NoneOf : ℕ → ℕ → Type 0
NoneOf zero x = Unit {0}
NoneOf (suc n) x = NoneOf n x × (x ≡ suc n → ⊥)

outside : (n x : ℕ) → NoneOf n x → 1 ≤ x → n < x
outside zero x h lo = lo
outside (suc n) x h lo = let less : n < x = outside n x h.0 lo in omega (arith, h.1)

past : (x : ℕ) → 45 < x → kind_of x ≡ kind.Unknown x
unfolding kinds
past x h = get_or-eq_default kinds (kind.Unknown x) h

-- A number that is none of 1 to 45 is no kind.
pub unknown_of : (x : ℕ) → NoneOf 45 x → kind.Unknown x ≡ kind_of x
unfolding kinds
unknown_of zero h = refl
unknown_of (suc n) h = sym (past (suc n) (outside 45 (suc n) h (omega arith)))

-- The number of the kind of a number is the number.
pub number-of : (x : ℕ) → kind_number (kind_of x) ≡ x
unfolding kinds
number-of x =
    let back : ℕ → Bool = λ j. eqb (kind_number (kind_of j)) j in
    either_way (ltb x 46)
    (λ e. eqb-true (kind_number (kind_of x)) x (below back 46 refl x (ltb-true x 46 e)))
    (λ e. ap kind_number (past x (omega (arith, ltb-false x 46 e))))

-- A known kind is that of its number.
pub of_number : (k : Kind) → known k ≡ true → kind_of (kind_number k) ≡ k
unfolding kinds
of_number (kind.Unknown number) e = let z : ◌≡◌ {A = ℕ} 0 1 = cc in absurd (omega arith)
of_number k e = refl

-- The number of a known kind is at least 1.
pub known-from : (k : Kind) → known k ≡ true → 1 ≤ kind_number k
known-from (kind.Unknown number) e = let z : ◌≡◌ {A = ℕ} 0 1 = cc in absurd (omega arith)
known-from k e = omega arith

-- A kind that is not known is its number.
unknown : (k : Kind) → known k ≡ false → k ≡ kind.Unknown (kind_number k)
unknown (kind.Unknown number) e = refl
unknown k e = let z : ◌≡◌ {A = ℕ} 0 1 = cc in absurd (omega arith)

-- Kinds that are the same are equal.
pub is-true : (j k : Kind) → is j k ≡ true → j ≡ k
is-true j k e =
    let both = and_parts (cond (known j) (known k) (not (known k))) (eqb (kind_number j) (kind_number k)) e in
    let numbers = eqb-true (kind_number j) (kind_number k) both.1 in
    either_way (known j) (λ p. sym (of_number j p) ∙ ap kind_of numbers ∙ of_number k (rw p at both.0))
    (λ p.
    either_way (known k) (λ q. let apart = rw (p, q) at both.0 in let z : ◌≡◌ {A = ℕ} 0 1 = cc in absurd (omega arith))
    (λ q. unknown j p ∙ ap kind.Unknown numbers ∙ sym (unknown k q)))

-- A kind is the same as itself.
pub same : (k : Kind) → is k k ≡ true
same (kind.Unknown number) = eq-eqb number number refl
same k = refl

-- The derived test of two kinds is `is`.
pub derived_is : (j k : Kind) → (derived.eq-value).it j k ≡ is j k
derived_is (kind.Unknown m) (kind.Unknown n) = refl
derived_is (kind.Unknown m) k = refl
derived_is j (kind.Unknown n) = refl
derived_is j k = refl
