-- The addresses that steps may change; all others keep their values.
use Rattle.std.specs.Prelude.{Bool, true, false, ◌&&◌, ◌||◌, ◌≡◌, refl, List, [], ◌∷◌, ◌++◌, ℕ, eqb}
use mathlib.Core.Path.{sym, ap, ◌∙◌}
use native.Mathlib.Omega.{arith}
use borrow.Author.Tests.{ne_eqb}
use Rattle.base.specs.{Choice.pick, Answer.Answer, Answer.value, Answer.refusal}
use Rattle.std.proofs.lemmas.Bool.{and_parts, or_parts}
use Rattle.chip.specs.declared.Chip.{Chip, TheVariants.Rp2040, TheVariants.Rp235x}
use Rattle.step.specs.declared.Step.{Step}
use Rattle.registers.specs.{declared.Access.Access, Access.access_of, Access.op_of, Access.address_of, Map.RESET, Map.PLL_PWR}
use Rattle.bring_up.specs.Machine.{written, held, done, carried_out}

abbrev pub member : ℕ → List ℕ → Bool
member x [] = false
member x (y ∷ ys) = eqb y x || member x ys

abbrev pub within : List ℕ → List ℕ → Bool
within [] ys = true
within (x ∷ xs) ys = member x ys && within xs ys

-- the chip's register is none of these; on a given chip this computes, so that it holds by `refl` for each
abbrev pub Apart : (Chip → List ℕ) → (Chip → ℕ) → Chip → Type 0
Apart own x c = member (x c) (own c) ≡ false

pub apart : (own : Chip → List ℕ) (x : Chip → ℕ) → Apart own x Rp2040 → Apart own x Rp235x → (c : Chip) → Apart own x c
apart own x a b Rp2040 = a
apart own x a b Rp235x = b

pub member-append : (x : ℕ) (xs ys : List ℕ) → member x (xs ++ ys) ≡ false → (member x xs ≡ false) × (member x ys ≡ false)
member-append x [] ys h = (refl, h)
member-append x (z ∷ xs) ys h =
    let both = or_parts (eqb z x) (member x (xs ++ ys)) h in
    let rest = member-append x xs ys both.1 in
    (rw (both.0, rest.0), rest.1)

differ : (z x : ℕ) (ys : List ℕ) → member z ys ≡ true → member x ys ≡ false → eqb z x ≡ false
differ z x ys h k =
    ne_eqb z x
    (λ e.
    let z : true ≡ false = sym h ∙ ap (λ (n : ℕ). member n ys) e ∙ k in
    let y : ◌≡◌ {A = ℕ} 0 1 = cc in
    omega arith)

pub outside : (x : ℕ) (xs ys : List ℕ) → within xs ys ≡ true → member x ys ≡ false → member x xs ≡ false
outside x [] ys h k = refl
outside x (z ∷ xs) ys h k =
    let both = and_parts (member z ys) (within xs ys) h in
    rw (differ z x ys both.0 k, outside x xs ys both.1 k)

-- the addresses that an access may change: its register, and at RESET also PWR of the PLLs
abbrev reaches : Chip → Answer Access → List ℕ
reaches c (value a) =
    pick (eqb (op_of a) 1 || eqb (op_of a) 2)
    ((address_of a) ∷ pick (eqb (address_of a) (RESET c)) (PLL_PWR c 0 ∷ PLL_PWR c 1 ∷ []) []) []
reaches c (refusal n) = []

abbrev pub reach : Chip → List Step → List ℕ
reach c [] = []
reach c (s ∷ ss) = reaches c (access_of c s) ++ reach c ss

-- `done`, by its tests
keeps : (changes resets : Bool) (a x p q : ℕ) (h k : Bool) (v w old : ℕ)
    → member x (pick changes (a ∷ pick resets (p ∷ q ∷ []) []) []) ≡ false
    → pick ((changes && resets) && ((eqb p x && h) || (eqb q x && k))) v (pick (changes && eqb a x) w old) ≡ old
keeps false resets a x p q h k v w old e = refl
keeps true false a x p q h k v w old e = rw (or_parts (eqb a x) false e).0
keeps true true a x p q h k v w old e =
    let e0 = or_parts (eqb a x) (eqb p x || (eqb q x || false)) e in
    let e1 = or_parts (eqb p x) (eqb q x || false) e0.1 in
    let e2 = or_parts (eqb q x) false e1.1 in
    rw (e0.0, e1.0, e2.0)

done-keeps : (c : Chip) (access : Answer Access) (file : ℕ → ℕ) (x : ℕ)
    → member x (reaches c access) ≡ false → done c access file x ≡ file x
done-keeps c (value a) file x e =
    let reset : ℕ = written a (file (RESET c)) in
    keeps (eqb (op_of a) 1 || eqb (op_of a) 2) (eqb (address_of a) (RESET c)) (address_of a) x (PLL_PWR c 0) (PLL_PWR c 1)
    (held c 0 reset) (held c 1 reset) 0x2D (written a (file x)) (file x) e
done-keeps c (refusal n) file x e = refl

pub steps-keep : (c : Chip) (xs : List Step) (file : ℕ → ℕ) (x : ℕ)
    → member x (reach c xs) ≡ false → carried_out c xs file x ≡ file x
steps-keep c [] file x e = refl
steps-keep c (s ∷ ss) file x e =
    let both = member-append x (reaches c (access_of c s)) (reach c ss) e in
    steps-keep c ss (done c (access_of c s) file) x both.1 ∙ done-keeps c (access_of c s) file x both.0

pub append : (c : Chip) (xs ys : List Step) (file : ℕ → ℕ)
    → carried_out c (xs ++ ys) file ≡ carried_out c ys (carried_out c xs file)
append c [] ys file = refl
append c (x ∷ xs) ys file = append c xs ys (done c (access_of c x) file)
