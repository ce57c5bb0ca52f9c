-- Numbers that are set in a row: those outside stay, those inside are the new ones, and numbers that stand there already change
-- nothing. A mark is a number that is 1 or 0.
use Rattle.std.specs.Prelude.{Bool, true, false, List, [], ◌∷◌, ◌⊎◌, ◌≡◌, ℕ, zero, suc, ◌+◌, ◌≤◌, ◌<◌, eqb, leb, length, set}
use mathlib.Core.{Logic.inl, Logic.inr, Path.refl, Path.ap, Path.◌∙◌}
use native.Mathlib.Omega.{arith}
use lib.{ListN.length-set, Seq.sets, Seq.get_or-set_same, Seq.get_or-set_other, Seq.set-get_or}
use Rattle.base.specs.Choice.{bit}
use Rattle.numbers.specs.Fields.{nth}

-- ---- marks

pub mark-back : (b : Bool) → eqb (bit b) 1 ≡ b
mark-back true = refl
mark-back false = refl

pub mark-same : (n : ℕ) → n ≤ 1 → bit (eqb n 1) ≡ n
mark-same zero h = refl
mark-same (suc zero) h = refl
mark-same (suc (suc n)) h = absurd (omega arith)

pub mark-good : (b : Bool) → leb (bit b) 1 ≡ true
mark-good true = refl
mark-good false = refl

pub mark-least : (b : Bool) → bit b ≤ 1
mark-least true = omega arith
mark-least false = omega arith

-- ---- numbers set in a row

pub outside : (vs l : List ℕ) (i k : ℕ) → (k < i) ⊎ (i + length vs ≤ k) → nth (sets l i vs) k ≡ nth l k
outside [] l i k h = refl
outside (a ∷ vs) l i k (inl h) =
    outside vs (set l i a) (suc i) k (inl (omega arith)) ∙ get_or-set_other l i k a 0 (λ e. omega arith)
outside (a ∷ vs) l i k (inr h) =
    outside vs (set l i a) (suc i) k (inr (omega arith)) ∙ get_or-set_other l i k a 0 (λ e. omega arith)

pub inside : (vs l : List ℕ) (i j : ℕ) → j < length vs → i + length vs ≤ length l → nth (sets l i vs) (i + j) ≡ nth vs j
inside [] l i j h room = absurd (omega arith)
inside (a ∷ vs) l i zero h room =
    let here : i + 0 ≡ i = omega arith in
    rw here (outside vs (set l i a) (suc i) i (inl (omega arith)) ∙ get_or-set_same l i a 0 (omega arith))
inside (a ∷ vs) l i (suc j) h room =
    let there : i + suc j ≡ suc i + j = omega arith in
    rw there (inside vs (set l i a) (suc i) j (omega arith) (omega (arith, length-set l i a)))

-- numbers that the row already holds
abbrev pub Stand : List ℕ → ℕ → List ℕ → Type 0
Stand l i [] = Unit {0}
Stand l i (a ∷ vs) = (a ≡ nth l i) × Stand l (suc i) vs

pub sets_same : (vs l : List ℕ) (i : ℕ) → Stand l i vs → sets l i vs ≡ l
sets_same [] l i s = refl
sets_same (a ∷ vs) l i (e, s) =
    ap (λ (x : List ℕ). sets x (suc i) vs) (ap (set l i) e ∙ set-get_or l i 0) ∙ sets_same vs l (suc i) s
