-- Two laws of tests: a proof may go by a test's two answers, and the range test is true for a number within its bounds
-- and for no other.
use Rattle.std.specs.Prelude.{◌≡◌, refl, Bool, true, false, ℕ, ◌≤◌, leb}
use Rattle.std.proofs.lemmas.Bool.{and_parts, leb-true, le-leb}
use Rattle.base.specs.Choice.{in_range}

-- a case split on a test
pub either_way : {C : Type 0} (t : Bool) → (t ≡ true → C) → (t ≡ false → C) → C
either_way true f g = f refl
either_way false f g = g refl

pub in-range : (low high x : ℕ) → in_range low high x ≡ true → (low ≤ x) × (x ≤ high)
in-range low high x e =
    let h = and_parts (leb low x) (leb x high) e in
    (leb-true low x h.0, leb-true x high h.1)

pub range-true : (low high x : ℕ) → low ≤ x → x ≤ high → in_range low high x ≡ true
range-true low high x l h = rw (le-leb low x l, le-leb x high h)
