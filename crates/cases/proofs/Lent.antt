-- The first bytes of a lent buffer are all 0xEE.
use Rattle.std.specs.Prelude.{◌≡◌, refl, List, ◌∷◌, ℕ, zero, suc, ◌≤◌, take, replicate}
use mathlib.Core.Path.{ap}
use native.Mathlib.Omega.{arith}

pub take_same : (m n a : ℕ) → m ≤ n → take m (replicate n a) ≡ replicate m a
take_same zero n a h = refl
take_same (suc m) zero a h = absurd (omega arith)
take_same (suc m) (suc n) a h = ap (λ (l : List ℕ). a ∷ l) (take_same m n a (omega arith))
