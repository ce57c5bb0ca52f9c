-- A member of a list has an index in it.
use Rattle.std.specs.Prelude.{◌≡◌, ◌⊎◌, List, [], ◌∷◌, ℕ, suc, ◌<◌, length, get_or}
use mathlib.Core.{Path.sym, Logic.inl, Logic.inr, Logic.⊎_elim}
use native.Mathlib.Omega.{arith}
use Rattle.pll.specs.{Walk.key, declared.PllConfig.PllConfig}
use Rattle.pll.proofs.Order.{Kind, Lists}

abbrev pub In : PllConfig → List PllConfig → Type 0
In c [] = ⊥
In c (d ∷ ds) = (c ≡ d) ⊎ In c ds

-- a list of a kind has each setting of it
pub in-lists : (c : PllConfig) (cs : List PllConfig) (C : Kind) → Lists key C cs → C c → In c cs
unfolding Lists
in-lists c [] C l m = l c m
in-lists c (d ∷ ds) C l m =
    ⊎_elim inl (λ k. inr (in-lists c ds (λ e. C e × (key e < key d)) l.2 (m, k))) (l.1 c m)

pub place_in : (other c : PllConfig) (cs : List PllConfig) → In c cs → (k : ℕ) × (k < length cs) × (get_or cs k other ≡ c)
place_in other c [] h = absurd h
place_in other c (d ∷ ds) (inl e) = (0, omega arith, sym e)
place_in other c (d ∷ ds) (inr h) =
    let p = place_in other c ds h in
    (suc p.0, omega (arith, p.1), p.2)
