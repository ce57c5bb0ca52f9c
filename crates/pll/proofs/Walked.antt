-- The walk takes exactly the feedback dividers that the VCO permits: it takes every number from the highest down to
-- the lowest.
use mathlib.Core.{Path.◌≡◌, Path.refl, Logic.◌⊎◌, Logic.◌↔◌, Logic.inl, Logic.inr, List.[], List.◌∷◌}
use Prim.Native.Nat.{ℕ, zero, suc, ◌/◌, ◌≤◌, ◌<◌}
use native.Mathlib.{Omega.arith, Nat.eq-or-lt_of_le}
use lib.{Dec.leb, ListN.length}
use borrow.Author.Tests.{leb-false, lt-leb}
use Rattle.base.{specs.Choice.pick, proofs.Bools.either_way}
use Rattle.pll.specs.{Ranges.reference_min, Ranges.vco_max, Search.falling, Search.rising, Law.VcoPermits, Law.WalkTakesPermitted}
use Rattle.pll.specs.{Law.WalkWithinEnds}
use Rattle.pll.specs.Ends.{first_permitted, highest_of, lowest_of, walk_down, walked_of, Among}
use Rattle.pll.proofs.Ends.{Served, served, unserved, highest-value, highest-none, lowest-some, highest-right, lowest-right}
use Rattle.pll.proofs.Ends.{between-permitted, outside-refused}

module _ (low : ℕ) where
  down-within : (high fb : ℕ) → low ≤ high → Among fb (walk_down low high) → (low ≤ fb) × (fb ≤ high)
  unfolding walk_down
  down-within zero fb l m = absurd m
  down-within (suc n) fb l (inl same) = omega arith
  down-within (suc n) fb l (inr m) =
      either_way (leb (suc n) low) (λ e. absurd (rw e at m))
      (λ e. omega (arith, down-within n fb (omega (arith, leb-false (suc n) low e)) (rw e at m)))

  within-down : 0 < low → (high fb : ℕ) → low ≤ fb → fb ≤ high → Among fb (walk_down low high)
  unfolding walk_down
  within-down s zero fb l h = absurd (omega arith)
  within-down s (suc n) fb l h = go (eq-or-lt_of_le h) (within-down s n fb l)
    where
      go : (fb ≡ suc n) ⊎ (fb < suc n) → (fb ≤ n → Among fb (walk_down low n))
          → Among fb (suc n ∷ pick (leb (suc n) low) [] (walk_down low n))
      go (inl e) later = inl e
      go (inr b) later = rw (lt-leb (suc n) low (omega arith)) (inr (later (omega arith)))

pub walk-takes-permitted : WalkTakesPermitted
unfolding walked_of
walk-takes-permitted input fb = go (served input)
  where
    go : Dec (Served input) → Among fb (walked_of input) ↔ ((reference_min ≤ input) × VcoPermits input fb)
    go (yes s) =
        let high = vco_max / input in
        let top = highest-value input s in
        let some = lowest-some input s in
        let low = some.0 in
        let end = lowest-right input low some.1 in
        let some-between : low ≤ high = end.last high (highest-right input high top).1.one in
        rw (top, some.1) (
          (λ m.
              let w = down-within low high fb some-between m in
              (s.0, between-permitted input low high fb some.1 top w.0 w.1)),
          λ p.
              let w = outside-refused input low high fb some.1 top p.1 in
              within-down low (omega (arith, end.one.low)) high fb w.0 w.1,
        )
    go (no none) = rw (highest-none input none) ((λ m. absurd m), λ p. absurd (unserved input none fb p.0 p.1))

-- what the walk takes the VCO permits, so it lies between the lowest and the highest that it permits
pub walk-within-ends : WalkWithinEnds
walk-within-ends input low high fb bottom top m =
    let p = (walk-takes-permitted input fb).0 m in
    ((lowest-right input low bottom).last fb p.1, (highest-right input high top).1.last fb p.1)

-- of 305 feedback dividers the walk takes 71 at 12 MHz
pub walked-at-12-mhz : length (walked_of 12000000) ≡ 71
unfolding walked_of walk_down highest_of lowest_of first_permitted falling rising
walked-at-12-mhz = refl
