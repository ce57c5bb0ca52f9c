-- The mask of the parts that differ is put together from the last part to the first.
use Rattle.std.specs.Prelude.{◌≡◌, Bool, false, List, [], ◌∷◌, ◌++◌, ℕ, ◌/◌, ◌^◌, ◌≤◌, ◌<◌, length}
use mathlib.Core.Path.{refl, sym, ap, ◌∙◌}
use native.Mathlib.{Nat.div-eq_of_lt, Omega.arith}
use lib.Pow.{pow_mono}
use Rattle.wording.specs.{Differences.mask_of, Differences.has_bit, Inside.agreeing, Inside.bits_of}
use Rattle.wording.proofs.Agree.{agree-same}

pub mask-bits : (xs ys : List (List ℕ)) → mask_of xs ys ≡ bits_of (agreeing xs ys)
mask-bits [] ys = refl
mask-bits (x ∷ xs) [] = refl
mask-bits (x ∷ xs) (y ∷ ys) = rw (mask-bits xs ys, agree-same x y)

-- the bits of the parts after those that are left, of which there are at most 13
pub record Masked (all left : List Bool) (mask : ℕ) : Type 0 where
  pub done : List Bool
  pub whole : all ≡ left ++ done
  pub value : mask ≡ bits_of done
  pub few : length done ≤ 13
  pub small : mask < 2 ^ length done

pub masked_all : (xs ys : List (List ℕ)) (left : List Bool) (mask : ℕ) → Masked (agreeing xs ys) left mask → length left ≡ 0
    → mask ≡ mask_of xs ys
masked_all xs ys [] mask m none = m.value ∙ ap bits_of (sym m.whole) ∙ sym (mask-bits xs ys)
masked_all xs ys (x ∷ left) mask m none = absurd (omega arith)

-- a mask of 32 bits has no bit from 32 on
pub no_bit : (mask k : ℕ) → mask < 2 ^ 32 → 32 ≤ k → false ≡ has_bit mask k
no_bit mask k small high =
    let more : 2 ^ 32 ≤ 2 ^ k = pow_mono {i = 32} {j = k} high in
    let none : mask / 2 ^ k ≡ 0 = div-eq_of_lt (omega (arith, more)) in
    rw none refl
