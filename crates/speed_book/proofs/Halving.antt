-- One halving: the cases of `halved` at a positive number of halvings. And a bisection gives what halvings give, as many as
-- the indices between its two ends need.
use Rattle.std.specs.Prelude.{◌≡◌, List, ℕ, zero, suc, ◌+◌, ◌-◌, ◌^◌, ◌≤◌, ◌<◌, get_or}
use mathlib.Core.Path.{refl, ◌∙◌}
use native.Mathlib.{Omega.arith, Nat.pow-suc}
use borrow.Author.Tests.{lt-ltb, le-ltb}
use Rattle.speed_book.specs.Lookup.{middle, halved}

-- n halvings are enough between low and high, and they give r
pub record Halves (l : List ℕ) (bound low high n r : ℕ) : Type 0 where
  pub enough : high - low < 2 ^ n
  pub gives : r ≡ halved l bound n low high

module _ (l : List ℕ) (bound low high : ℕ) where
  pub halved_none : (n : ℕ) → n ≤ 0 → halved l bound n low high ≡ low
  unfolding halved
  halved_none zero h = refl
  halved_none (suc n) h = absurd (omega arith)

  -- n halvings are one more than m
  module _ (n m : ℕ) (e : n ≡ suc m) where
    pub halved-empty : high ≤ low → halved l bound n low high ≡ halved l bound m low high
    unfolding halved
    halved-empty h = rw (e, le-ltb low high h)

    pub halved-up : low < high → get_or l (middle low high) 0 < bound
        → halved l bound n low high ≡ halved l bound m (middle low high + 1) high
    unfolding halved
    halved-up h b = rw (e, lt-ltb low high h, lt-ltb (get_or l (middle low high) 0) bound b)

    pub halved-down : low < high → bound ≤ get_or l (middle low high) 0
        → halved l bound n low high ≡ halved l bound m low (middle low high)
    unfolding halved
    halved-down h b = rw (e, lt-ltb low high h, le-ltb (get_or l (middle low high) 0) bound b)

  -- where nothing is left between them, the lower end is what they give
  pub at-end : (n : ℕ) → high ≤ low → halved l bound n low high ≡ low
  at-end zero h = halved_none 0 (omega arith)
  at-end (suc n) h = halved-empty (suc n) n refl h ∙ at-end n h

  module _ (r : ℕ) (more : low < high) where
    pub upper-half : (n : ℕ) → Halves l bound low high n r → get_or l (middle low high) 0 < bound
        → (m : ℕ) × Halves l bound (middle low high + 1) high m r
    upper-half zero h b = absurd (omega (arith, h.enough))
    upper-half (suc m) h b = (
      m,
      record {
        enough = omega (arith, h.enough, pow-suc 2 m);
        gives = h.gives ∙ halved-up (suc m) m refl more b;
      },
    )

    pub lower-half : (n : ℕ) → Halves l bound low high n r → bound ≤ get_or l (middle low high) 0
        → (m : ℕ) × Halves l bound low (middle low high) m r
    lower-half zero h b = absurd (omega (arith, h.enough))
    lower-half (suc m) h b = (
      m,
      record {
        enough = omega (arith, h.enough, pow-suc 2 m);
        gives = h.gives ∙ halved-down (suc m) m refl more b;
      },
    )
