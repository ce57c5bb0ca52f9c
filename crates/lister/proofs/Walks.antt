-- A walk over numbers writes the settings of each number that pass a test; numbers without such settings may be left out.
use Rattle.std.specs.Prelude.{◌≡◌, refl, List, [], ◌∷◌, ◌++◌, map, Bool, false, ℕ, zero, suc, ◌+◌, ◌-◌, ◌*◌, ◌≤◌, ◌<◌, length}
use mathlib.Core.{Path.sym, Path.ap, Path.◌∙◌, List.flat_map}
use native.Mathlib.{Omega.arith, Numerals.add-one}
use Rattle.pll.specs.Search.{falling, rising, setting, keep}
use Rattle.pll.specs.{Ranges.feedback_min, Ranges.feedback_max, declared.PllConfig.PllConfig}
use Rattle.pll.proofs.Order.{keep_append}
use Rattle.base.specs.Writing.{Written}
use Rattle.base.proofs.Bools.{either_way}
use Rattle.lister.specs.{Lister.in_order, Order.at_post1, Order.at_feedback, Order.puts}
use Rattle.lister.proofs.Writing.{put_more, put_none}

pub falling-step : (n : ℕ) → 1 ≤ n → falling n ≡ n ∷ falling (n - 1)
unfolding falling
falling-step zero h = absurd (omega arith)
falling-step (suc n) h = rw (let e : suc n - 1 ≡ n = omega arith in e)

pub falling-end : (n : ℕ) → n < 1 → falling n ≡ []
unfolding falling
falling-end zero h = refl
falling-end (suc n) h = absurd (omega arith)

pub rising_step : (n m k : ℕ) → n ≡ m + 1 → rising n k ≡ k ∷ rising m (k + 1)
unfolding rising
rising_step n m k e = rw (e, add-one m, add-one k)

pub rising-end : (n k : ℕ) → n < 1 → rising n k ≡ []
unfolding rising
rising-end zero k h = refl
rising-end (suc n) k h = absurd (omega arith)

-- the numbers of all settings of the lister, and of those with one feedback divider
pub few : length in_order ≡ 8540
unfolding in_order rising falling flat_map
few = refl

pub few-posts : (fb : ℕ) → length (at_feedback fb) ≡ 28
unfolding falling flat_map
few-posts fb = refl

module _ (t : PllConfig → Bool) where
  keep-each : (f : ℕ → List PllConfig) (k : ℕ) (ks : List ℕ)
      → keep t (flat_map f (k ∷ ks)) ≡ keep t (f k) ++ keep t (flat_map f ks)
  unfolding flat_map
  keep-each f k ks = keep_append t (f k) (flat_map f ks)

  -- the settings of the next number, and then those of the numbers left, complete the walk
  pub one_more : (w v : Written ℕ) (f : ℕ → List PllConfig) (k : ℕ) (ks left : List ℕ) → ks ≡ k ∷ left
      → v ≡ puts w (keep t (f k)) → puts v (keep t (flat_map f left)) ≡ puts w (keep t (flat_map f ks))
  one_more w v f k ks left e put =
      rw (put, e, keep-each f k left) (put_more w (keep t (f k)) (keep t (flat_map f left)))

  -- no number is left
  pub done : (w : Written ℕ) (f : ℕ → List PllConfig) (ks : List ℕ) → ks ≡ [] → puts w (keep t (flat_map f ks)) ≡ w
  unfolding keep flat_map
  done w f ks e = rw e (put_none w)

  keep-length : (cs : List PllConfig) → length (keep t cs) ≤ length cs
  unfolding keep
  keep-length [] = omega arith
  keep-length (c ∷ cs) =
      let rest = keep-length cs in either_way (t c) (λ e. rw e (omega (arith, rest))) (λ e. rw e (omega (arith, rest)))

  -- a part of the settings moves the index by no more than twice their number
  pub index-most : (w v : Written ℕ) (cs left : List PllConfig) → puts v left ≡ puts w (keep t cs)
      → v.at ≤ w.at + 2 * length cs
  unfolding puts
  index-most w v cs left e =
      let i : v.at + 2 * length left ≡ w.at + 2 * length (keep t cs) = ap (λ (h : Written ℕ). h.at) e in
      omega (arith, keep-length cs)

-- numbers that give nothing may be left out
module _ (t : PllConfig → Bool) (f : ℕ → List PllConfig) where
  -- before the others
  skip : (m n total k start : ℕ) → total ≡ m + n → start ≡ k + m
      → ((j : ℕ) → k ≤ j → j < start → keep t (f j) ≡ [])
      → keep t (flat_map f (rising total k)) ≡ keep t (flat_map f (rising n start))
  skip zero n total k start e s h = rw (let a : total ≡ n = omega arith in a, let b : start ≡ k = omega arith in b)
  skip (suc m) n total k start e s h =
      rw (rising_step total (m + n) k (omega arith), keep-each t f k (rising (m + n) (k + 1)), h k (omega arith) (omega arith))
      (skip m n (m + n) (k + 1) start refl (omega arith) (λ j lo hi. h j (omega arith) hi))

  -- all of them
  pub none-given : (total k : ℕ) → ((j : ℕ) → k ≤ j → j < k + total → keep t (f j) ≡ [])
      → keep t (flat_map f (rising total k)) ≡ []
  unfolding rising flat_map keep
  none-given total k h = skip total 0 total k (k + total) (omega arith) refl h

  -- after the others
  stop : (n m total k : ℕ) → total ≡ n + m → ((j : ℕ) → k + n ≤ j → j < k + total → keep t (f j) ≡ [])
      → keep t (flat_map f (rising total k)) ≡ keep t (flat_map f (rising n k))
  stop zero m total k e h =
      none-given total k (λ j lo hi. h j (omega arith) hi) ∙ sym (none-given 0 k (λ j lo hi. absurd (omega arith)))
  stop (suc n) m total k e h =
      rw (
        rising_step total (n + m) k (omega arith),
        keep-each t f k (rising (n + m) (k + 1)),
        rising_step (suc n) n k (omega arith),
        keep-each t f k (rising n (k + 1)),
        stop n m (n + m) (k + 1) refl (λ j lo hi. h j (omega arith) (omega arith)),
      )

  -- on both sides
  pub between : (low high : ℕ) → feedback_min ≤ low → low ≤ high → high ≤ feedback_max
      → ((fb : ℕ) → feedback_min ≤ fb → fb < low → keep t (f fb) ≡ [])
      → ((fb : ℕ) → high < fb → fb ≤ feedback_max → keep t (f fb) ≡ [])
      → keep t (flat_map f (rising (high + 1 - low) low))
      ≡ keep t (flat_map f (rising (feedback_max + 1 - feedback_min) feedback_min))
  between low high least order most below above =
      sym (skip (low - feedback_min) (feedback_max + 1 - low) (feedback_max + 1 - feedback_min) feedback_min low
      (omega arith) (omega arith) below
      ∙ stop (high + 1 - low) (feedback_max - high) (feedback_max + 1 - low) low (omega arith)
      (λ fb lo hi. above fb (omega arith) (omega arith)))

-- two tests that agree on the settings of a feedback divider
module _ (t u : PllConfig → Bool) (fb : ℕ) (agree : (p1 p2 : ℕ) → t (setting fb p1 p2) ≡ u (setting fb p1 p2)) where
  same-post1 : (p1 : ℕ) (ks : List ℕ) → keep t (map (setting fb p1) ks) ≡ keep u (map (setting fb p1) ks)
  unfolding keep
  same-post1 p1 [] = refl
  same-post1 p1 (k ∷ ks) = rw (agree p1 k, same-post1 p1 ks)

  same-posts : (ks : List ℕ) → keep t (flat_map (at_post1 fb) ks) ≡ keep u (flat_map (at_post1 fb) ks)
  unfolding keep flat_map
  same-posts [] = refl
  same-posts (k ∷ ks) =
      rw (keep-each t (at_post1 fb) k ks, keep-each u (at_post1 fb) k ks, same-post1 k (falling k), same-posts ks)

  pub same-feedback : keep t (at_feedback fb) ≡ keep u (at_feedback fb)
  same-feedback = same-posts (falling 7)

-- no setting passes the test
pub none : (t : PllConfig → Bool) → ((c : PllConfig) → t c ≡ false) → (cs : List PllConfig) → keep t cs ≡ []
unfolding keep
none t h [] = refl
none t h (c ∷ cs) = rw (h c) (none t h cs)

-- none of a feedback divider does
pub none_kept : (t : PllConfig → Bool) (fb : ℕ) → ((p1 p2 : ℕ) → t (setting fb p1 p2) ≡ false)
    → keep t (at_feedback fb) ≡ []
none_kept t fb h = rw (same-feedback t (λ c. false) fb h) (none (λ c. false) (λ c. refl) (at_feedback fb))
