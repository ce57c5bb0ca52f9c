-- The answer of the lookup is that of the search: the nearest output is the greatest below the target or the least
-- from it on, and the nearer of the two is taken.
use Rattle.std.specs.Prelude.{◌≡◌, ℕ, ◌+◌, ◌-◌, ◌≤◌, ◌<◌}
use native.Mathlib.{Omega.arith, Decide.dec_le}
use Rattle.base.specs.Answer.{value}
use Rattle.pll.specs.{Search.apart, Search.search_of, Walk.key}
use Rattle.speed_book.specs.Book.{entries, crystal, hertz}
use Rattle.speed_book.proofs.{Places.FirstFrom, Entries.entry_of, Entries.entry-order, Entries.nearest-entry}

low-least : (x y t : ℕ) → y ≤ x → x ≤ t → apart x t ≤ apart y t
low-least x y t h k = omega arith

low_first : (x y t : ℕ) → y ≤ x → x ≤ t → apart y t ≡ apart x t → y ≡ x
low_first x y t h k e = omega arith

high-least : (x y t : ℕ) → t ≤ x → x ≤ y → apart x t ≤ apart y t
high-least x y t h k = omega arith

high-first : (x y t : ℕ) → t ≤ x → x ≤ y → apart y t ≡ apart x t → y ≡ x
high-first x y t h k e = omega arith

-- for x below the target and z from it on, the sum compared with twice the target decides which is nearer
low-across : (x z t : ℕ) → x ≤ t → t ≤ z → t + t ≤ x + z → apart x t ≤ apart z t
low-across x z t h k l = omega arith

low-across-not : (x z t : ℕ) → x ≤ t → t ≤ z → t + t < x + z → apart z t ≡ apart x t → ⊥
low-across-not x z t h k l e = omega arith

high_across : (x z t : ℕ) → x ≤ t → t ≤ z → x + z ≤ t + t → apart z t ≤ apart x t
high_across x z t h k l = omega arith

high-across-not : (x z t : ℕ) → x ≤ t → t ≤ z → x + z < t + t → apart x t ≡ apart z t → ⊥
high-across-not x z t h k l e = omega arith

abbrev h : ℕ → ℕ
h k = hertz (entry_of k)

abbrev q : ℕ → ℕ
q k = key (entry_of k)

-- the entry before a has an output below the target, and j is the first of that output
pub below-within : (a j : ℕ) → 0 < a → a ≤ entries → FirstFrom (h (a - 1)) j → j < a
below-within a j p w f = go (dec_le j (a - 1))
  where
    go : Dec (j ≤ a - 1) → j < a
    go (yes l) = omega arith
    go (no l) = absurd (omega (arith, f.below (a - 1) (omega arith)))

module _ (t a : ℕ) (fa : FirstFrom t a) where
  -- the entries from a on
  high : (k : ℕ) → a ≤ k → k < entries → (t ≤ h a) × (h a ≤ h k) × (h k ≡ h a → q k ≤ q a)
  high k l b = let o = entry-order a k l b in (fa.from a (omega arith) (omega arith), o.0, o.1)

  -- no entry is below the target
  pub at-start : a ≡ 0 → search_of crystal t ≡ value (entry_of 0)
  at-start e =
      nearest-entry t 0 (omega arith)
      (λ k b. let o = entry-order 0 k (omega arith) b in high-least (h 0) (h k) t
      (fa.from 0 (omega arith) (omega arith)) o.0)
      (λ k b d. let o = entry-order 0 k (omega arith) b in o.1
      (high-first (h 0) (h k) t (fa.from 0 (omega arith) (omega arith)) o.0 d))

  module _ (j : ℕ) (p : 0 < a) (fj : FirstFrom (h (a - 1)) j) where
    j-within : j < a
    j-within = below-within a j p fa.within fj

    same-hertz : h j ≡ h (a - 1)
    same-hertz =
        let w : j < a = j-within in
        let b : a - 1 < entries = omega (arith, fa.within) in
        omega (arith, fj.from j (omega arith) (omega arith), (entry-order j (a - 1) (omega arith) b).0)

    pub j-below : h j < t
    j-below = fa.below j j-within

    -- the entries below a
    low : (k : ℕ) → k < a → (h k ≤ h j) × (h k ≡ h j → q k ≤ q j)
    low k l = go (dec_le j k)
      where
        go : Dec (j ≤ k) → (h k ≤ h j) × (h k ≡ h j → q k ≤ q j)
        go (yes m) =
            let b : a - 1 < entries = omega (arith, fa.within) in
            let k' : k ≤ a - 1 = omega arith in
            (omega (arith, (entry-order k (a - 1) k' b).0, same-hertz), (entry-order j k m (omega (arith, fa.within))).1)
        go (no m) = let n : h k < h j = omega (arith, fj.below k (omega arith), same-hertz) in
            (omega arith, λ e. omega arith)

    take-low : ((k : ℕ) → a ≤ k → k < entries → apart (h j) t ≤ apart (h k) t) → ((k : ℕ) → a ≤ k → k < entries
        → apart (h k) t ≡ apart (h j) t → q k ≤ q j) → search_of crystal t ≡ value (entry_of j)
    take-low least first = nearest-entry t j (omega (arith, j-within, fa.within)) (λ k b. far k b (dec_le a k))
        (λ k b d. late k b d (dec_le a k))
      where
        far : (k : ℕ) → k < entries → Dec (a ≤ k) → apart (h j) t ≤ apart (h k) t
        far k b (yes l) = least k l b
        far k b (no l) = low-least (h j) (h k) t (low k (omega arith)).0 (omega (arith, j-below))

        late : (k : ℕ) → k < entries → apart (h k) t ≡ apart (h j) t → Dec (a ≤ k) → q k ≤ q j
        late k b d (yes l) = first k l b d
        late k b d (no l) = let w = low k (omega arith) in w.1
            (low_first (h j) (h k) t w.0 (omega (arith, j-below)) d)

    take-high : a < entries → ((k : ℕ) → k < a → apart (h a) t ≤ apart (h k) t) → ((k : ℕ) → k < a
        → apart (h k) t ≡ apart (h a) t → q k ≤ q a) → search_of crystal t ≡ value (entry_of a)
    take-high i least first = nearest-entry t a i (λ k b. far k b (dec_le a k)) (λ k b d. late k b d (dec_le a k))
      where
        far : (k : ℕ) → k < entries → Dec (a ≤ k) → apart (h a) t ≤ apart (h k) t
        far k b (yes l) = let w = high k l b in high-least (h a) (h k) t w.0 w.1
        far k b (no l) = least k (omega arith)

        late : (k : ℕ) → k < entries → apart (h k) t ≡ apart (h a) t → Dec (a ≤ k) → q k ≤ q a
        late k b d (yes l) = let w = high k l b in w.2 (high-first (h a) (h k) t w.0 w.1 d)
        late k b d (no l) = first k (omega arith) d

    -- every entry is below the target
    pub at-end : 1987 < a → search_of crystal t ≡ value (entry_of j)
    at-end e = take-low (λ k l b. absurd (omega arith)) (λ k l b. absurd (omega arith))

    -- the entry below is nearer
    pub lower-nearer : a < entries → t + t < h j + h a → search_of crystal t ≡ value (entry_of j)
    lower-nearer i n =
        take-low
        (λ k l b. let w = high k l b in low-across (h j) (h k) t (omega (arith, j-below))
        (omega (arith, w.0, w.1)) (omega (arith, w.1)))
        (λ k l b d. let w = high k l b in absurd (low-across-not (h j) (h k) t (omega (arith, j-below))
        (omega (arith, w.0, w.1)) (omega (arith, w.1)) d))

    pub upper-nearer : a < entries → h j + h a < t + t → search_of crystal t ≡ value (entry_of a)
    upper-nearer i n =
        let z : t ≤ h a = fa.from a (omega arith) i in
        let y : h j ≤ t = omega (arith, j-below) in
        take-high i
        (λ k l. let w = low k l in high_across (h k) (h a) t (omega (arith, y, w.0)) z (omega (arith, n, w.0)))
        (λ k l d. let w = low k l in absurd (high-across-not (h k) (h a) t (omega (arith, y, w.0)) z
        (omega (arith, n, w.0)) d))

    -- both are equally near, and the entry below is the first in the order of the search
    pub lower-first : a < entries → t + t ≡ h j + h a → q a < q j → search_of crystal t ≡ value (entry_of j)
    lower-first i n f =
        let y : h j ≤ t = omega (arith, j-below) in
        take-low
        (λ k l b. let w = high k l b in low-across (h j) (h k) t y (omega (arith, w.0, w.1)) (omega (arith, n, w.1)))
        (λ k l b d. let w = high k l b in omega (arith, f, w.2 (tie (h j) (h a) (h k) t y w.0 w.1 n d)))
      where
        tie : (x z u t : ℕ) → x ≤ t → t ≤ z → z ≤ u → t + t ≡ x + z → apart u t ≡ apart x t → u ≡ z
        tie x z u t p r s n d = omega arith

    pub upper_first : a < entries → t + t ≡ h j + h a → q j ≤ q a → search_of crystal t ≡ value (entry_of a)
    upper_first i n f =
        let z : t ≤ h a = fa.from a (omega arith) i in
        let y : h j ≤ t = omega (arith, j-below) in
        take-high i
        (λ k l. let w = low k l in high_across (h k) (h a) t (omega (arith, y, w.0)) z (omega (arith, n, w.0)))
        (λ k l d. let w = low k l in omega (arith, f, w.1 (tie (h j) (h a) (h k) t y z w.0 n d)))
      where
        tie : (x z u t : ℕ) → x ≤ t → t ≤ z → u ≤ x → t + t ≡ x + z → apart u t ≡ apart z t → u ≡ x
        tie x z u t p r s n d = omega arith
