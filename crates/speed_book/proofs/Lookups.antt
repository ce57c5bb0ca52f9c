-- The lookup in the book gives the answer of the search at 12 MHz.
use Rattle.std.specs.Prelude.{◌≡◌, ℕ, ◌+◌, ◌-◌, ◌*◌, ◌≤◌, ◌<◌}
use mathlib.Core.Path.{sym, ap, subst, ◌∙◌}
use native.Mathlib.{Omega.arith, Decide.dec_le}
use borrow.Author.Tests.{lt-ltb, le-ltb, eq-eqb, ne_eqb}
use Rattle.base.specs.Answer.{value}
use Rattle.base.proofs.Bools.{either_way}
use Rattle.pll.specs.{Search.search_of, Walk.key, declared.PllConfig.PllConfig}
use Rattle.speed_book.specs.Book.{entries, crystal, hertz, table_number, table, output_in, setting_in}
use Rattle.speed_book.specs.Lookup.{far, entry_at, dividers_in, lower_is, nearer_entry, above_in, below_in, lookup_in}
use Rattle.speed_book.proofs.Digits.{table_at, output-digits, setting-digits}
use Rattle.speed_book.proofs.Choice.{below-within, at-start, at-end, lower-nearer, upper-nearer, lower-first, upper_first}
use Rattle.speed_book.proofs.{Entries.entry_of, Entries.entry-permitted, Places.FirstFrom, Places.first-place}

-- the entry at an index
entry-is : (k : ℕ) → k < entries → entry_at table k ≡ table_number (entry_of k)
entry-is k h = rw (lt-ltb k entries h) (table_at k)

output-is : (k : ℕ) → k < entries → output_in (entry_at table k) ≡ hertz (entry_of k)
output-is k h = output-digits k h (entry_at table k) (entry-is k h)

setting-is : (k : ℕ) → k < entries → setting_in (entry_at table k) ≡ entry_of k
setting-is k h = setting-digits k h (entry_at table k) (entry-is k h)

-- the digits of the dividers fall in the order of the search
abbrev digits : ℕ → ℕ
digits k = dividers_in (entry_at table k)

digits_are : (k : ℕ) → k < entries
    → digits k ≡ (entry_of k).fbdiv * 100 + (entry_of k).post_div1 * 10 + (entry_of k).post_div2
unfolding table_number
digits_are k h =
    let p = entry-permitted k h in
    let e = entry-is k h in
    omega (arith, p.fb-high, p.p1-high, p.p2-high)

order : (f p q g r s : ℕ) → p ≤ 7 → q ≤ 8 → r ≤ 7 → s ≤ 7 → f * 100 + p * 10 + q ≤ g * 100 + r * 10 + s
    → f * 64 + p * 8 + q ≤ g * 64 + r * 8 + s
order f p q g r s hp hq hr hs l = by-feedback (dec_le g f)
  where
    by-post1 : f ≡ g → Dec (r ≤ p) → f * 64 + p * 8 + q ≤ g * 64 + r * 8 + s
    by-post1 e (yes h) = let same : p ≡ r = omega arith in omega arith
    by-post1 e (no h) = omega arith

    by-feedback : Dec (g ≤ f) → f * 64 + p * 8 + q ≤ g * 64 + r * 8 + s
    by-feedback (yes h) = by-post1 (omega arith) (dec_le r p)
    by-feedback (no h) = omega arith

module _ (a b : ℕ) (ha : a < entries) (hb : b < entries) where
  abbrev c : PllConfig
  c = entry_of a

  abbrev d : PllConfig
  d = entry_of b

  digits-order : (more : ℕ) → more ≤ 1 → digits a + more ≤ digits b → key c + more ≤ key d
  digits-order more m l =
      let p = entry-permitted a ha in
      let q = entry-permitted b hb in
      let o = order c.fbdiv c.post_div1 (c.post_div2 + more) d.fbdiv d.post_div1 d.post_div2
      p.p1-high (omega (arith, p.p1-high, p.p2-high)) q.p1-high (omega (arith, q.p1-high, q.p2-high))
      (omega (arith, digits_are a ha, digits_are b hb)) in
      omega arith

-- which of the two entries is taken
module _ (t lower upper : ℕ) where
  abbrev sum : ℕ
  sum = output_in lower + output_in upper

  pub lower-near : 2 * t < sum → nearer_entry t lower upper ≡ lower
  unfolding nearer_entry
  lower-near h = rw (lt-ltb (2 * t) sum h)

  pub upper-near : sum < 2 * t → nearer_entry t lower upper ≡ upper
  unfolding nearer_entry
  upper-near h = rw (le-ltb (2 * t) sum (omega arith), ne_eqb (2 * t) sum (omega arith))

  pub lower-tie : 2 * t ≡ sum → dividers_in upper < dividers_in lower → nearer_entry t lower upper ≡ lower
  unfolding nearer_entry
  lower-tie h d =
      rw (le-ltb (2 * t) sum (omega arith), eq-eqb (2 * t) sum h, lt-ltb (dividers_in upper) (dividers_in lower) d)

  pub upper-tie : 2 * t ≡ sum → dividers_in lower ≤ dividers_in upper → nearer_entry t lower upper ≡ upper
  unfolding nearer_entry
  upper-tie h d =
      rw (le-ltb (2 * t) sum (omega arith), eq-eqb (2 * t) sum h, le-ltb (dividers_in upper) (dividers_in lower) d)

pub nearer-same : (t n : ℕ) → nearer_entry t n n ≡ n
unfolding nearer_entry
nearer-same t n = either_way (lower_is t n n) (λ e. rw e) (λ e. rw e)

module _ (t : ℕ) (fits : t < 4294967296) where
  -- the entry that is taken is the answer of the search
  abbrev Right : ℕ → Type 0
  Right n = value (setting_in n) ≡ search_of crystal t

  right : (k n : ℕ) → k < entries → n ≡ entry_at table k → search_of crystal t ≡ value (entry_of k) → Right n
  right k n h e s = ap (λ (m : ℕ). value (setting_in m)) e ∙ ap value (setting-is k h) ∙ sym s

  module _ (a j : ℕ) (above : FirstFrom t a) (below : FirstFrom (hertz (entry_of (a - 1))) j) where
    abbrev Taken : Type 0
    Taken = Right (nearer_entry t (entry_at table j) (entry_at table a))

    start : a ≡ 0 → Taken
    start e = go (dec_le j 0)
      where
        at-0 : hertz (entry_of (a - 1)) ≡ hertz (entry_of 0)
        at-0 = ap (λ (k : ℕ). hertz (entry_of k)) (omega arith)

        go : Dec (j ≤ 0) → Taken
        go (yes l) =
            let z : j ≡ 0 = omega arith in
            right 0 _ (omega arith)
            ((λ i. nearer_entry t (entry_at table (z i)) (entry_at table (e i))) ∙ nearer-same t (entry_at table 0))
            (at-start t a above e)
        go (no l) = absurd (omega (arith, at-0, below.below 0 (omega arith)))

    end : 1987 < a → j < a → Taken
    end e l =
        let p : 0 < a = omega arith in
        let past : entry_at table a ≡ far = rw (le-ltb a entries (omega arith)) in
        right j _ (omega (arith, above.within)) (lower-near t (entry_at table j) (entry_at table a) (omega arith))
        (at-end t a above j p below e)

    between : 0 < a → a < entries → j < a → Taken
    between p h l = go (dec_le (sum t lo hi) (2 * t)) (dec_le (2 * t) (sum t lo hi)) (dec_le (digits j) (digits a))
      where
        lo : ℕ
        lo = entry_at table j

        hi : ℕ
        hi = entry_at table a

        i : j < entries
        i = omega arith

        at_j : output_in lo ≡ hertz (entry_of j)
        at_j = output-is j i

        at_a : output_in hi ≡ hertz (entry_of a)
        at_a = output-is a h

        go : Dec (sum t lo hi ≤ 2 * t) → Dec (2 * t ≤ sum t lo hi) → Dec (digits j ≤ digits a) → Taken
        go (no u) v w =
            right j _ i (lower-near t lo hi (omega arith))
            (lower-nearer t a above j p below h (omega (arith, at_j, at_a)))
        go (yes u) (no v) w =
            right a _ h (upper-near t lo hi (omega arith))
            (upper-nearer t a above j p below h (omega (arith, at_j, at_a)))
        go (yes u) (yes v) (yes w) =
            right a _ h (upper-tie t lo hi (omega arith) w)
            (upper_first t a above j p below h (omega (arith, at_j, at_a))
            (omega (arith, digits-order j a i h 0 (omega arith) (omega arith))))
        go (yes u) (yes v) (no w) =
            right j _ i (lower-tie t lo hi (omega arith) (omega arith))
            (lower-first t a above j p below h (omega (arith, at_j, at_a))
            (omega (arith, digits-order a j h i 1 (omega arith) (omega arith))))

    taken : Taken
    taken = go (dec_le a 0) (dec_le entries a)
      where
        go : Dec (a ≤ 0) → Dec (entries ≤ a) → Taken
        go (yes l) m = start (omega arith)
        go (no l) (yes m) =
            end (omega arith) (below-within a j (omega arith) above.within below)
        go (no l) (no m) =
            between (omega arith) (omega arith) (below-within a j (omega arith) above.within below)

  pub lookup-searches : lookup_in table t ≡ search_of crystal t
  unfolding lookup_in
  lookup-searches =
      let above = first-place t in
      let a : ℕ = above_in table t in
      taken a (below_in table a) above
      (subst (λ (n : ℕ). FirstFrom n (below_in table a)) (output-is (a - 1) (omega (arith, above.within)))
      (first-place (output_in (entry_at table (a - 1)))))

-- what a lookup in the book is
pub ruleset searches = lookup-searches
