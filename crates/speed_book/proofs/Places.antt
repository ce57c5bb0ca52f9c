-- The halving ends in the book at the first index whose output is not below a frequency.
use Rattle.std.specs.Prelude.{◌≡◌, ℕ, zero, suc, ◌+◌, ◌-◌, ◌*◌, ◌≤◌, ◌<◌, get_or, refl}
use native.Mathlib.{Omega.arith, Decide.dec_le}
use Rattle.speed_book.specs.{Book.entries, Book.hertz, Book.table, Lookup.middle, Lookup.halved, Lookup.first_from}
use Rattle.speed_book.proofs.Halving.{halved_none, halved-empty, halved-up, halved-down}
use Rattle.speed_book.proofs.{Entries.entry_of, Entries.entry-order, Digits.table_at, Digits.output-digits}

-- r is the first index of the book whose output is not below hz, or is past its end
pub record FirstFrom (hz r : ℕ) : Type 0 where
  pub within : r ≤ entries
  pub below : (k : ℕ) → k < r → hertz (entry_of k) < hz
  pub from : (k : ℕ) → r ≤ k → k < entries → hz ≤ hertz (entry_of k)

-- the number of indices that n halvings cover
abbrev room : ℕ → ℕ
room zero = 1
room (suc n) = room n + room n

some : (n : ℕ) → 0 < room n
some zero = omega arith
some (suc n) = omega (arith, some n)

module _ (hz : ℕ) where
  abbrev bound : ℕ
  bound = hz * 100000

  number-below : (k : ℕ) → k < entries → hertz (entry_of k) < hz → get_or table k 0 < bound
  number-below k h l = omega (arith, output-digits k h (get_or table k 0) (table_at k))

  number-from : (k : ℕ) → k < entries → hz ≤ hertz (entry_of k) → bound ≤ get_or table k 0
  number-from k h l = omega (arith, output-digits k h (get_or table k 0) (table_at k))

  -- low and high enclose the index
  pub record Within (low high : ℕ) : Type 0 where
    pub order : low ≤ high
    pub most : high ≤ entries
    pub below : (k : ℕ) → k < low → hertz (entry_of k) < hz
    pub from : (k : ℕ) → high ≤ k → k < entries → hz ≤ hertz (entry_of k)

  -- n halvings of at most as many indices as they cover
  abbrev Ends : ℕ → Type 0
  Ends n = (low high : ℕ) → high - low < room n → Within low high → FirstFrom hz (halved table bound n low high)

  one_more : (n : ℕ) → Ends n → Ends (suc n)
  one_more n again low high r w = go (dec_le high low)
    where
      m : ℕ
      m = middle low high

      up : low < high → hertz (entry_of m) < hz → FirstFrom hz (halved table bound (suc n) low high)
      up l b =
          let i : m < high = omega arith in
          rw (halved-up table bound low high (suc n) n refl l (number-below m (omega (arith, w.most)) b))
          (again (m + 1) high (omega arith)
          (record {
            order = omega arith;
            most = w.most;
            below = λ k h. omega (arith, b, (entry-order k m (omega arith) (omega (arith, w.most))).0);
            from = w.from;
          }))

      down : low < high → hz ≤ hertz (entry_of m) → FirstFrom hz (halved table bound (suc n) low high)
      down l b =
          let i : m < high = omega arith in
          rw (halved-down table bound low high (suc n) n refl l (number-from m (omega (arith, w.most)) b))
          (again low m (omega arith)
          (record {
            order = omega arith;
            most = omega (arith, w.most);
            below = w.below;
            from = λ k h f. omega (arith, b, (entry-order m k h f).0);
          }))

      by-middle : low < high → Dec (hz ≤ hertz (entry_of m)) → FirstFrom hz (halved table bound (suc n) low high)
      by-middle l (yes h) = down l h
      by-middle l (no h) = up l (omega arith)

      go : Dec (high ≤ low) → FirstFrom hz (halved table bound (suc n) low high)
      go (yes h) =
          rw (halved-empty table bound low high (suc n) n refl h) (again low high (omega (arith, some n)) w)
      go (no h) = by-middle (omega arith) (dec_le hz (hertz (entry_of m)))

  halved-place : (n : ℕ) → Ends n
  halved-place zero low high r w =
      let e : low ≡ high = omega (arith, w.order) in
      rw (halved_none table bound low high 0 (omega arith))
      (record { within = omega (arith, w.most); below = w.below; from = λ k h b. w.from k (omega arith) b })
  halved-place (suc n) low high r w = one_more n (halved-place n) low high r w

  pub first-place : FirstFrom hz (first_from table bound)
  first-place =
      halved-place 11 0 entries (omega arith)
      (record {
        order = omega arith;
        most = omega arith;
        below = λ k h. absurd (omega arith);
        from = λ k h b. absurd (omega arith);
      })
