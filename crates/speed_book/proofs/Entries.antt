-- The entries of the book are the candidates of the search, in order and complete; the nearest entry is the answer of
-- the search.
use Rattle.std.specs.Prelude.{◌≡◌, List, [], ◌∷◌, Bool, true, false, ℕ, ◌≤◌, ◌<◌, leb, length, get_or}
use mathlib.Core.{Path.ap, Path.subst, Logic.inl, Logic.inr, Logic.⊎_elim}
use native.Mathlib.{Omega.arith, Nat.eq-or-lt_of_le}
use Rattle.base.specs.{Choice.pick, Answer.value}
use Rattle.pll.specs.{Search.setting, Search.candidates, Search.apart, Search.distance, Search.search_of, Law.Candidate, Walk.key}
use Rattle.pll.specs.declared.PllConfig.{PllConfig}
use Rattle.pll.proofs.{Candidates.vco-is, Candidates.lists-candidates, Near.near-search}
use Rattle.speed_book.specs.Book.{entries, crystal, hertz, insert, by_output, book}
use Rattle.speed_book.proofs.Rising.{Ahead, Permitted, sound-length, sound-permitted, sound-ahead}
use Rattle.speed_book.proofs.{Members.In, Members.in-lists, Members.place_in, Checked.checked}

-- the setting at an index of the book
abbrev pub entry_of : ℕ → PllConfig
entry_of k = get_or book k (setting 0 0 0)

-- sorting loses nothing
in-pick : (c x z : PllConfig) (zs : List PllConfig) (q : Bool) → In c (x ∷ z ∷ zs)
    → (In c (x ∷ zs) → In c (insert x zs)) → In c (pick q (x ∷ z ∷ zs) (z ∷ insert x zs))
in-pick c x z zs true h f = h
in-pick c x z zs false (inl e) f = inr (f (inl e))
in-pick c x z zs false (inr (inl e)) f = inl e
in-pick c x z zs false (inr (inr h)) f = inr (f (inr h))

in_insert : (c x : PllConfig) (xs : List PllConfig) → In c (x ∷ xs) → In c (insert x xs)
unfolding insert
in_insert c x [] h = h
in_insert c x (z ∷ zs) h = in-pick c x z zs (leb (hertz x) (hertz z)) h (in_insert c x zs)

in-sorted : (c : PllConfig) (xs : List PllConfig) → In c xs → In c (by_output xs)
unfolding by_output
in-sorted c [] h = h
in-sorted c (x ∷ xs) (inl e) = in_insert c x (by_output xs) (inl e)
in-sorted c (x ∷ xs) (inr h) = in_insert c x (by_output xs) (inr (in-sorted c xs h))

pub book-length : length book ≡ entries
book-length = sound-length entries book checked

pub entry-permitted : (k : ℕ) → k < entries → Permitted (entry_of k)
entry-permitted k h = sound-permitted entries book checked k (omega (arith, book-length))

pub entry-ahead : (a b : ℕ) → a < b → b < entries → Ahead (entry_of a) (entry_of b)
entry-ahead a b l h = sound-ahead entries book checked a b l (omega (arith, book-length))

-- each entry is a setting that the search chooses from
pub entry-candidate : (k : ℕ) → k < entries → Candidate crystal (entry_of k)
entry-candidate k h =
    let p = entry-permitted k h in
    let v = vco-is crystal (entry_of k) p.one in
    record {
      reference = p.one;
      reference_low = omega arith;
      feedback_low = omega (arith, p.fb-low);
      feedback_high = omega (arith, p.fb-high);
      vco = record { low = omega (arith, v, p.fb-low); high = omega (arith, v, p.fb-high) };
      post1_high = p.p1-high;
      post2_low = p.p2-low;
      post2_high = p.p2-high;
    }

-- no candidate is missing
pub entry-complete : (c : PllConfig) → Candidate crystal c → (k : ℕ) × (k < entries) × (entry_of k ≡ c)
unfolding book
entry-complete c m =
    let i = in-lists c (candidates crystal) (Candidate crystal) (lists-candidates crystal) m in
    let p = place_in (setting 0 0 0) c (by_output (candidates crystal)) (in-sorted c (candidates crystal) i) in
    (p.0, subst (λ (n : ℕ). p.0 < n) book-length p.1, p.2)

-- the order: by output, and equal outputs in the order of the search
abbrev pub Ordered : ℕ → ℕ → Type 0
Ordered a b =
    (hertz (entry_of a) ≤ hertz (entry_of b))
    × (hertz (entry_of b) ≡ hertz (entry_of a) → key (entry_of b) ≤ key (entry_of a))

pub entry-order : (a b : ℕ) → a ≤ b → b < entries → Ordered a b
entry-order a b l h = ⊎_elim same later (eq-or-lt_of_le l)
  where
    same : a ≡ b → Ordered a b
    same e = (
      omega (arith, ap (λ (k : ℕ). hertz (entry_of k)) e),
      λ f. omega (arith, ap (λ (k : ℕ). key (entry_of k)) e),
    )

    later : a < b → Ordered a b
    later m =
        let p = entry-permitted a (omega arith) in (
          omega (arith, entry-ahead a b m h, p.fb-high, p.p1-high, p.p2-high),
          λ f. omega (arith, entry-ahead a b m h),
        )

-- the nearest entry, and of equally near ones the first, is the answer of the search
pub nearest-entry : (t m : ℕ) → m < entries
    → ((k : ℕ) → k < entries → apart (hertz (entry_of m)) t ≤ apart (hertz (entry_of k)) t)
    → ((k : ℕ) → k < entries → apart (hertz (entry_of k)) t ≡ apart (hertz (entry_of m)) t
    → key (entry_of k) ≤ key (entry_of m))
    → search_of crystal t ≡ value (entry_of m)
unfolding hertz
nearest-entry t m h least first =
    near-search crystal t (entry_of m)
    (record {
      candidate = entry-candidate m h;
      least = λ d k.
          let p = entry-complete d k in
          subst (λ (z : PllConfig). distance crystal t (entry_of m) ≤ distance crystal t z) p.2 (least p.0 p.1);
      first = λ d k.
          let p = entry-complete d k in
          subst (λ (z : PllConfig). distance crystal t z ≡ distance crystal t (entry_of m) → key z ≤ key (entry_of m))
          p.2 (first p.0 p.1);
    })
