-- The table is right by `RightBook` (specs/Law).
use Rattle.std.specs.Prelude.{◌≡◌, ◌⊎◌, Bool, true, false, ℕ, ◌≤◌, ◌<◌, T, length, get_or}
use mathlib.Core.{Path.refl, Path.sym, Path.subst, Path.◌∙◌, Logic.inl, Logic.inr, Logic.⊎_elim}
use native.Mathlib.{Omega.arith, Decide.dec_le, Nat.eq-or-lt_of_le}
use borrow.Author.Tests.{le-leb}
use lib.ListN.{length-map}
use Rattle.base.specs.Answer.{value}
use Rattle.pll.specs.{Setting.vco_of, Setting.posts_of, Setting.valid_of, Setting.output_of, Law.Candidate, Law.Before, Walk.key}
use Rattle.pll.specs.declared.PllConfig.{PllConfig}
use Rattle.pll.proofs.Sizes.{posts-most, posts-some}
use Rattle.speed_book.specs.Book.{entries, crystal, hertz, table_number, book, table, output_at, setting_at}
use Rattle.speed_book.specs.Law.{RightBook}
use Rattle.speed_book.proofs.Entries.{entry_of, book-length, entry-permitted, entry-candidate, entry-ahead, entry-order, entry-complete}
use Rattle.speed_book.proofs.Digits.{table_at, output-digits, setting-digits}

-- the setting with the greater key precedes
key-before : (c d : PllConfig) → Candidate crystal c → Candidate crystal d → key d < key c → Before c d
key-before c d m n l = go (dec_le c.fbdiv d.fbdiv)
  where
    post2 : c.fbdiv ≡ d.fbdiv → c.post_div1 ≡ d.post_div1 → Before c d
    post2 e f = inr (sym e, inr (sym f, omega arith))

    post1 : c.fbdiv ≡ d.fbdiv → Dec (c.post_div1 ≤ d.post_div1) → Before c d
    post1 e (yes h) = post2 e (omega (arith, m.post2_high, n.post2_high, m.post1_high, n.post1_high))
    post1 e (no h) = inr (sym e, inl (omega arith))

    go : Dec (c.fbdiv ≤ d.fbdiv) → Before c d
    go (yes h) =
        let e : c.fbdiv ≡ d.fbdiv
        = omega (arith, m.post2_high, n.post2_high, m.post1_high, n.post1_high) in
        post1 e (dec_le c.post_div1 d.post_div1)
    go (no h) = inl (omega arith)

is_true : (b : Bool) → T b → b ≡ true
is_true true t = refl
is_true false t = absurd t

output : (c : PllConfig) → Candidate crystal c → output_of c crystal ≡ value (hertz c)
unfolding hertz
output c m =
    let some = posts-some c.post_div1 c.post_div2 m.post2_low m.post2_high in
    let most = posts-most c.post_div1 c.post_div2 m.post1_high m.post2_high in
    simp (
      le-leb 1 c.refdiv (omega (arith, m.reference)),
      le-leb 1 (posts_of c) some,
      le-leb (posts_of c) 255 (omega arith),
      le-leb (vco_of c crystal) 4294967295 (omega (arith, m.vco.high)),
    )

ordered : (a b : ℕ) → a < b → b < entries
    → (hertz (entry_of a) < hertz (entry_of b))
    ⊎ ((hertz (entry_of a) ≡ hertz (entry_of b)) × Before (entry_of a) (entry_of b))
ordered a b l h =
    let i : a < entries = omega arith in
    let m : a ≤ b = omega arith in
    let w = entry-ahead a b l h in
    ⊎_elim
    (λ e. inr (e, key-before (entry_of a) (entry_of b) (entry-candidate a i) (entry-candidate b h) (omega (arith, w, e))))
    (λ k. inl k)
    (eq-or-lt_of_le (entry-order a b m h).0)

-- the digits of the table at an index are those of the book's entry
setting-is : (k : ℕ) → k < entries → setting_at table k ≡ entry_of k
setting-is k h = setting-digits k h (get_or table k 0) (table_at k)

output-is : (k : ℕ) → k < entries → output_at table k ≡ hertz (entry_of k)
output-is k h = output-digits k h (get_or table k 0) (table_at k)

table-length : length table ≡ entries
unfolding table
table-length = length-map book table_number ∙ book-length

-- a property of the entry and its output holds of the digits of the table
at_place : (P : PllConfig → ℕ → Type 0) (k : ℕ) → k < entries → P (entry_of k) (hertz (entry_of k))
    → P (setting_at table k) (output_at table k)
at_place P k h p =
    subst (λ (c : PllConfig). P c (output_at table k)) (sym (setting-is k h))
    (subst (λ (n : ℕ). P (entry_of k) n) (sym (output-is k h)) p)

abbrev InOrder : PllConfig → ℕ → PllConfig → ℕ → Type 0
InOrder c m d n = (m < n) ⊎ ((m ≡ n) × Before c d)

pub book-right : RightBook table
book-right =
    record {
      count = table-length;
      candidate = λ k h. at_place (λ c n. Candidate crystal c) k h (entry-candidate k h);
      valid = λ k h. at_place (λ c n. valid_of c crystal ≡ true) k h
          (is_true (valid_of (entry_of k) crystal) (entry-permitted k h).valid);
      output = λ k h.
          at_place (λ c n. output_of c crystal ≡ value n) k h (output (entry_of k) (entry-candidate k h));
      ordered = λ a b l h.
          at_place (λ c n. InOrder c n (setting_at table b) (output_at table b)) a (omega arith)
          (at_place (λ d n. InOrder (entry_of a) (hertz (entry_of a)) d n) b h (ordered a b l h));
      complete = λ c m. let p = entry-complete c m in (p.0, p.1, setting-is p.0 p.1 ∙ p.2);
    }
