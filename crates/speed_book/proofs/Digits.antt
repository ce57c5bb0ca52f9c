-- The digits of a table entry give back the output and the dividers.
use Rattle.std.specs.Prelude.{◌≡◌, ℕ, ◌/◌, ◌%◌, ◌≤◌, ◌<◌, get_or}
use native.Mathlib.{Omega.arith, Nat.div-le_self}
use lib.ListN.{get_or-map}
use Rattle.pll.specs.{Setting.vco_of, Setting.posts_of, Search.setting}
use Rattle.speed_book.specs.Book.{crystal, entries, hertz, table_number, book, table, output_in, setting_in}
use Rattle.speed_book.proofs.Entries.{entry_of, entry-permitted, entry-candidate}

-- the entry at an index of the table
pub table_at : (k : ℕ) → get_or table k 0 ≡ table_number (entry_of k)
unfolding table table_number hertz
table_at k = get_or-map table_number book k (setting 0 0 0)

pub output-digits : (k : ℕ) → k < entries → (n : ℕ) → n ≡ table_number (entry_of k) → output_in n ≡ hertz (entry_of k)
unfolding table_number
output-digits k h n e = let p = entry-permitted k h in omega (arith, p.fb-high, p.p1-high, p.p2-high)

pub setting-digits : (k : ℕ) → k < entries → (n : ℕ) → n ≡ table_number (entry_of k) → setting_in n ≡ entry_of k
unfolding table_number
setting-digits k h n e =
    let p = entry-permitted k h in
    let one : 1 ≡ (entry_of k).refdiv = omega (arith, p.one) in
    let f : n / 100 % 1000 ≡ (entry_of k).fbdiv = omega (arith, p.fb-high, p.p1-high, p.p2-high) in
    let p1 : n / 10 % 10 ≡ (entry_of k).post_div1 = omega (arith, p.p1-high, p.p2-high) in
    let p2 : n % 10 ≡ (entry_of k).post_div2 = omega (arith, p.p1-high, p.p2-high) in
    λ i. record { refdiv = one i; fbdiv = f i; post_div1 = p1 i; post_div2 = p2 i }

pub hertz-fits : (k : ℕ) → k < entries → hertz (entry_of k) ≤ 1600000000
unfolding hertz
hertz-fits k h =
    omega (arith, div-le_self (vco_of (entry_of k) crystal) (posts_of (entry_of k)), (entry-candidate k h).vco.high)
