-- Sorting a list in two parts and merging them sorts the list, which makes the evaluation of the book fast.
use Rattle.std.specs.Prelude.{◌≡◌, List, [], ◌∷◌, ◌++◌, map, Bool, true, false, ℕ, ◌≤◌, ◌<◌, leb}
use mathlib.Core.{Path.refl, Path.ap, Path.◌∙◌, List.flat_map}
use native.Mathlib.Omega.{arith}
use borrow.Author.Tests.{leb-true, leb-false, le-leb, lt-leb}
use Rattle.base.specs.Choice.{pick}
use Rattle.pll.specs.Search.{falling, setting, settings, keep, permitted, candidates}
use Rattle.pll.specs.declared.PllConfig.{PllConfig}
use Rattle.pll.proofs.Order.{keep_append}
use Rattle.speed_book.specs.Book.{crystal, hertz, insert, by_output, book}

-- the elements of the second list below x, then x, then `rest` of what is left
unfoldable pub under : PllConfig → (List PllConfig → List PllConfig) → List PllConfig → List PllConfig
under x rest [] = x ∷ rest []
under x rest (y ∷ ys) = pick (leb (hertz x) (hertz y)) (x ∷ rest (y ∷ ys)) (y ∷ under x rest ys)

-- of equal outputs those of the first list come first
unfoldable pub merge : List PllConfig → List PllConfig → List PllConfig
merge [] ys = ys
merge (x ∷ xs) ys = under x (merge xs) ys

unfoldable pub merge_each : (ℕ → List PllConfig) → List ℕ → List PllConfig
merge_each f [] = []
merge_each f (k ∷ ks) = merge (by_output (f k)) (merge_each f ks)

insert-end : (x : PllConfig) (ys : List PllConfig) → insert x ys ≡ under x (merge []) ys
unfolding insert under merge
insert-end x [] = refl
insert-end x (y ∷ ys) = ap (λ (l : List PllConfig). pick (leb (hertz x) (hertz y)) (x ∷ y ∷ ys) (y ∷ l))
    (insert-end x ys)

-- x goes before a
first_step : (x a : PllConfig) (us : List PllConfig) (b : PllConfig) (vs : List PllConfig) (q : Bool)
    → leb (hertz x) (hertz a) ≡ true → leb (hertz a) (hertz b) ≡ q
    → insert x (under a (merge us) vs) ≡ under x (under a (merge us)) vs
    → insert x (pick q (a ∷ merge us (b ∷ vs)) (b ∷ under a (merge us) vs))
    ≡ pick (leb (hertz x) (hertz b)) (x ∷ pick q (a ∷ merge us (b ∷ vs)) (b ∷ under a (merge us) vs))
    (b ∷ under x (under a (merge us)) vs)
unfolding insert
first_step x a us b vs true e f ih =
    let h : hertz x ≤ hertz a = leb-true (hertz x) (hertz a) e in
    let k : hertz a ≤ hertz b = leb-true (hertz a) (hertz b) f in
    let l : hertz x ≤ hertz b = omega arith in
    rw (e, le-leb (hertz x) (hertz b) l)
first_step x a us b vs false e f ih = ap (λ (l : List PllConfig). pick (leb (hertz x) (hertz b))
    (x ∷ b ∷ under a (merge us) vs) (b ∷ l)) ih

insert-first : (x a : PllConfig) (us vs : List PllConfig) → leb (hertz x) (hertz a) ≡ true
    → insert x (under a (merge us) vs) ≡ under x (under a (merge us)) vs
unfolding insert under
insert-first x a us [] e = rw e
insert-first x a us (b ∷ vs) e = first_step x a us b vs (leb (hertz a) (hertz b)) e refl (insert-first x a us vs e)

-- x goes after a
later-step : (x a : PllConfig) (us : List PllConfig) (b : PllConfig) (vs : List PllConfig) (q : Bool)
    → leb (hertz x) (hertz a) ≡ false → leb (hertz a) (hertz b) ≡ q
    → insert x (merge us (b ∷ vs)) ≡ merge (insert x us) (b ∷ vs)
    → insert x (under a (merge us) vs) ≡ under a (merge (insert x us)) vs
    → insert x (pick q (a ∷ merge us (b ∷ vs)) (b ∷ under a (merge us) vs)) ≡ pick q
    (a ∷ merge (insert x us) (b ∷ vs)) (b ∷ under a (merge (insert x us)) vs)
unfolding insert
later-step x a us b vs true e f ih jh = rw e (ap (λ (l : List PllConfig). a ∷ l) ih)
later-step x a us b vs false e f ih jh =
    let h : hertz a < hertz x = leb-false (hertz x) (hertz a) e in
    let k : hertz b < hertz a = leb-false (hertz a) (hertz b) f in
    let l : hertz b < hertz x = omega arith in
    rw (lt-leb (hertz x) (hertz b) l) (ap (λ (l : List PllConfig). b ∷ l) jh)

insert-later : (x a : PllConfig) (us : List PllConfig) → leb (hertz x) (hertz a) ≡ false → ((vs : List PllConfig)
    → insert x (merge us vs) ≡ merge (insert x us) vs)
    → (vs : List PllConfig) → insert x (under a (merge us) vs) ≡ under a (merge (insert x us)) vs
unfolding insert under
insert-later x a us e ih [] = rw e (ap (λ (l : List PllConfig). a ∷ l) (ih []))
insert-later x a us e ih (b ∷ vs) = later-step x a us b vs (leb (hertz a) (hertz b)) e refl (ih (b ∷ vs))
    (insert-later x a us e ih vs)

insert-pick : (x a : PllConfig) (us vs : List PllConfig) (q : Bool) → leb (hertz x) (hertz a) ≡ q
    → ((vs : List PllConfig) → insert x (merge us vs) ≡ merge (insert x us) vs)
    → insert x (under a (merge us) vs) ≡ merge (pick q (x ∷ a ∷ us) (a ∷ insert x us)) vs
unfolding merge
insert-pick x a us vs true e ih = insert-first x a us vs e
insert-pick x a us vs false e ih = insert-later x a us e ih vs

insert-merge : (x : PllConfig) (us vs : List PllConfig) → insert x (merge us vs) ≡ merge (insert x us) vs
unfolding insert merge
insert-merge x [] vs = insert-end x vs
insert-merge x (a ∷ us) vs = insert-pick x a us vs (leb (hertz x) (hertz a)) refl (insert-merge x us)

sort-append : (xs ys : List PllConfig) → by_output (xs ++ ys) ≡ merge (by_output xs) (by_output ys)
unfolding by_output merge
sort-append [] ys = refl
sort-append (x ∷ xs) ys = ap (insert x) (sort-append xs ys) ∙ insert-merge x (by_output xs) (by_output ys)

sort-each : (f : ℕ → List PllConfig) (ks : List ℕ) → by_output (flat_map f ks) ≡ merge_each f ks
unfolding by_output flat_map merge_each
sort-each f [] = refl
sort-each f (k ∷ ks) = sort-append (f k) (flat_map f ks) ∙ ap (merge (by_output (f k))) (sort-each f ks)

keep-each : (t : PllConfig → Bool) (f : ℕ → List PllConfig) (ks : List ℕ)
    → keep t (flat_map f ks) ≡ flat_map (λ k. keep t (f k)) ks
unfolding keep flat_map
keep-each t f [] = refl
keep-each t f (k ∷ ks) =
    keep_append t (f k) (flat_map f ks) ∙ ap (λ (l : List PllConfig). keep t (f k) ++ l) (keep-each t f ks)

-- the settings with one feedback divider
abbrev at_feedback : ℕ → List PllConfig
at_feedback fb = flat_map (λ p1. map (setting fb p1) (falling p1)) (falling 7)

-- the book, by merging the candidates of each feedback divider
unfoldable pub merged : List PllConfig
merged = merge_each (λ fb. keep (permitted crystal) (at_feedback fb)) (falling 320)

pub book-merged : book ≡ merged
unfolding book merged candidates settings
book-merged =
    ap by_output (keep-each (permitted crystal) at_feedback (falling 320))
    ∙ sort-each (λ fb. keep (permitted crystal) (at_feedback fb)) (falling 320)
