-- A test over a list of settings, entry by entry, and the law that derives the rule for each entry and each pair from it.
use Rattle.std.specs.Prelude.{◌≡◌, List, [], ◌∷◌, Bool, true, false, ℕ, zero, suc, ◌+◌, ◌*◌, ◌≤◌, ◌<◌, T, leb, ltb, eqb, length, get_or}
use native.Mathlib.Omega.{arith}
use lib.Dec.{leb→le, eqb→eq}
use Rattle.pll.specs.{Setting.valid_of, Search.setting, Walk.key}
use Rattle.pll.specs.declared.PllConfig.{PllConfig}
use Rattle.speed_book.specs.Book.{crystal, hertz}

abbrev pub both : Bool → Bool → Bool
both true b = b
both false b = false

pub both_left : (a b : Bool) → T (both a b) → T a
both_left true b t = tt
both_left false b t = t

pub both_right : (a b : Bool) → T (both a b) → T b
both_right true b t = t
both_right false b t = absurd t

-- x is a candidate of the search at 12 MHz, and valid
abbrev permitted : PllConfig → Bool
permitted x =
    both (valid_of x crystal) (both (eqb x.refdiv 1)
    (both (leb 63 x.fbdiv) (both (leb x.fbdiv 133)
    (both (leb x.post_div1 7) (both (leb 1 x.post_div2) (leb x.post_div2 x.post_div1))))))

-- x precedes y: by output, and of equal outputs by the greater key
abbrev pub Ahead : PllConfig → PllConfig → Type 0
Ahead x y = hertz x * 16384 + key y < hertz y * 16384 + key x

abbrev ahead : PllConfig → PllConfig → Bool
ahead x y = ltb (hertz x * 16384 + key y) (hertz y * 16384 + key x)

abbrev pub rising : PllConfig → List PllConfig → Bool
rising x [] = permitted x
rising x (y ∷ ys) = both (permitted x) (both (ahead x y) (rising y ys))

-- the whole table: the right number of entries, each permitted, each ahead of the next
abbrev pub sound : ℕ → List PllConfig → Bool
sound n [] = false
sound n (x ∷ xs) = both (leb (suc (length xs)) n) (both (leb n (suc (length xs))) (rising x xs))

pub record Permitted (x : PllConfig) : Type 0 where
  pub valid : T (valid_of x crystal)
  pub one : x.refdiv ≡ 1
  pub fb-low : 63 ≤ x.fbdiv
  pub fb-high : x.fbdiv ≤ 133
  pub p1-high : x.post_div1 ≤ 7
  pub p2-low : 1 ≤ x.post_div2
  pub p2-high : x.post_div2 ≤ x.post_div1

abbrev d : PllConfig
d = setting 0 0 0

told : (x : PllConfig) → T (permitted x) → Permitted x
told x t =
    let r = both_right (valid_of x crystal) _ t in
    let r0 = both_right (eqb x.refdiv 1) _ r in
    let r1 = both_right (leb 63 x.fbdiv) _ r0 in
    let r2 = both_right (leb x.fbdiv 133) _ r1 in
    let r3 = both_right (leb x.post_div1 7) _ r2 in
    record {
      valid = both_left (valid_of x crystal) _ t;
      one = eqb→eq x.refdiv 1 (both_left (eqb x.refdiv 1) _ r);
      fb-low = leb→le 63 x.fbdiv (both_left (leb 63 x.fbdiv) _ r0);
      fb-high = leb→le x.fbdiv 133 (both_left (leb x.fbdiv 133) _ r1);
      p1-high = leb→le x.post_div1 7 (both_left (leb x.post_div1 7) _ r2);
      p2-low = leb→le 1 x.post_div2 (both_left (leb 1 x.post_div2) _ r3);
      p2-high = leb→le x.post_div2 x.post_div1 (both_right (leb 1 x.post_div2) _ r3);
    }

ahead-trans : (x y z : PllConfig) → Ahead x y → Ahead y z → Ahead x z
ahead-trans x y z a b = omega arith

each-permitted : (x : PllConfig) (xs : List PllConfig) → T (rising x xs) → (k : ℕ) → k < suc (length xs)
    → Permitted (get_or (x ∷ xs) k d)
each-permitted x [] t zero h = told x t
each-permitted x [] t (suc k) h = absurd (omega arith)
each-permitted x (y ∷ ys) t zero h = told x (both_left (permitted x) (both (ahead x y) (rising y ys)) t)
each-permitted x (y ∷ ys) t (suc k) h =
    each-permitted y ys (both_right (ahead x y) (rising y ys)
    (both_right (permitted x) (both (ahead x y) (rising y ys)) t)) k (omega arith)

first-ahead : (x : PllConfig) (xs : List PllConfig) → T (rising x xs) → (k : ℕ) → k < length xs → Ahead x (get_or xs k d)
first-ahead x [] t k h = absurd (omega arith)
first-ahead x (y ∷ ys) t zero h =
    leb→le _ _ (both_left (ahead x y) (rising y ys) (both_right (permitted x) (both (ahead x y) (rising y ys)) t))
first-ahead x (y ∷ ys) t (suc k) h =
    let r = both_right (permitted x) (both (ahead x y) (rising y ys)) t in
    ahead-trans x y (get_or ys k d) (leb→le _ _ (both_left (ahead x y) (rising y ys) r))
    (first-ahead y ys (both_right (ahead x y) (rising y ys) r) k (omega arith))

each-ahead : (x : PllConfig) (xs : List PllConfig) → T (rising x xs) → (a b : ℕ) → a < b → b < suc (length xs)
    → Ahead (get_or (x ∷ xs) a d) (get_or (x ∷ xs) b d)
each-ahead x xs t a zero l h = absurd (omega arith)
each-ahead x xs t zero (suc b) l h = first-ahead x xs t b (omega arith)
each-ahead x [] t (suc a) (suc b) l h = absurd (omega arith)
each-ahead x (y ∷ ys) t (suc a) (suc b) l h =
    each-ahead y ys (both_right (ahead x y) (rising y ys)
    (both_right (permitted x) (both (ahead x y) (rising y ys)) t)) a b (omega arith) (omega arith)

module _ (n : ℕ) where
  rest-sound : (x : PllConfig) (xs : List PllConfig) → T (sound n (x ∷ xs)) → T (rising x xs)
  rest-sound x xs t =
      both_right (leb n (suc (length xs))) (rising x xs)
      (both_right (leb (suc (length xs)) n) (both (leb n (suc (length xs))) (rising x xs)) t)

  pub sound-length : (l : List PllConfig) → T (sound n l) → length l ≡ n
  sound-length [] t = absurd t
  sound-length (x ∷ xs) t =
      let u = leb→le (suc (length xs)) n (both_left (leb (suc (length xs)) n) _ t) in
      let v = leb→le n (suc (length xs)) (both_left (leb n (suc (length xs))) _
      (both_right (leb (suc (length xs)) n) (both (leb n (suc (length xs))) (rising x xs)) t)) in
      omega arith

  pub sound-permitted : (l : List PllConfig) → T (sound n l) → (k : ℕ) → k < length l → Permitted (get_or l k d)
  sound-permitted [] t k h = absurd t
  sound-permitted (x ∷ xs) t k h = each-permitted x xs (rest-sound x xs t) k h

  pub sound-ahead : (l : List PllConfig) → T (sound n l) → (a b : ℕ) → a < b → b < length l
      → Ahead (get_or l a d) (get_or l b d)
  sound-ahead [] t a b l h = absurd t
  sound-ahead (x ∷ xs) t a b l h = each-ahead x xs (rest-sound x xs t) a b l h
