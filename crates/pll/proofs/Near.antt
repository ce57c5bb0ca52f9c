-- The answer of the search is the nearest by whole hertz, and of equals the first: of settings with one whole-hertz
-- output all or none have a remainder, so a setting with no remainder is also the nearest. The targets with one
-- answer are contiguous.
use Rattle.std.specs.Prelude.{◌≡◌, ℕ, ◌+◌, ◌*◌, ◌%◌, ◌≤◌, ◌<◌}
use mathlib.Core.{Path.sym, Path.ap, Path.subst, Path.◌∙◌, Logic.⊎_elim}
use Prim.Native.Nat.{◌∣◌}
use native.Mathlib.Nat.{mul-le-mul, mul-pos, mod-lt, div-add-mod', add-mul, mul_assoc, mul_right_comm, dvd-add_iff_right}
use native.Mathlib.Nat.{dvd-mul_right, le_of_dvd, div-eq_of_eq-mul_left, eq-zero-or-pos, eq-or-lt_of_le, le_refl}
use native.Mathlib.{Omega.arith, Decide.dec_le}
use Rattle.base.specs.Answer.{value}
use Rattle.pll.specs.{Setting.vco_of, Setting.posts_of, Setting.output_hz, Search.apart, Search.distance, Search.search_of}
use Rattle.pll.specs.{Law.Candidate, Law.Exact, Walk.key, declared.PllConfig.PllConfig, Near.NearestOutput, Near.SideBySide}
use Rattle.pll.proofs.{Candidates.vco-is, Right.LowestOf, Right.search-lowest, Right.search-right, Scores.score-cases}
use Rattle.pll.proofs.{Scores.rank_is, Scores.Lowest, Scores.lowest-chosen, Sizes.posts-most, Sizes.posts-some, Unique.right_unique}

-- a remainder below 49 whose product with at most 49 is a multiple of the input is 0
no-remainder : (input a b r p : ℕ) → 5000000 ≤ input → r < 49 → 0 < p → p ≤ 49 → input * a ≡ input * b + r * p → r ≡ 0
no-remainder input a b r p hi hr hp hq e = ⊎_elim (λ z. z) (λ l. absurd (over l)) (eq-zero-or-pos r)
  where
    over : 0 < r → ⊥
    over l =
        let d : input ∣ r * p
        = (dvd-add_iff_right input (dvd-mul_right input b)).1 (subst (λ (n : ℕ). input ∣ n) e (dvd-mul_right input a)) in
        let s : r ≤ 48 = omega arith in
        omega (arith, le_of_dvd (mul-pos l hp) d, mul-le-mul s hq)

module _ (input target : ℕ) where
  some-posts : (c : PllConfig) → Candidate input c → 0 < posts_of c
  some-posts c m = posts-some c.post_div1 c.post_div2 m.post2_low m.post2_high

  few-posts : (c : PllConfig) → Candidate input c → posts_of c ≤ 49
  few-posts c m = posts-most c.post_div1 c.post_div2 m.post1_high m.post2_high

  exact-hertz : (c : PllConfig) → Candidate input c → Exact input target c → output_hz c input ≡ target
  exact-hertz c m e =
      div-eq_of_eq-mul_left {n = posts_of c} {m = vco_of c input} {k = target} (some-posts c m) (sym e)

  -- of two settings with one whole-hertz output, both are exact or neither
  pub exact-both : (c d : PllConfig) → Candidate input c → Candidate input d → output_hz c input ≡ target
      → Exact input target d → Exact input target c
  exact-both c d m n h e =
      let p : ℕ = posts_of c in
      let q : ℕ = posts_of d in
      let v : ℕ = vco_of c input in
      let r : ℕ = v % p in
      let vc : v ≡ input * c.fbdiv = vco-is input c m.reference in
      let vd : vco_of d input ≡ input * d.fbdiv = vco-is input d n.reference in
      let whole : target * p + r ≡ v = subst (λ (x : ℕ). x * p + r ≡ v) h (div-add-mod' v p) in
      let small : r < p = mod-lt v (some-posts c m) in
      let cross : input * (c.fbdiv * q) ≡ input * (d.fbdiv * p) + r * q
      = sym (mul_assoc input c.fbdiv q) ∙ ap (λ (x : ℕ). x * q) (sym vc ∙ sym whole) ∙ add-mul (target * p) r q
      ∙ ap (λ (x : ℕ). x + r * q)
      (mul_right_comm target p q ∙ ap (λ (x : ℕ). x * p) (e ∙ vd) ∙ mul_assoc input d.fbdiv p) in
      let none : r ≡ 0
      = no-remainder input (c.fbdiv * q) (d.fbdiv * p) r q m.reference_low (omega (arith, few-posts c m))
      (some-posts d n) (few-posts d n) cross in
      omega arith

  key-most : (c : PllConfig) → Candidate input c → key c ≤ 65535
  key-most c m = omega (arith, m.feedback_high, m.post1_high, m.post2_high)

  near-lowest : (c : PllConfig) → NearestOutput input target c → Lowest input target c
  near-lowest c n =
      record {
        candidate = n.candidate;
        least = λ d m.
            let rc = rank_is input target c in
            let rd = rank_is input target d in
            let kc = key-most c n.candidate in
            let kd = key-most d m in
            ⊎_elim
            (λ ec. ⊎_elim
            (λ ed. omega (
              arith,
              ec.1,
              ed.1,
              n.first d m
                  (let a = exact-hertz c n.candidate ec.0 in let b = exact-hertz d m ed.0 in omega arith),
            ))
            (λ ed. omega (arith, ec.1, ed.1))
            (score-cases (vco_of d input) target (posts_of d)))
            (λ ec. ⊎_elim
            (λ ed. absurd (ec.0
            (exact-both c d n.candidate m
            (let a = n.least d m in let b = exact-hertz d m ed.0 in omega arith) ed.0)))
            (λ ed. ⊎_elim
            (λ s. omega (arith, ec.1, ed.1, n.first d m (sym s)))
            (λ l. omega (arith, ec.1, ed.1))
            (eq-or-lt_of_le (n.least d m)))
            (score-cases (vco_of d input) target (posts_of d)))
            (score-cases (vco_of c input) target (posts_of c));
      }

  lowest-near : (c : PllConfig) → Lowest input target c → NearestOutput input target c
  lowest-near c l =
      let m = l.candidate in
      let rc = rank_is input target c in
      let kc = key-most c m in
      ⊎_elim
      (λ ec.
      let h = exact-hertz c m ec.0 in
      record {
        candidate = m;
        least = λ d k. omega arith;
        first = λ d k e.
            let x : Exact input target d = exact-both d c k m (omega arith) ec.0 in
            ⊎_elim (λ ed. omega (arith, ec.1, ed.1, l.least d k, rank_is input target d, key-most d k))
            (λ ed. absurd (ed.0 x))
            (score-cases (vco_of d input) target (posts_of d));
      })
      (λ ec. record {
        candidate = m;
        least = λ d k.
            ⊎_elim (λ ed. absurd (omega (arith, ec.1, ed.1, l.least d k, rank_is input target d, key-most d k)))
            (λ ed. omega (arith, ec.1, ed.1, l.least d k, rank_is input target d, key-most d k))
            (score-cases (vco_of d input) target (posts_of d));
        first = λ d k e.
            ⊎_elim (λ ed. absurd (omega (arith, ec.1, ed.1, l.least d k, rank_is input target d, key-most d k)))
            (λ ed. omega (arith, e, ec.1, ed.1, l.least d k, rank_is input target d, key-most d k))
            (score-cases (vco_of d input) target (posts_of d));
      })
      (score-cases (vco_of c input) target (posts_of c))

  pub near-search : (c : PllConfig) → NearestOutput input target c → search_of input target ≡ value c
  near-search c n =
      right_unique input target (search_of input target) (value c) (search-right input target)
      (lowest-chosen input target c (near-lowest c n))

  pub search-near : (c : PllConfig) → search_of input target ≡ value c → NearestOutput input target c
  search-near c e = lowest-near c (subst (LowestOf input target) e (search-lowest input target))

-- twice the target compared with the sum of two outputs decides which output is nearer
sum_low : (x y t : ℕ) → y < x → apart x t ≤ apart y t → x + y ≤ t + t
sum_low x y t h k = omega arith

low_sum : (x y t : ℕ) → y < x → x + y ≤ t + t → apart x t ≤ apart y t
low_sum x y t h k = omega arith

sum-high : (x y t : ℕ) → x < y → apart x t ≤ apart y t → t + t ≤ x + y
sum-high x y t h k = omega arith

high_sum : (x y t : ℕ) → x < y → t + t ≤ x + y → apart x t ≤ apart y t
high_sum x y t h k = omega arith

-- an output that is as near to b as x, and not nearer to a target on its own side, is as near to that target
as-near : (x y a b : ℕ) → apart x a ≤ apart y a → apart y b ≡ apart x b → (y < x) × (a ≤ b) → apart y a ≡ apart x a
as-near x y a b k e h =
    let m : x + y ≤ a + a = sum_low x y a h.0 k in
    let n : b + b ≤ y + x = sum-high y x b h.0 (omega (arith, e)) in
    let s : b ≡ a = omega (arith, h.1) in
    rw s at e

as-near-above : (x y a b : ℕ) → apart x a ≤ apart y a → apart y b ≡ apart x b → (x < y) × (b ≤ a)
    → apart y a ≡ apart x a
as-near-above x y a b k e h =
    let m : a + a ≤ x + y = sum-high x y a h.0 k in
    let n : y + x ≤ b + b = sum_low y x b h.0 (omega (arith, e)) in
    let s : b ≡ a = omega (arith, h.1) in
    rw s at e

data Order (x y : ℕ) : Type 0 where
  below : y < x → Order x y
  same : x ≡ y → Order x y
  above : x < y → Order x y

order : (x y : ℕ) → Order x y
order x y = go (dec_le x y)
  where
    go : Dec (x ≤ y) → Order x y
    go (yes h) = ⊎_elim same above (eq-or-lt_of_le h)
    go (no h) = below (omega arith)

-- the nearest setting of two targets is the nearest of every target between them
near-between : (input a b z : ℕ) (c : PllConfig) → a ≤ b → b ≤ z → NearestOutput input a c → NearestOutput input z c
    → NearestOutput input b c
near-between input a b z c ab bz na nz =
    record {
      candidate = na.candidate;
      least = λ d m. no-farther d m (order (output_hz c input) (output_hz d input));
      first = λ d m e. no-later d m e (order (output_hz c input) (output_hz d input));
    }
  where
    no-farther : (d : PllConfig) → Candidate input d → Order (output_hz c input) (output_hz d input)
        → distance input b c ≤ distance input b d
    no-farther d m (below h) = low_sum _ _ b h (omega (arith, ab, sum_low _ _ a h (na.least d m)))
    no-farther d m (same h) = rw h (le_refl _)
    no-farther d m (above h) = high_sum _ _ b h (omega (arith, bz, sum-high _ _ z h (nz.least d m)))

    no-later : (d : PllConfig) → Candidate input d → distance input b d ≡ distance input b c
        → Order (output_hz c input) (output_hz d input) → key d ≤ key c
    no-later d m e (below h) = na.first d m (as-near _ _ a b (na.least d m) e (h, ab))
    no-later d m e (same h) = na.first d m (ap (λ (n : ℕ). apart n a) (sym h))
    no-later d m e (above h) = nz.first d m (as-near-above _ _ z b (nz.least d m) e (h, bz))

pub search-between : SideBySide
search-between input a b z c ab bz ea ez =
    near-search input b c (near-between input a b z c ab bz (search-near input a c ea) (search-near input z c ez))
