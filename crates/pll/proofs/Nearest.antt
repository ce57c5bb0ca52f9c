-- Of the settings with one feedback divider, the nearest to the target has one of the two post products next to the
-- wanted one.
use Rattle.std.specs.Prelude.{◌≡◌, refl, ℕ, suc, min, ◌+◌, ◌-◌, ◌*◌, ◌/◌, ◌%◌, ◌≤◌, ◌<◌}
use mathlib.Core.{Path.sym, Path.ap, Path.◌∙◌, Logic.inr, Logic.⊎_elim}
use native.Mathlib.{Omega.arith, Omega.min_cases, Nat.mul-le-mul_left, Nat.suc-mul, Nat.mul-suc, Nat.div-mul-le_self}
use native.Mathlib.Nat.{le-div_iff_mul-le, div-lt_iff_lt-mul, div-eq_of_eq-mul_left, eq-or-lt_of_le}
use Rattle.pll.specs.Walk.{keys, no_rank, score_of, key, rank_of, code_rank_of, product, PostCode, NearestPosts, WantedProduct}
use Rattle.pll.specs.Walk.{LowestRank, CandidatesAt}
use Rattle.pll.specs.{Ranges.reference_min, Setting.posts_of, Search.apart, Search.setting, Law.VcoPermits, Law.Candidate}
use Rattle.pll.specs.declared.PllConfig.{PllConfig}
use Rattle.pll.proofs.Scores.{score-other, score-most, rank_is, rank_below}
use Rattle.pll.proofs.{Candidates.vco-is, Candidates.a-candidate, Sizes.posts-most, Sizes.posts-some}

-- a greater divisor gives a lower quotient, where the quotients are large
gap : (v p d : ℕ) → 0 < p → p < d → d ≤ 49 → 2450 ≤ v → v / d < v / p
gap v p d hp l h hv =
    let o : ℕ = v / d in
    let big : 48 ≤ o = (le-div_iff_mul-le {k = d} {x = 48} {y = v} (omega arith)).1 (omega arith) in
    (le-div_iff_mul-le {k = p} {x = suc o} {y = v} hp).1
    (omega (arith, suc-mul o p, mul-suc o p, mul-le-mul_left o l, div-mul-le_self v d))

-- a product that does not give the target with no remainder has a score above 0
far : (v t p : ℕ) → 0 < p → (v / p ≡ t → ⊥) → score_of v t p ≡ apart (v / p) t + 1
far v t p hp n = score-other v t p (λ e. n (div-eq_of_eq-mul_left {n = p} {m = v} {k = t} hp (sym e)))

-- of the products whose output is the target or more the greatest has the lowest score
score-below : (v t p d : ℕ) → 0 < p → p < d → d ≤ 49 → 2450 ≤ v → t * d ≤ v → score_of v t d < score_of v t p
score-below v t p d hp l h hv m =
    let g : v / d < v / p = gap v p d hp l h hv in
    let o : t ≤ v / d = (le-div_iff_mul-le {k = d} {x = t} {y = v} (omega arith)).1 m in
    omega (arith, score-most v t d, far v t p hp (λ e. omega arith))

-- of the other products the least has the lowest score
score-above : (v t p d : ℕ) → 0 < d → d < p → p ≤ 49 → 2450 ≤ v → v < t * d → score_of v t d < score_of v t p
score-above v t p d hd l h hv m =
    let g : v / p < v / d = gap v d p hd l h hv in
    let o : v / d < t = (div-lt_iff_lt-mul {k = d} {x = v} {y = t} hd).1 m in
    omega (arith, score-most v t d, far v t p (omega arith) (λ e. omega arith))

module _ (input target fb : ℕ) where
  abbrev score : ℕ → ℕ
  score p = score_of (input * fb) target p

  -- a rank at this feedback divider, of a setting and of post dividers as one number
  rank-here : (c : PllConfig) → CandidatesAt input fb c
      → rank_of input target c ≡ score (posts_of c) * keys + (keys - 1 - key c)
  rank-here c m = rw (rank_is input target c, vco-is input c m.0.reference, m.1)

  rank-code : (posts : ℕ)
      → code_rank_of (input * fb) target fb posts ≡ score (product posts) * keys + (keys - 1 - (fb * 64 + posts))
  unfolding code_rank_of
  rank-code posts = refl

  module _ (least : reference_min ≤ input) (permits : VcoPermits input fb) (q pair : ℕ)
      (w : WantedProduct (input * fb) target q) (near : NearestPosts q pair) where
    abbrev low : ℕ
    low = pair / 64

    abbrev high : ℕ
    high = pair % 64

    abbrev rank : ℕ → ℕ
    rank posts = code_rank_of (input * fb) target fb posts

    -- no candidate of the feedback divider has a lower rank than both
    one_lower : (c : PllConfig) → CandidatesAt input fb c → min (rank low) (rank high) ≤ rank_of input target c
    one_lower c m =
        let v : ℕ = input * fb in
        let p : ℕ = posts_of c in
        let k = m.0 in
        let h1 = k.post1_high in
        let h2 = k.post2_high in
        let r = rank-here c m in
        ⊎_elim
        (λ n.
        let e = rank-code low in
        let some = posts-some c.post_div1 c.post_div2 k.post2_low h2 in
        let fits : low < 64 = omega (arith, near.low.post1_high) in
        let most : product low ≤ 49 = omega (arith, w.most, n.0) in
        let t : target * product low ≤ v = omega (arith, mul-le-mul_left target n.0, w.within) in
        ⊎_elim (λ s. omega (arith, ap score s, n.1))
        (λ l. omega (arith, score-below v target p (product low) some l most (omega (arith, permits.vco.low)) t))
        (eq-or-lt_of_le {n = p} {m = product low} (omega (arith, n.1))))
        (λ n.
        let e = rank-code high in
        let most = posts-most c.post_div1 c.post_div2 h1 h2 in
        let fits : high < 64 = omega (arith, near.high.post1_high) in
        let u : q + 1 ≤ product high = omega (arith, n.0) in
        let o = w.over (omega (arith, n.1)) in
        let t : v < target * product high = omega (arith, mul-le-mul_left target u) in
        ⊎_elim (λ s. omega (arith, ap score s, n.1))
        (λ l. omega (arith, score-above v target p (product high) (omega arith) l most (omega (arith, permits.vco.low)) t))
        (eq-or-lt_of_le {n = product high} {m = p} (omega (arith, n.1))))
        (near.nearer c.post_div1 c.post_div2 h1 k.post2_low h2)

    pub nearest-lowest : target < 4294967296
        → LowestRank input target (CandidatesAt input fb) no_rank (min (rank low) (rank high))
    nearest-lowest small =
        min_cases (rank low) (rank high) _ (λ l e. made low near.low e) (λ l e. made high near.high e)
      where
        made : (posts : ℕ) → PostCode posts → min (rank low) (rank high) ≡ rank posts
            → LowestRank input target (CandidatesAt input fb) no_rank (min (rank low) (rank high))
        made posts p e =
            let c : PllConfig = setting fb (posts / 8) (posts % 8) in
            let m : Candidate input c
            = a-candidate input fb (posts / 8) (posts % 8) least permits
            p.post1_high p.post2_low p.post2_high in
            let s : rank posts ≡ rank_of input target c = omega (arith, rank-code posts, rank-here c (m, refl)) in
            record {
              most = omega (arith, rank_below input target small c m);
              one = inr (c, (m, refl), e ∙ s);
              least = one_lower;
            }
