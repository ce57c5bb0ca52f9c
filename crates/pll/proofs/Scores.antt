-- The laws of the score, of the key (the order as one number) and of the rank.
use Rattle.std.specs.Prelude.{◌≡◌, refl, ◌⊎◌, ℕ, ◌+◌, ◌-◌, ◌*◌, ◌/◌, ◌≤◌, ◌<◌, eqb}
use mathlib.Core.Logic.{inl, inr, ⊎_elim}
use native.Mathlib.{Omega.arith, Nat.div-le_self, Nat.le-div_iff_mul-le, Nat.div-lt_iff_lt-mul, Nat.div-mul-le_self, Nat.add-mul}
use borrow.Author.Tests.{eqb-true, eqb-false}
use Rattle.base.proofs.Bools.{either_way}
use Rattle.pll.specs.{Setting.vco_of, Setting.posts_of, Search.apart, Search.distance, Law.Candidate, Law.Exact, Law.Before}
use Rattle.pll.specs.{Law.Chosen, Walk.keys, Walk.no_rank, Walk.score_of, Walk.key, Walk.rank_of, declared.PllConfig.PllConfig}

module _ (v t d : ℕ) where
  -- a score is 0 with no remainder, else the distance and 1
  abbrev Cases : ℕ → Type 0
  Cases s = ((t * d ≡ v) × (s ≡ 0)) ⊎ ((t * d ≡ v → ⊥) × (s ≡ apart (v / d) t + 1))

  pub score-cases : Cases (score_of v t d)
  unfolding score_of
  score-cases =
      either_way (eqb (t * d) v)
      (λ e. rw e (inl (eqb-true (t * d) v e, refl))) (λ e. rw e (inr (eqb-false (t * d) v e, refl)))

  pub score-exact : t * d ≡ v → score_of v t d ≡ 0
  score-exact e = ⊎_elim (λ k. k.1) (λ k. absurd (k.0 e)) score-cases

  pub score-other : (t * d ≡ v → ⊥) → score_of v t d ≡ apart (v / d) t + 1
  score-other n = ⊎_elim (λ k. absurd (n k.0)) (λ k. k.1) score-cases

  pub score-most : score_of v t d ≤ apart (v / d) t + 1
  score-most = ⊎_elim (λ k. omega (arith, k.1)) (λ k. omega (arith, k.1)) score-cases

  -- more than e over the target, and more than e under it
  pub score-high : (e : ℕ) → 0 < d → (t + e + 1) * d ≤ v → e < score_of v t d
  score-high e p h =
      let o : t + e + 1 ≤ v / d = (le-div_iff_mul-le {k = d} {x = t + e + 1} {y = v} p).1 h in
      omega (arith, score-other (λ x. omega (arith, x, add-mul (t + e) 1 d, add-mul t e d)))

  pub score-low : (e : ℕ) → 0 < d → v + e * d < t * d → e < score_of v t d
  score-low e p h =
      let o : (v + e * d) / d < t = (div-lt_iff_lt-mul {k = d} {x = v + e * d} {y = t} p).1 h in
      let l : v / d + e ≤ (v + e * d) / d
      = (le-div_iff_mul-le {k = d} {x = v / d + e} {y = v + e * d} p).1
      (omega (arith, add-mul (v / d) e d, div-mul-le_self v d)) in
      omega (arith, score-other (λ x. omega (arith, x)))

-- the setting that precedes has the greater key
pub before-key : (c d : PllConfig) → c.post_div1 ≤ 7 → c.post_div2 ≤ c.post_div1 → Before d c → key c < key d
before-key c d h1 h2 b =
    ⊎_elim (λ l. omega arith)
    (λ r. ⊎_elim (λ l. omega (arith, r.0)) (λ l. omega (arith, r.0, l.0, l.1)) r.1)
    b

module _ (input target : ℕ) where
  abbrev score : PllConfig → ℕ
  score c = score_of (vco_of c input) target (posts_of c)

  pub rank_is : (c : PllConfig) → rank_of input target c ≡ score c * keys + (keys - 1 - key c)
  unfolding rank_of
  rank_is c = refl

  -- the rank of a candidate is below the one from which the walk starts
  pub rank_below : target < 4294967296 → (c : PllConfig) → Candidate input c
      → rank_of input target c < no_rank
  rank_below t c m =
      let s = score-most (vco_of c input) target (posts_of c) in
      omega (arith, rank_is c, div-le_self (vco_of c input) (posts_of c), m.vco.high)

  -- no candidate has a lower rank
  pub record Lowest (c : PllConfig) : Type 0 where
    pub candidate : Candidate input c
    pub least : (d : PllConfig) → Candidate input d → rank_of input target c ≤ rank_of input target d

  -- by score, and of equal scores by the order
  by-score : (c d : PllConfig) → Lowest c → Candidate input d
      → (score c ≤ score d) × (score d ≤ score c → Before d c → ⊥)
  by-score c d l k =
      let least = l.least d k in
      let rc = rank_is c in
      let rd = rank_is d in
      let high : key d < keys = omega (arith, k.feedback_high, k.post1_high, k.post2_high) in (
        omega arith,
        λ s b. omega (arith, before-key c d l.candidate.post1_high l.candidate.post2_high b),
      )

  -- so it is the one that the search has to answer
  pub lowest-chosen : (c : PllConfig) → Lowest c → Chosen input target c
  lowest-chosen c l =
      let exactly : (d : PllConfig) → Exact input target d → score d ≡ 0
      = λ d. score-exact (vco_of d input) target (posts_of d) in
      let other : (d : PllConfig) → (Exact input target d → ⊥) → score d ≡ distance input target d + 1
      = λ d. score-other (vco_of d input) target (posts_of d) in
      let m = l.candidate in
      record {
        candidate = m;
        exact = λ d k e. ⊎_elim (λ f. f.0) (λ f. absurd (omega (arith, f.1, (by-score c d l k).0, exactly d e)))
            (score-cases (vco_of c input) target (posts_of c));
        exact_first = λ d k e. (by-score c d l k).1 (omega (arith, exactly d e));
        nearest = λ none d k. omega (arith, (by-score c d l k).0, other c (none c m), other d (none d k));
        nearest_first = λ none d k e.
            (by-score c d l k).1 (omega (arith, e, other c (none c m), other d (none d k)));
      }

-- what shows that a score is above d
pub ruleset farther = (score-high, score-low)
