-- The list of candidates has each candidate once, in order.
use Rattle.std.specs.Prelude.{◌≡◌, refl, map, true, ◌&&◌, ℕ, zero, suc, ◌+◌, ◌*◌, ◌≤◌, ◌<◌, leb}
use mathlib.Core.{Path.sym, Path.ap, Path.◌∙◌, Logic.inl, Logic.inr, Logic.⊎_elim, List.flat_map}
use native.Mathlib.{Omega.arith, Nat.eq-or-lt_of_le, Nat.div-one}
use borrow.Author.Tests.{leb-true, le-leb}
use Rattle.base.specs.Choice.{in_range}
use Rattle.std.proofs.lemmas.Bool.{and_parts}
use Rattle.base.proofs.Bools.{in-range}
use Rattle.pll.specs.Ranges.{reference_min, feedback_min, feedback_max, vco_min, vco_max}
use Rattle.pll.specs.Search.{falling, setting, settings, permitted, candidates}
use Rattle.pll.specs.{Setting.vco_of, Law.VcoPermits, Law.Candidate, Walk.key, declared.PllConfig.PllConfig}
use Rattle.pll.proofs.Order.{Kind, Lists, UpTo, Only, lists-same, lists-falling, lists-keep}

-- the settings of the search, and those with two dividers given
abbrev pub Posts : Kind
Posts c = (c.refdiv ≡ 1) × (0 < c.post_div2) × (c.post_div2 ≤ c.post_div1) × (c.post_div1 ≤ 7)

abbrev Given : ℕ → ℕ → Kind
Given fb p1 c = (c.refdiv ≡ 1) × (c.fbdiv ≡ fb) × (c.post_div1 ≡ p1)

-- the order of the post dividers as one number, where they are below 8
abbrev post_key : PllConfig → ℕ
post_key c = c.post_div1 * 8 + c.post_div2

-- in an order that falls with the post dividers: by post 2, and by post 1
module _ (by : PllConfig → ℕ)
    (falls : (c d : PllConfig) → c.fbdiv ≡ d.fbdiv → post_key d < post_key c → by d < by c) where
  lists-post2 : (fb p1 n : ℕ)
      → Lists by (UpTo (Given fb p1) (λ c. c.post_div2) n) (map (setting fb p1) (falling n))
  unfolding Lists falling
  lists-post2 fb p1 zero = λ d m. omega (arith, m.1, m.2)
  lists-post2 fb p1 (suc n) = (
    ((refl, refl, refl), omega arith, omega arith),
    λ d m. ⊎_elim
        (λ e. inl (λ i. record { refdiv = m.0.0 i; fbdiv = m.0.1 i; post_div1 = m.0.2 i; post_div2 = e i }))
        (λ l. inr (below d m.0 l)) (eq-or-lt_of_le m.2),
    lists-same by (UpTo (Given fb p1) (λ c. c.post_div2) n)
        (λ d. UpTo (Given fb p1) (λ c. c.post_div2) (suc n) d × (by d < by (setting fb p1 (suc n))))
        (λ d m. ((m.0, m.1, omega (arith, m.2)), below d m.0 (omega (arith, m.2))))
        (λ d m. (m.0.0, m.0.1, ⊎_elim (λ e. absurd (last d m.0.0 e m.1)) (λ l. omega arith) (eq-or-lt_of_le m.0.2)))
        (map (setting fb p1) (falling n)) (lists-post2 fb p1 n),
  )
    where
      below : (d : PllConfig) → Given fb p1 d → d.post_div2 < suc n → by d < by (setting fb p1 (suc n))
      below d g l = falls (setting fb p1 (suc n)) d (sym g.1) (omega (arith, g.2))

      last : (d : PllConfig) → Given fb p1 d → d.post_div2 ≡ suc n → by d < by (setting fb p1 (suc n)) → ⊥
      last d g e l =
          let same : d ≡ setting fb p1 (suc n)
          = λ i. record { refdiv = g.0 i; fbdiv = g.1 i; post_div1 = g.2 i; post_div2 = e i } in
          omega (arith, ap by same)

  abbrev pub At : ℕ → Kind
  At fb = Only Posts (λ c. c.fbdiv) fb

  pub lists-feedback : (fb : ℕ) → Lists by (At fb) (flat_map (λ p1. map (setting fb p1) (falling p1)) (falling 7))
  lists-feedback fb =
      lists-same by _ _ (λ c m. m.0) (λ c m. (m, omega arith, m.0.3)) _
      (lists-falling by (At fb) (λ c. c.post_div1) (λ p1. map (setting fb p1) (falling p1)) 7
      (λ p1 h. lists-same by _ _ (λ c m. omega arith) (λ c m. omega arith) _ (lists-post2 fb p1 p1))
      (λ c d a b l. falls c d (a.1 ∙ sym b.1) (omega arith)) 7 (omega arith))

-- by the feedback divider
pub lists-settings : Lists key (UpTo Posts (λ c. c.fbdiv) feedback_max) settings
unfolding settings
lists-settings =
    lists-falling key Posts (λ c. c.fbdiv) _ feedback_max (λ fb h. lists-feedback key (λ c d e l. omega arith) fb)
    (λ c d a b l. omega arith) feedback_max (omega arith)

module _ (input : ℕ) where
  -- a candidate is such a setting that is permitted
  pub permitted-candidate : (c : PllConfig) → Posts c → c.fbdiv ≤ feedback_max → permitted input c ≡ true
      → Candidate input c
  permitted-candidate c p high e =
      let t = and_parts (leb reference_min input && leb feedback_min c.fbdiv) (in_range vco_min vco_max (vco_of c input)) e in
      let l = and_parts (leb reference_min input) (leb feedback_min c.fbdiv) t.0 in
      let v = in-range vco_min vco_max (vco_of c input) t.1 in
      record {
        reference = p.0;
        reference_low = leb-true reference_min input l.0;
        feedback_low = leb-true feedback_min c.fbdiv l.1;
        feedback_high = high;
        vco = record { low = v.0; high = v.1 };
        post1_high = p.3;
        post2_low = p.1;
        post2_high = p.2;
      }

  pub candidate-posts : (c : PllConfig) → Candidate input c → Posts c
  candidate-posts c m = (m.reference, m.post2_low, m.post2_high, m.post1_high)

  pub candidate-permitted : (c : PllConfig) → Candidate input c → permitted input c ≡ true
  candidate-permitted c m =
      simp (
        le-leb reference_min input m.reference_low,
        le-leb feedback_min _ m.feedback_low,
        le-leb vco_min _ m.vco.low,
        le-leb _ vco_max m.vco.high,
      )

  pub lists-candidates : Lists key (Candidate input) (candidates input)
  unfolding candidates
  lists-candidates =
      lists-same key (λ c. UpTo Posts (λ c. c.fbdiv) feedback_max c × (permitted input c ≡ true)) (Candidate input)
      (λ c m. permitted-candidate c m.0.0 m.0.2 m.1)
      (λ c m. ((candidate-posts c m, omega (arith, m.feedback_low), m.feedback_high), candidate-permitted c m))
      _ (lists-keep key (permitted input) settings _ lists-settings)

  -- the VCO of a candidate
  pub vco-is : (c : PllConfig) → c.refdiv ≡ 1 → vco_of c input ≡ input * c.fbdiv
  vco-is c e = rw (e, div-one)

  -- its feedback divider
  pub candidate-permits : (c : PllConfig) → Candidate input c → VcoPermits input c.fbdiv
  candidate-permits c m =
      record { low = m.feedback_low; high = m.feedback_high; vco = rw (vco-is c m.reference) at m.vco }

  pub a-candidate : (fb p1 p2 : ℕ) → reference_min ≤ input → VcoPermits input fb → p1 ≤ 7 → 1 ≤ p2 → p2 ≤ p1
      → Candidate input (setting fb p1 p2)
  a-candidate fb p1 p2 least v h1 l2 h2 =
      record {
        reference = refl;
        reference_low = least;
        feedback_low = v.low;
        feedback_high = v.high;
        vco = rw (vco-is (setting fb p1 p2) refl) v.vco;
        post1_high = h1;
        post2_low = l2;
        post2_high = h2;
      }
