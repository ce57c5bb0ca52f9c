-- The steps of the walk down the feedback dividers: the two ends, the step to the next divider, and the whole walk.
use Rattle.std.specs.Prelude.{◌≡◌, refl, ◌⊎◌, ℕ, min, ◌-◌, ◌≤◌, ◌<◌}
use mathlib.Core.{Path.◌∙◌, Logic.inl, Logic.inr, Logic.⊎_elim}
use native.Mathlib.{Omega.arith, Omega.min_cases, Nat.eq-or-lt_of_le}
use Rattle.pll.specs.Walk.{keys, no_rank, rank_of, LowestRank, CandidatesAt, CandidatesTo}
use Rattle.pll.specs.{Law.HighestPermitted, Law.LowestPermitted, Law.Candidate, declared.PllConfig.PllConfig}
use Rattle.pll.proofs.{Candidates.candidate-permits, Scores.rank_is}

module _ (input target fb : ℕ) where
  module _ (best here : ℕ) (found : LowestRank input target (CandidatesAt input fb) no_rank here)
      (top : best ≤ no_rank) where
    abbrev now : ℕ
    now = min best here

    now-one : (now ≡ best) ⊎ ((c : PllConfig) × CandidatesAt input fb c × (now ≡ rank_of input target c))
    now-one =
        min_cases best here _ (λ l e. inl e)
        (λ l e. ⊎_elim (λ n. inl (omega arith)) (λ f. inr (f.0, f.1, e ∙ f.2)) found.one)

    -- the lowest rank below a feedback divider, and the ranks at it, give the lowest rank up to it
    pub walk-on : (r : ℕ) → LowestRank input target (CandidatesTo input (fb - 1)) now r
        → LowestRank input target (CandidatesTo input fb) best r
    walk-on r w =
        record {
          most = omega (arith, w.most);
          one = ⊎_elim
              (λ e. ⊎_elim (λ f. inl (e ∙ f))
              (λ f. inr (f.0, (f.1.0, omega (arith, f.1.1)), e ∙ f.2)) now-one)
              (λ f. inr (f.0, (f.1.0, omega (arith, f.1.1)), f.2))
              w.one;
          least = λ c m. ⊎_elim
              (λ e. omega (arith, w.most, found.least c (m.0, e)))
              (λ s. w.least c (m.0, omega arith))
              (eq-or-lt_of_le m.1);
        }

    -- the walk may stop where nothing below has a lower rank
    stop : ((c : PllConfig) → CandidatesTo input (fb - 1) c → now ≤ rank_of input target c)
        → LowestRank input target (CandidatesTo input fb) best now
    stop h = walk-on now (record { most = omega arith; one = inl refl; least = h })

    -- this holds at a rank without a remainder
    pub stop-exact : now < keys → keys ≤ best → LowestRank input target (CandidatesTo input fb) best now
    stop-exact n b =
        stop (λ c m. ⊎_elim (λ e. absurd (omega arith))
        (λ f.
        let r = rank_is input target f.0 in
        let s = rank_is input target c in
        omega (arith, f.2, f.1.1, f.1.0.feedback_low, m.1, m.0.post1_high, m.0.post2_high))
        now-one)

    -- this holds at the lowest divider that the VCO permits
    pub stop-last : (low : ℕ) → LowestPermitted input low → fb ≤ low → 0 < fb
        → LowestRank input target (CandidatesTo input fb) best now
    stop-last low l h s =
        stop (λ c m. absurd (omega (arith, l.last c.fbdiv (candidate-permits input c m.0), m.1)))

-- the walk from the highest divider that the VCO permits covers every candidate
pub all-walked : (input target high best r : ℕ) → HighestPermitted input high
    → LowestRank input target (CandidatesTo input high) best r → LowestRank input target (Candidate input) best r
all-walked input target high best r h w =
    record {
      most = w.most;
      one = ⊎_elim inl (λ f. inr (f.0, f.1.0, f.2)) w.one;
      least = λ c m. w.least c (m, h.last c.fbdiv (candidate-permits input c m));
    }
