-- The setting with the lowest rank is the answer of `search_of`.
use Rattle.std.specs.Prelude.{◌≡◌, ℕ, ◌-◌, ◌/◌, ◌%◌, ◌<◌}
use mathlib.Core.{Path.sym, Path.ap, Logic.⊎_elim}
use native.Mathlib.Omega.{arith}
use Rattle.base.specs.Answer.{Answer, value, refusal}
use Rattle.pll.specs.Walk.{keys, no_rank, key, rank_of, setting_of, LowestRank}
use Rattle.pll.specs.{Search.search_of, Law.Candidate, declared.PllConfig.PllConfig}
use Rattle.pll.proofs.{Scores.rank_is, Scores.rank_below, Right.LowestOf, Right.search-lowest}

module _ (input target r : ℕ) where
  -- the setting of a rank
  setting-is : (c : PllConfig) → Candidate input c → r ≡ rank_of input target c → setting_of r ≡ c
  setting-is c m e =
      let h1 = m.post1_high in
      let h2 = m.post2_high in
      let one : 1 ≡ c.refdiv = sym m.reference in
      let k : keys - 1 - r % keys ≡ key c = omega (arith, rank_is input target c, m.feedback_high) in
      let f : (keys - 1 - r % keys) / 64 ≡ c.fbdiv = omega arith in
      let p1 : (keys - 1 - r % keys) / 8 % 8 ≡ c.post_div1 = omega arith in
      let p2 : (keys - 1 - r % keys) % 8 ≡ c.post_div2 = omega arith in
      λ i. record { refdiv = one i; fbdiv = f i; post_div1 = p1 i; post_div2 = p2 i }

  -- the lowest rank is that of the answer; it is below the one from which the walk starts
  pub lowest-found : target < 4294967296 → (c : PllConfig) → Candidate input c
      → LowestRank input target (Candidate input) no_rank r → value (setting_of r) ≡ search_of input target
  lowest-found fits c m w =
      ⊎_elim (λ e. absurd (omega (arith, e, rank_below input target fits c m, w.least c m)))
      (λ x. go x (search_of input target) (search-lowest input target)) w.one
    where
      go : (x : PllConfig) × Candidate input x × (r ≡ rank_of input target x)
          → (a : Answer PllConfig) → LowestOf input target a → value (setting_of r) ≡ a
      go x (value d) l =
          let least = l.least x.0 x.1 in
          ap value (setting-is d l.candidate (omega (arith, x.2, w.least d l.candidate)))
      go x (refusal n) h = absurd (h.1 x.0 x.1)
