-- The search serves exactly the inputs that have a permitted feedback divider, and its settings are valid: both
-- follow from `RightAnswer`.
use Rattle.std.specs.Prelude.{◌≡◌, refl, ◌⊎◌, true, ℕ, ◌/◌, ◌≤◌, ◌<◌}
use mathlib.Core.{Path.sym, Path.ap, Path.subst, Path.◌∙◌, Logic.⊎_elim}
use native.Mathlib.{Omega.arith, Nat.mul-le-mul_left, Nat.div-one}
use Rattle.base.specs.Answer.{Answer, value, refusal}
use Rattle.pll.specs.{Ranges.reference_min, Ranges.vco_max, Setting.reference_of, Setting.valid_of, Search.search_of}
use Rattle.pll.specs.{Ends.highest_of, Ends.lowest_of, Law.VcoPermits, Law.Candidate, Law.RightAnswer, declared.PllConfig.PllConfig}
use Rattle.pll.proofs.Ends.{Served, served, unserved, number, highest-none, lowest-none, highest-value, lowest-some, highest-right}
use Rattle.pll.proofs.{Candidates.vco-is, Candidates.candidate-permits, Right.search-right, Valid.valid-is}

module _ (input target : ℕ) where
  pub search-finds : reference_min ≤ input → input ≤ 100000000 → (c : PllConfig) × (search_of input target ≡ value c)
  search-finds lo hi = go (search_of input target) (search-right input target)
    where
      go : (a : Answer PllConfig) → RightAnswer input target a → (c : PllConfig) × (a ≡ value c)
      go (value c) h = (c, refl)
      go (refusal n) h =
          absurd (⊎_elim (λ l. omega arith) (λ none. none _ (highest-right input _ (highest-value input (lo, hi))).1.one) h.1)

  refuses : ((c : PllConfig) → Candidate input c → ⊥) → search_of input target ≡ refusal 15
  refuses none = go (search_of input target) (search-right input target)
    where
      go : (a : Answer PllConfig) → RightAnswer input target a → a ≡ refusal 15
      go (value c) h = absurd (none c h.candidate)
      go (refusal n) h = ap refusal h.0

  -- where an end is missing, no divider is permitted, so there is nothing to walk over, and the answer is 15
  pub none-to-walk : (n : ℕ) → (highest_of input ≡ refusal n) ⊎ (lowest_of input ≡ refusal n)
      → (n ≡ 15) × (search_of input target ≡ refusal 15) × ((fb : ℕ) → reference_min ≤ input → VcoPermits input fb → ⊥)
  none-to-walk n e = go (served input)
    where
      clash : (a : Answer ℕ) (fb : ℕ) → a ≡ value fb → a ≡ refusal n → ⊥
      clash a fb v r = let z : ◌≡◌ {A = ℕ} 0 1 = cc in omega arith

      go : Dec (Served input)
          → (n ≡ 15) × (search_of input target ≡ refusal 15) × ((fb : ℕ) → reference_min ≤ input → VcoPermits input fb → ⊥)
      go (yes s) =
          absurd (⊎_elim (clash (highest_of input) (vco_max / input) (highest-value input s))
          (clash (lowest_of input) (lowest-some input s).0 (lowest-some input s).1) e)
      go (no not) = (
        ⊎_elim (λ h. ap (number input) (sym h ∙ highest-none input not))
            (λ l. ap (number input) (sym l ∙ lowest-none input not)) e,
        refuses (λ c m. unserved input not c.fbdiv m.reference_low (candidate-permits input c m)),
        unserved input not,
      )

  pub search-refuses-low : input < reference_min → search_of input target ≡ refusal 15
  search-refuses-low l = refuses (λ c m. omega (arith, m.reference_low))

  -- the VCO of a candidate bounds its input
  pub input-most : (c : PllConfig) → Candidate input c → input ≤ 100000000
  input-most c m =
      omega (arith, m.vco.high, vco-is input c m.reference, mul-le-mul_left input m.feedback_low)

  pub search-refuses-high : 100000000 < input → search_of input target ≡ refusal 15
  search-refuses-high l = refuses (λ c m. omega (arith, input-most c m))

  -- a setting of the search has a reference of 5 MHz or more, reference divider 1, feedback divider 16 to 320, and
  -- VCO and post dividers in range
  pub found-candidate : (c : PllConfig) → search_of input target ≡ value c → Candidate input c
  found-candidate c e = (subst (RightAnswer input target) e (search-right input target)).candidate

  -- so a setting of the search is valid
  pub found-valid : (c : PllConfig) → search_of input target ≡ value c → valid_of c input ≡ true
  found-valid c e =
      let m = found-candidate c e in
      let one = m.reference in
      let r : reference_of c input ≡ input = rw (one, div-one) in
      valid-is c input
      (record {
        refdiv = omega arith;
        fbdiv = (m.feedback_low, m.feedback_high);
        post1 = omega arith;
        post2 = omega arith;
        posts = m.post2_high;
        reference = omega (arith, input-most c m);
        vco = (m.vco.low, m.vco.high);
      })
