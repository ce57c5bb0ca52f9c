-- The right answer of the search (docs/PLL.md, Search), stated declaratively; `proofs/Right.antt` proves it of `search_of`.
use Rattle.std.specs.Prelude.{◌≡◌, ◌⊎◌, ◌↔◌, ℕ, ◌*◌, ◌≤◌, ◌<◌}
use Rattle.base.specs.Answer.{Answer, value, refusal}
use Rattle.pll.specs.Ranges.{reference_min, feedback_min, feedback_max, vco_min, vco_max}
use Rattle.pll.specs.Ends.{lowest_of, highest_of, walked_of, Among}
use Rattle.pll.specs.{Setting.vco_of, Setting.posts_of, Search.distance, declared.PllConfig.PllConfig}

-- a VCO frequency of 750 to 1600 MHz
pub record InVco (vco : ℕ) : Type 0 where
  pub low : vco_min ≤ vco
  pub high : vco ≤ vco_max

-- a feedback divider of 16 to 320 that has its VCO in range
pub record VcoPermits (input fb : ℕ) : Type 0 where
  pub low : feedback_min ≤ fb
  pub high : fb ≤ feedback_max
  pub vco : InVco (input * fb)

-- fb is the highest permitted divider; then the lowest
pub record HighestPermitted (input fb : ℕ) : Type 0 where
  pub one : VcoPermits input fb
  pub last : (k : ℕ) → VcoPermits input k → k ≤ fb

pub record LowestPermitted (input fb : ℕ) : Type 0 where
  pub one : VcoPermits input fb
  pub last : (k : ℕ) → VcoPermits input k → fb ≤ k

-- The walk takes a feedback divider at an input exactly where the input is at least 5 MHz, the divider is 16 to 320
-- and its VCO frequency is in range.
abbrev pub WalkTakesPermitted : Type 0
WalkTakesPermitted = (input fb : ℕ) → Among fb (walked_of input) ↔ ((reference_min ≤ input) × VcoPermits input fb)

-- No feedback divider that the walk takes lies beyond its two ends.
abbrev pub WalkWithinEnds : Type 0
WalkWithinEnds =
    (input low high fb : ℕ) → lowest_of input ≡ value low → highest_of input ≡ value high → Among fb (walked_of input)
    → (low ≤ fb) × (fb ≤ high)

-- what the search chooses from: the reference is the input
pub record Candidate (input : ℕ) (c : PllConfig) : Type 0 where
  pub reference : c.refdiv ≡ 1
  pub reference_low : reference_min ≤ input
  pub feedback_low : feedback_min ≤ c.fbdiv
  pub feedback_high : c.fbdiv ≤ feedback_max
  pub vco : InVco (vco_of c input)
  pub post1_high : c.post_div1 ≤ 7
  pub post2_low : 1 ≤ c.post_div2
  pub post2_high : c.post_div2 ≤ c.post_div1

-- c gives the target with no remainder
abbrev pub Exact : ℕ → ℕ → PllConfig → Type 0
Exact input target c = target * posts_of c ≡ vco_of c input

-- no candidate gives the target with no remainder
abbrev pub NoneExact : ℕ → ℕ → Type 0
NoneExact input target = (d : PllConfig) → Candidate input d → Exact input target d → ⊥

-- c precedes d in the order of the search: feedback divider, post 1, post 2, the greater first
abbrev pub Before : PllConfig → PllConfig → Type 0
Before c d =
    (d.fbdiv < c.fbdiv)
    ⊎ ((d.fbdiv ≡ c.fbdiv)
    × ((d.post_div1 < c.post_div1) ⊎ ((d.post_div1 ≡ c.post_div1) × (d.post_div2 < c.post_div2))))

-- c is the setting that the search has to answer
pub record Chosen (input target : ℕ) (c : PllConfig) : Type 0 where
  -- it is one of the candidates
  pub candidate : Candidate input c
  -- where a candidate has no remainder, c has none, and no such candidate precedes it
  pub exact : (d : PllConfig) → Candidate input d → Exact input target d → Exact input target c
  pub exact_first : (d : PllConfig) → Candidate input d → Exact input target d → Before d c → ⊥
  -- where every candidate has a remainder, none is nearer, and none as near precedes it
  pub nearest : NoneExact input target → (d : PllConfig) → Candidate input d
      → distance input target c ≤ distance input target d
  pub nearest_first : NoneExact input target → (d : PllConfig) → Candidate input d
      → distance input target d ≡ distance input target c → Before d c → ⊥

-- an answer is right: a setting is the one to answer; a refusal is 15, and the input is under 5 MHz or no feedback
-- divider has its VCO in range
abbrev pub RightAnswer : ℕ → ℕ → Answer PllConfig → Type 0
RightAnswer input target (value c) = Chosen input target c
RightAnswer input target (refusal n) = (n ≡ 15) × ((input < reference_min) ⊎ ((fb : ℕ) → VcoPermits input fb → ⊥))
