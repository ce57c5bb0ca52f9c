-- The search by whole-hertz distance alone; `proofs/Near.antt` proves it of `search_of`.
use Rattle.std.specs.Prelude.{◌≡◌, ℕ, ◌≤◌}
use Rattle.base.specs.Answer.{value}
use Rattle.pll.specs.{Search.distance, Search.search_of, Law.Candidate, Walk.key, declared.PllConfig.PllConfig}

-- c is the nearest candidate by whole hertz, and of equally near ones the first in the order of the search
pub record NearestOutput (input target : ℕ) (c : PllConfig) : Type 0 where
  pub candidate : Candidate input c
  pub least : (d : PllConfig) → Candidate input d → distance input target c ≤ distance input target d
  pub first : (d : PllConfig) → Candidate input d → distance input target d ≡ distance input target c → key d ≤ key c

-- the targets with one answer are contiguous: where two targets have it, so has every target between them
abbrev pub SideBySide : Type 0
SideBySide =
    (input a b z : ℕ) (c : PllConfig) → a ≤ b → b ≤ z → search_of input a ≡ value c → search_of input z ≡ value c
    → search_of input b ≡ value c
