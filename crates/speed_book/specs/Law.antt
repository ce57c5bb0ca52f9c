-- The right table, stated declaratively (docs/PLL.md, The 12 MHz book); `proofs/Right.antt` proves it of `table`.
use Rattle.std.specs.Prelude.{◌≡◌, ◌⊎◌, List, true, ℕ, ◌<◌, length}
use Rattle.base.specs.Answer.{value}
use Rattle.pll.specs.{Setting.valid_of, Setting.output_of, Law.Candidate, Law.Before, declared.PllConfig.PllConfig}
use Rattle.speed_book.specs.Book.{entries, crystal, output_at, setting_at}

pub record RightBook (l : List ℕ) : Type 0 where
  pub count : length l ≡ entries
  -- each entry is a setting that the search chooses from, and valid
  pub candidate : (k : ℕ) → k < entries → Candidate crystal (setting_at l k)
  pub valid : (k : ℕ) → k < entries → valid_of (setting_at l k) crystal ≡ true
  -- its output is the one that the setting gives
  pub output : (k : ℕ) → k < entries → output_of (setting_at l k) crystal ≡ value (output_at l k)
  -- by output, and equal outputs in the order of the search
  pub ordered : (a b : ℕ) → a < b → b < entries
      → (output_at l a < output_at l b)
      ⊎ ((output_at l a ≡ output_at l b) × Before (setting_at l a) (setting_at l b))
  -- none is missing
  pub complete : (c : PllConfig) → Candidate crystal c → (k : ℕ) × (k < entries) × (setting_at l k ≡ c)
