-- The lines of the target trial (docs/PROGRAMS.md, Program load): each draw is a target at 12 MHz.
use Rattle.std.specs.Prelude.{ℕ, zero, suc, List, [], ◌∷◌, ◌++◌}
use Rattle.text.specs.Reply.{answer_text, row_text}
use Rattle.pll.specs.{declared.PllConfig.PllConfig, Search.search_of}
use Rattle.trial.specs.Lcg.{drawn}

-- a text followed by a newline
abbrev pub line : List ℕ → List ℕ
line text = text ++ (10 ∷ [])

-- feedback divider, post 1, post 2
abbrev pub dividers : PllConfig → List ℕ
dividers p = row_text p.fbdiv (p.post_div1 ∷ p.post_div2 ∷ [])

-- the line of a target: its setting at 12 MHz
unfoldable pub target_line : ℕ → List ℕ
target_line x = line (answer_text dividers (search_of 12000000 x))

unfoldable pub target_lines : ℕ → ℕ → List ℕ
target_lines seed zero = []
target_lines seed (suc n) = target_lines seed n ++ target_line (drawn seed (suc n))
