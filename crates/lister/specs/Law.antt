-- The right list, stated declaratively (docs/PLL.md, Lister); `proofs/Once.antt` proves it of `list_of`.
use Rattle.std.specs.Prelude.{◌≡◌, ◌⊎◌, List, [], ◌∷◌, ℕ, ◌<◌}
use Rattle.base.specs.Choice.{pick}
use Rattle.pll.specs.declared.PllConfig.{PllConfig}
use Rattle.lister.specs.Lister.{remainder_free, how_often}

-- c comes before d: the lower feedback divider, or the same and the greater post 1, or the same two and the greater
-- post 2
abbrev pub Ahead : PllConfig → PllConfig → Type 0
Ahead c d =
    (c.fbdiv < d.fbdiv)
    ⊎ ((c.fbdiv ≡ d.fbdiv)
    × ((d.post_div1 < c.post_div1) ⊎ ((c.post_div1 ≡ d.post_div1) × (d.post_div2 < c.post_div2))))

-- each entry comes before the next
unfoldable pub Ordered : List PllConfig → Type 0
Ordered [] = Unit
Ordered (c ∷ []) = Unit
Ordered (c ∷ d ∷ ds) = Ahead c d × Ordered (d ∷ ds)

pub record RightList (input target : ℕ) (cs : List PllConfig) : Type 0 where
  -- each remainder-free setting is in the list exactly once, and nothing else is
  pub once : (c : PllConfig) → how_often c cs ≡ pick (remainder_free input target c) 1 0
  pub ordered : Ordered cs
