-- The book (docs/PLL.md, The 12 MHz book): every candidate of the search at 12 MHz, ordered by output.
use Rattle.std.specs.Prelude.{Option, Some, None, List, [], ◌∷◌, map, ℕ, ◌+◌, ◌*◌, ◌/◌, ◌%◌, leb, ltb, get_or}
use Rattle.base.specs.Choice.{pick}
use Rattle.pll.specs.{Setting.output_hz, Search.setting, Search.candidates, declared.PllConfig.PllConfig}
use Rattle.speed_book.specs.declared.Line.{Line}

-- 12 MHz
abbrev pub crystal : ℕ
crystal = 12000000

-- the output in whole hertz
unfoldable pub hertz : PllConfig → ℕ
hertz c = output_hz c crystal

-- inserts c before the first setting whose output is not less
unfoldable pub insert : PllConfig → List PllConfig → List PllConfig
insert c [] = c ∷ []
insert c (d ∷ ds) = pick (leb (hertz c) (hertz d)) (c ∷ d ∷ ds) (d ∷ insert c ds)

-- sorts by output; equal outputs keep the order of the list
unfoldable pub by_output : List PllConfig → List PllConfig
by_output [] = []
by_output (c ∷ cs) = insert c (by_output cs)

-- every candidate of the search, by output
unfoldable pub book : List PllConfig
book = by_output (candidates crystal)

-- an output and a setting as one number, in decimal digits: the output, three of the feedback divider, post 1, post 2
unfoldable pub table_number : PllConfig → ℕ
table_number c = hertz c * 100000 + c.fbdiv * 100 + c.post_div1 * 10 + c.post_div2

-- the table of these numbers
unfoldable pub table : List ℕ
table = map table_number book

-- the output and the setting that the digits of such a number encode
abbrev pub output_in : ℕ → ℕ
output_in n = n / 100000

abbrev pub setting_in : ℕ → PllConfig
setting_in n = setting (n / 100 % 1000) (n / 10 % 10) (n % 10)

-- the output and the setting at an index of a table
abbrev pub output_at : List ℕ → ℕ → ℕ
output_at l k = output_in (get_or l k 0)

abbrev pub setting_at : List ℕ → ℕ → PllConfig
setting_at l k = setting_in (get_or l k 0)

-- the settings at 12 MHz
abbrev pub entries : ℕ
entries = 1988

-- the line at an index; none past the last
unfoldable pub line_in : List ℕ → ℕ → Option Line
line_in l k = pick (ltb k entries) (Some (record { hz = output_at l k; setting = setting_at l k })) None
