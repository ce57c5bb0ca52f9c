-- A line of the printed book has the output in hertz, the feedback divider, post 1 and post 2.
use Rattle.std.specs.Prelude.{Option, Some, None, List, [], ◌∷◌, ◌++◌, ℕ}
use Rattle.text.specs.Reply.{row_text}
use Rattle.speed_book.specs.declared.Line.{Line}

abbrev pub entry_line : Option Line → List ℕ
entry_line (Some e) =
    row_text e.hz (e.setting.fbdiv ∷ e.setting.post_div1 ∷ e.setting.post_div2 ∷ []) ++ (10 ∷ [])
entry_line None = []
