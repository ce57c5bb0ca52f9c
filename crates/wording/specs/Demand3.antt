-- Demand 3 of `make`: two sheets are equal exactly when their plans agree in every setting.
use Rattle.std.specs.Prelude.{Option, Some, ◌≡◌, ◌↔◌, List, ℕ, Result}
use Rattle.base.specs.{Answer.value, Answer.answer_in, declared.refusal.Refusal.Refusal}
use Rattle.settings.specs.declared.Settings.{Settings}
use Rattle.sheet.specs.Demand3.{SameUpTo}
use Rattle.export.specs.Demand3.{settings_in}
use Rattle.wording.specs.Made.{order_made, reading_made, MakeCall}

-- the settings of the plan that is ordered, where there is one
abbrev pub settings_made : List ℕ → Option Settings
settings_made line = settings_in (order_made line) (reading_made line)

-- Two calls at one reading, of any two orders, with any two buffers, that answered lengths: the lengths and the bytes up to them
-- are equal exactly when the settings are.
abbrev pub MakeSheets : Type 0
MakeSheets =
    (line line' b b' c c' : List ℕ) (r s : Option (Result ℕ Refusal)) (m n : ℕ)
    → reading_made line ≡ reading_made line'
    → MakeCall line b r b' → answer_in r ≡ Some (value m)
    → MakeCall line' c s c' → answer_in s ≡ Some (value n)
    → ((m ≡ n) × SameUpTo m b' c') ↔ (settings_made line ≡ settings_made line')
