-- Demand 3: two sheets are equal exactly when the plans agree in every setting (docs/FORMAT.md, Settings that count).
use Rattle.std.specs.Prelude.{Result, ℕ, ◌<◌, get_or, ◌≡◌, ◌↔◌, List}
use Rattle.base.specs.{declared.refusal.Refusal.Refusal, Answer.value, Answer.answer_of}
use Rattle.config.specs.declared.ClockConfig.{ClockConfig}
use Rattle.settings.specs.Settings.{settings_of}
use Rattle.sheet.specs.Writer.{InitCall}

-- The bytes up to a length are equal.
abbrev pub SameUpTo : ℕ → List ℕ → List ℕ → Type 0
SameUpTo n b c = (i : ℕ) → i < n → get_or b i 0 ≡ get_or c i 0

-- Take two calls at one reading, with any two plans and any two buffers, that both answer a length. The lengths and the bytes up
-- to them are equal exactly when the plans agree in every setting.
abbrev pub Demand3 : Type 0
Demand3 =
    (p q : ClockConfig) (reading : ℕ) (b b' c c' : List ℕ) (r s : Result ℕ Refusal) (m n : ℕ)
    → InitCall p reading b r b' → answer_of r ≡ value m
    → InitCall q reading c s c' → answer_of s ≡ value n
    → ((m ≡ n) × SameUpTo m b' c') ↔ (settings_of p reading ≡ settings_of q reading)
