-- A verdict is `as ordered` exactly where the bytes are the ordered plan's sheet, and otherwise names each setting that differs.
use Rattle.std.specs.Prelude.{Result, ◌≡◌, not, ◌↔◌, List, [], ℕ, ◌<◌, take, get_or}
use Rattle.base.specs.declared.refusal.Refusal.{Refusal}
use Rattle.base.specs.Answer.{value, answer_of}
use Rattle.text.specs.Ascii.{ascii, same}
use Rattle.config.specs.declared.ClockConfig.{ClockConfig}
use Rattle.settings.specs.Settings.{settings_of}
use Rattle.sheet.specs.Writer.{InitCall}
use Rattle.readback.specs.Read.{read_of}
use Rattle.wording.specs.{Parts.parts_of, Differences.has_bit, Verdict.differs, Verdict.verdict_of, Verdict.check_text}

-- A call of `init` with the ordered plan at this reading, with any buffer, that answered a length: `as ordered` is said
-- exactly where the bytes that it wrote are the sheet.
abbrev pub AsOrdered : Type 0
AsOrdered =
    (sheet : List ℕ) (reading : ℕ) (plan : ClockConfig) (before after : List ℕ) (r : Result ℕ Refusal) (n : ℕ)
    → InitCall plan reading before r after → answer_of r ≡ value n
    → (check_text reading sheet (value plan) ≡ ascii "as ordered\n") ↔ (take n after ≡ sheet)

-- Where both are accepted and differ, the sheet was read back to the plan p, and the bit of a setting is set, so that its name
-- and its two lines are there, exactly where the numbers of the two plans in it are not the same.
pub record Named (sheet : List ℕ) (reading : ℕ) (plan : ClockConfig) (mask : ℕ) (p q : ClockConfig) : Type 0 where
  pub read : read_of sheet reading ≡ value p
  pub asked : q ≡ plan
  pub bits : (k : ℕ) → k < 13
      → has_bit mask k
      ≡ not (same (get_or (parts_of (settings_of p reading)) k []) (get_or (parts_of (settings_of plan reading)) k []))

abbrev pub NamesThose : Type 0
NamesThose =
    (sheet : List ℕ) (reading : ℕ) (plan : ClockConfig) (mask : ℕ) (p q : ClockConfig)
    → verdict_of reading sheet (value plan) ≡ differs mask p q → Named sheet reading plan mask p q
