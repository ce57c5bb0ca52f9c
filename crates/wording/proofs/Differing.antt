-- Two plans have the same settings, and so the same sheet, exactly when no bit is set; each bit says whether its part differs.
use Rattle.std.specs.Prelude.{◌≡◌, refl, not, ◌↔◌, [], ◌++◌, ℕ, ◌+◌, ◌<◌, get_or}
use mathlib.Core.Path.{sym, ap, ◌∙◌}
use native.Mathlib.{Numerals.add-one, Omega.arith}
use Rattle.base.proofs.Writing.{writing}
use Rattle.config.specs.declared.ClockConfig.{ClockConfig}
use Rattle.settings.specs.{declared.Settings.Settings, Settings.settings_of}
use Rattle.sheet.proofs.Demand3.{demand-3}
use Rattle.text.specs.Ascii.{same}
use Rattle.wording.specs.Parts.{parts_of}
use Rattle.wording.specs.Differences.{differences_of, has_bit, part_line, part_lines, NoneDiffers}
use Rattle.wording.proofs.{Agree.mask-none, Agree.mask-same, Agree.mask-bit, Decode.settings_at, Decode.settings-back}

pub none-differs : (p q : ClockConfig) (reading reading' : ℕ)
    → (differences_of (settings_of p reading) (settings_of q reading') ≡ 0) ↔ (settings_of p reading ≡ settings_of q reading')
unfolding differences_of
none-differs p q reading reading' = (
  (λ e.
      sym (settings-back p reading)
      ∙ ap settings_at (mask-none (parts_of (settings_of p reading)) (parts_of (settings_of q reading')) refl e)
      ∙ settings-back q reading'),
  λ e.
      ap (λ (s : Settings). differences_of s (settings_of q reading')) e
      ∙ mask-same (parts_of (settings_of q reading')),
)

pub same-sheet : NoneDiffers
same-sheet p q reading b b' c c' r s m n op er oq es =
    let sheets = demand-3 p q reading b b' c c' r s m n op er oq es in
    let none = none-differs p q reading reading in
    ((λ e. none.1 (sheets.0 e)), λ e. sheets.1 (none.0 e))

-- bit k is set exactly where the numbers of part k are not the same
pub part-differs : (a b : Settings) (k : ℕ) → k < 13
    → has_bit (differences_of a b) k ≡ not (same (get_or (parts_of a) k []) (get_or (parts_of b) k []))
unfolding differences_of
part-differs a b k h = mask-bit (parts_of a) (parts_of b) k (omega arith) (omega arith)

pub lines_next : (mask k : ℕ) → part_lines mask (k + 1) ≡ part_lines mask k ++ part_line mask k
lines_next mask k = rw (add-one k)

-- what a loop over the parts rewrites by
pub ruleset lines = (writing, lines_next)
