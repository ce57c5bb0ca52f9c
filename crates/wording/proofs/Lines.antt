-- The lines of k + 1 settings are those of k settings and one more, and from 13 on a setting has no line.
use Rattle.std.specs.Prelude.{◌≡◌, refl, [], ◌++◌, ℕ, ◌+◌, ◌≤◌}
use native.Mathlib.Numerals.{add-one}
use lib.ListN.{get_or-eq_default}
use Rattle.base.proofs.Writing.{writing}
use Rattle.config.specs.declared.ClockConfig.{ClockConfig}
use Rattle.settings.specs.declared.{Settings.Settings, Frequencies.Frequencies}
use Rattle.wording.specs.Words.{lines_of, line_of, setting_line, setting_lines}

pub lines_none : (p : ClockConfig) (reading : ℕ) → setting_lines p reading 0 ≡ []
unfolding setting_lines
lines_none p reading = refl

pub lines_next : (p : ClockConfig) (reading k : ℕ)
    → setting_lines p reading (k + 1) ≡ setting_lines p reading k ++ setting_line k p reading
unfolding setting_lines
lines_next p reading k = rw (add-one k)

-- what the loop over the settings rewrites by
pub ruleset settings = (writing, lines_none, lines_next)

-- there is no line past the last setting
pub line_past : (k : ℕ) (p : ClockConfig) (s : Settings) (f : Frequencies) → 13 ≤ k → line_of k p s f ≡ []
unfolding line_of
line_past k p s f out = get_or-eq_default (lines_of p s f) [] out
