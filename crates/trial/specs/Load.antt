-- The whole output of the program `load` for its input (docs/PROGRAMS.md, Program load).
use Rattle.std.specs.Prelude.{Bool, List, [], ◌∷◌, ◌++◌, ℕ, suc, ◌+◌, ltb, length, drop}
use Rattle.base.specs.{Answer.Answer, Answer.value, Answer.refusal, Choice.pick}
use Rattle.text.specs.{Decimal.number_of, Words.up_to, Reply.refused_line, Reply.row_text}
use Rattle.chip.specs.declared.Chip.TheVariants.{Rp2040}
use Rattle.config.specs.Presets.{crystal_plan}
use Rattle.sheet.specs.Writer.{sheet_bytes}
use Rattle.runner.specs.declared.Runner.{Runner}
use Rattle.bring_up.specs.Wait.{runner_after}
use Rattle.trial.specs.{Lcg.drawn, Lcg.top_bit, Targets.line, Targets.target_lines}

-- the runner trial: calls over the 12 MHz sheet of the crystal preset at reading 11; the ready flag of each is the
-- top bit of a draw
abbrev pub trial_sheet : List ℕ
trial_sheet = sheet_bytes (crystal_plan Rp2040 12000000) 11

abbrev pub flags : ℕ → ℕ → Bool
flags seed i = top_bit (drawn seed (suc i))

abbrev pub trial_runner : ℕ → ℕ → Runner
trial_runner seed count = runner_after trial_sheet (flags seed) count

-- position and total of unready polls
unfoldable pub runner_line : Runner → List ℕ
runner_line r = line (row_text r.stepper.state.position (r.stepper.state.total ∷ []))

-- each trial starts its draws at the seed
unfoldable pub trials : ℕ → ℕ → List ℕ
trials seed count = target_lines seed count ++ runner_line (trial_runner seed count)

abbrev pub most_count : ℕ
most_count = 10000

-- refusal 24 for text that is no number, then 31 for a count over 10000
abbrev pub load_with : Answer ℕ → Answer ℕ → List ℕ
load_with (refusal n) count = refused_line n
load_with (value seed) (refusal n) = refused_line n
load_with (value seed) (value count) = pick (ltb most_count count) (refused_line 31) (trials seed count)

-- the seed is the text up to the first space, the count the text after it up to the newline or the end
unfoldable pub load_of : List ℕ → List ℕ
load_of input =
    let seed = up_to 32 input in
    load_with (number_of seed) (number_of (up_to 10 (drop (length seed + 1) input)))
