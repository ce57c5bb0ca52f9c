-- The ranges by which a caller distinguishes the kinds of exported answers, as bindings/c/dizbaral.h lists them.
use Rattle.std.specs.Prelude.{ℕ, ◌^◌, ◌≤◌, ◌<◌}
use Rattle.base.specs.Answer.{refusal}
use Rattle.pll.specs.declared.PllConfig.{PllConfig}
use Rattle.step.specs.Steps.{WellFormed}
use Rattle.runner.specs.declared.Reply.{Reply, TheVariants.Done, TheVariants.Handed, TheVariants.Passed, TheVariants.Waiting}
use Rattle.numbers.specs.Answers.{refusals, malformed, itself, answer_number, setting_number, level_number}
use Rattle.numbers.specs.Run.{progress_number}

-- an answer that hands out no step has a number below 2 ^ 48; a well-formed step has one from 2 ^ 58 on
abbrev pub ProgressRange : Reply → Type 0
ProgressRange Done = progress_number Done < refusals
ProgressRange Passed = progress_number Passed < refusals
ProgressRange Waiting = progress_number Waiting < refusals
ProgressRange (Handed s) = WellFormed s → (2 ^ 58 ≤ progress_number (Handed s)) × (progress_number (Handed s) < 2 ^ 64)

pub record Ranges : Type 1 where
  -- values are below 2 ^ 48: a setting whose dividers fit their types, a voltage whose code and level fit 5 bits,
  -- a number of 32 bits
  pub settings : (c : PllConfig) → c.refdiv < 256 → c.fbdiv < 65536 → c.post_div1 < 256 → c.post_div2 < 256
      → setting_number c < refusals
  pub voltages : (code brownout : ℕ) → code < 32 → brownout < 32 → level_number code brownout < refusals
  pub numbers : (n : ℕ) → n < 2 ^ 32 → itself n < refusals
  -- a refusal of 8 bits is from 2 ^ 48 on and below 2 ^ 49, which is the answer to malformed numbers
  pub refused : {A : Type 0} (f : A → ℕ) (n : ℕ) → n < 256
      → (refusals ≤ answer_number f (refusal n)) × (answer_number f (refusal n) < malformed)
  pub malformed_below : malformed < 2 ^ 58
  pub progress : (p : Reply) → ProgressRange p
