-- The steps of a sheet's bytes, one for each eight bytes, and the readers that take them.
use Rattle.std.specs.Prelude.{List, [], ◌∷◌, ℕ, zero, suc, ◌+◌, ◌-◌, ◌*◌, ◌/◌, ◌≡◌, Option, Some, None, Result, length, take, ltb}
use Rattle.std.specs.Iterator.{Count, at_most}
use Rattle.base.specs.{Answer.Answer, Answer.value, Answer.refusal, Answer.answer_in, Choice.pick, declared.refusal.Refusal.Refusal}
use Rattle.step.specs.{declared.Step.Step, Access.read_at, Sheet.max_steps}
use Rattle.sheet.specs.{Steps.step0, Read.step_at}
use Rattle.readback.specs.declared.Reader.{Reader}
use Rattle.step.specs.declared.kind.Kind.TheVariants as kind

-- The step of an answer; a refusal gives a step of kind 0, which no sheet has.
abbrev pub step_or : Answer Step → Step
step_or (value s) = s
step_or (refusal n) = step0 (kind.Unknown 0)

-- The n steps from step i.
abbrev pub steps_from : List ℕ → ℕ → ℕ → List Step
steps_from sheet i zero = []
steps_from sheet i (suc n) = step_or (read_at sheet (8 * i)) ∷ steps_from sheet (suc i) n

-- All steps of a sheet; bytes after the last full eight do not count.
unfoldable pub steps_in : List ℕ → List Step
steps_in sheet = steps_from sheet 0 (length sheet / 8)

-- What is at a position, counted in steps: the answer of reading the step there; nothing at the end.
abbrev pub taken_at : List ℕ → ℕ → Option (Answer Step)
taken_at sheet at = pick (ltb at (length sheet / 8)) (Some (read_at sheet (8 * at))) None

-- The step of such an answer; at the end too it is a step of kind 0.
abbrev pub step_in : Option (Answer Step) → Step
step_in (Some a) = step_or a
step_in None = step0 (kind.Unknown 0)

-- The next step of a reader, and the reader after it; at the end the step has kind 0, and the reader stays.
abbrev pub next_step : Reader → Step
next_step r = step_at (steps_in r.sheet.now) r.at

abbrev pub moved : Reader → Reader
moved r = record { sheet = r.sheet; at = pick (ltb r.at (length r.sheet.now / 8)) (r.at + 1) r.at }

-- A call of `next` gives what is at the reader's position, whose step is the reader's next, and moves the reader on.
pub record MovesOn (r : Reader) (given : Option (Result Step Refusal)) (after : Reader) : Type 0 where
  pub given_is : answer_in given ≡ taken_at r.sheet.now r.at
  pub step_is : step_in (answer_in given) ≡ next_step r
  pub after_is : after ≡ moved r

-- The number of steps that are left for a reader.
abbrev pub left_in : Reader → Count
left_in r = at_most (length r.sheet.now / 8 - r.at)

-- The steps that n calls of `next` give, one after another.
unfoldable pub nexts : ℕ → Reader → List Step
nexts zero r = []
nexts (suc n) r = next_step r ∷ nexts n (moved r)

-- The steps that are read: at most 66.
unfoldable pub steps_read : List ℕ → List Step
steps_read sheet = take max_steps (steps_in sheet)
