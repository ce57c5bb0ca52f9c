-- The answers of a call: a value, or a refusal by its number in docs/FORMAT.md, Refusals.
use Rattle.std.specs.Prelude.{ℕ, Option, Some, None, Result, Ok, Err}
use Rattle.base.specs.{declared.refusal.Refusal.Refusal, Refusals.number_of}

pub data Answer (A : Type 0) : Type 0 where
  value : A → Answer A
  refusal : ℕ → Answer A

-- the answer that a result of the code means
abbrev pub answer_of : {A : Type 0} → Result A Refusal → Answer A
answer_of (Ok x) = value x
answer_of (Err why) = refusal (number_of why)

-- the same where there may be no result
abbrev pub answer_in : {A : Type 0} → Option (Result A Refusal) → Option (Answer A)
answer_in (Some r) = Some (answer_of r)
answer_in None = None
