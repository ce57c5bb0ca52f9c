-- What a caller of `init` learns who takes the bytes up to the length as the sheet: they are the sheet of an accepted plan; and
-- where there is room for the sheet, a refusal is the plan's own.
use Rattle.std.specs.Prelude.{Option, Some, None, Result, Ok, Err, ◌≡◌, refl, List, ℕ, ◌≤◌, length, take, drop}
use Rattle.base.specs.{declared.refusal.Refusal.Refusal, Refusals.number_of, Answer.refusal, Answer.answer_of}
use mathlib.Core.Path.{sym, ap, ◌∙◌}
use native.Mathlib.Omega.{arith}
use lib.{ListN.length-append, Seq.take_at}
use Rattle.config.specs.declared.ClockConfig.{ClockConfig}
use Rattle.refusals.specs.Refusals.{Accepted}
use Rattle.sheet.specs.Writer.{sheet_bytes, refusal_in, InitCall}
use Rattle.sheet.proofs.{Ends.refused-answer, Demand3.answers, Demand3.answered}

-- The first n bytes of the buffer are the sheet of an accepted plan.
pub record Kept (p : ClockConfig) (reading : ℕ) (n : ℕ) (after : List ℕ) : Type 0 where
  pub accepted : Accepted p reading
  pub inside : n ≤ length after
  pub whole : n ≡ length (take n after)
  pub bytes : take n after ≡ sheet_bytes p reading

pub kept : {p : ClockConfig} {reading : ℕ} {b b' : List ℕ} {r : Result ℕ Refusal} → InitCall p reading b r b'
    → (n : ℕ) → r ≡ Ok n → Kept p reading n b'
kept {p} {reading} {b} {b'} {r} o n e =
    let a = answered p reading b b' r o n (ap answer_of e) in
    let sheet : List ℕ = sheet_bytes p reading in
    let front : take n b' ≡ sheet = rw a.bytes (take_at sheet (drop n b) n (sym a.count)) in
    record {
      accepted = a.ok;
      inside = rw a.bytes (omega (arith, length-append sheet (drop n b), a.count));
      whole = a.count ∙ ap length (sym front);
      bytes = front;
    }

-- A plan is refused, with this number.
pub record Own (p : ClockConfig) (reading : ℕ) (why : Refusal) : Type 0 where
  pub reason : Refusal
  pub is : refusal_in p reading ≡ Some reason
  pub number : number_of why ≡ number_of reason

module _ {p : ClockConfig} {reading : ℕ} {b b' : List ℕ} {r : Result ℕ Refusal} (o : InitCall p reading b r b')
    (room : length (sheet_bytes p reading) ≤ length b) (why : Refusal) (e : r ≡ Err why) where
  -- An accepted plan is not refused.
  pub turned-back : Accepted p reading → ⊥
  turned-back ok = let a = answers p reading b b' r o ok room in absurd cc

  pub own-refusal : Own p reading why
  own-refusal = go (refusal_in p reading) refl
    where
      go : (found : Option Refusal) → refusal_in p reading ≡ found → Own p reading why
      go None h = absurd (turned-back h)
      go (Some reason) h =
          let same : refusal (number_of why) ≡ refusal (number_of reason) =
          sym (ap answer_of e) ∙ o.answer ∙ refused-answer p reading b o.typed h in
          record { reason = reason; is = h; number = cc }
