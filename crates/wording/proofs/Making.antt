-- A call of `init` with the ordered plan is a call of `make` with its order; a refused order, or none, changes nothing.
use Rattle.std.specs.Prelude.{Some, None, Result, ◌≡◌, List, ℕ, Ok, Err, refl}
use Rattle.base.specs.{declared.refusal.Refusal.Refusal, Answer.value, Answer.refusal, Answer.answer_of, Refusals.number_of}
use mathlib.Core.Path.{sym, ap, ◌∙◌}
use Rattle.config.specs.declared.ClockConfig.{ClockConfig}
use Rattle.sheet.specs.Writer.{InitCall}
use Rattle.wording.specs.Made.{MadeCall}

module _ {p : ClockConfig} {reading : ℕ} {before after : List ℕ} {r : (Result ℕ Refusal)} (call : InitCall p reading before r after) where
  pub made-length : {n : ℕ} → r ≡ Ok n → MadeCall (Some (value p)) reading before (Some (Ok n)) after
  made-length e = record {
    answer = ap Some (ap answer_of (sym e) ∙ call.answer);
    bytes = call.bytes;
    typed = call.typed;
  }

  pub made-refused : {why : Refusal} → r ≡ Err why → MadeCall (Some (value p)) reading before (Some (Err why)) after
  made-refused e = record {
    answer = ap Some (ap answer_of (sym e) ∙ call.answer);
    bytes = call.bytes;
    typed = call.typed;
  }

module _ {reading : ℕ} {before : List ℕ} where
  pub order-refused : {why : Refusal} → MadeCall (Some (refusal (number_of why))) reading before (Some (Err why)) before
  order-refused = record { answer = refl; bytes = refl; typed = tt }

  pub order-bad : MadeCall None reading before None before
  order-bad = record { answer = refl; bytes = refl; typed = tt }
