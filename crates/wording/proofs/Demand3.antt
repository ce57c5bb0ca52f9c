-- Demand 3 holds for `make`, from its contract alone: a call that answered a length is a call of `init`, for which it holds.
use Rattle.std.specs.Prelude.{Option, Some, None, ◌≡◌, ◌↔◌, List, ℕ, Ok, Result, refl}
use mathlib.Core.Path.{sym, ap, ◌∙◌}
use native.Mathlib.Omega.{arith}
use Rattle.base.specs.{Answer.Answer, Answer.value, Answer.refusal, Answer.answer_in, declared.refusal.Refusal.Refusal}
use Rattle.config.specs.declared.ClockConfig.{ClockConfig}
use Rattle.settings.specs.Settings.{settings_of}
use Rattle.sheet.specs.{Writer.init_answer, Writer.InitCall, Demand3.SameUpTo}
use Rattle.sheet.proofs.Demand3.{demand-3}
use Rattle.wording.specs.{Made.MadeCall, Made.order_made, Made.reading_made, Demand3.MakeSheets}
use Rattle.export.specs.Demand3.{settings_in}

record Wrote (order : Option (Answer ClockConfig)) (reading : ℕ) (before : List ℕ) (n : ℕ) (after : List ℕ) : Type 0 where
  pub config : ClockConfig
  pub is : order ≡ Some (value config)
  pub call : InitCall config reading before (Ok n) after

wrote : (order : Option (Answer ClockConfig)) {reading n : ℕ} {before after : List ℕ} {r : Option (Result ℕ Refusal)}
    → MadeCall order reading before r after → answer_in r ≡ Some (value n) → Wrote order reading before n after
wrote (Some (value plan)) {reading} {n} {before} c e =
    let same : Some (value n) ≡ Some (init_answer plan reading before) = sym e ∙ c.answer in
    let answer : value n ≡ init_answer plan reading before = cc in
    record { config = plan; is = refl; call = record { answer = answer; bytes = c.bytes; typed = c.typed } }
wrote (Some (refusal m)) {n = n} c e =
    let same : ◌≡◌ {A = Option (Answer ℕ)} (Some (value n)) (Some (refusal m)) = sym e ∙ c.answer in
    let z : ◌≡◌ {A = ℕ} 0 1 = cc in absurd (omega arith)
wrote None {n = n} c e =
    let same : ◌≡◌ {A = Option (Answer ℕ)} (Some (value n)) None = sym e ∙ c.answer in
    let z : ◌≡◌ {A = ℕ} 0 1 = cc in absurd (omega arith)

both : (p q : Option (Answer ClockConfig)) (reading reading' : ℕ) (b b' c c' : List ℕ) (m n : ℕ) → reading ≡ reading'
    → Wrote p reading b m b' → Wrote q reading' c n c'
    → ((m ≡ n) × SameUpTo m b' c') ↔ (settings_in p reading ≡ settings_in q reading')
both p q reading reading' b b' c c' m n same first second =
    let f : Wrote p reading' b m b' = rw same at first in
    let x = f.config in
    let y = second.config in
    let sheets = demand-3 x y reading' b b' c c' (Ok m) (Ok n) m n f.call refl second.call refl in
    rw (same, f.is, second.is) (
      (λ e. ap Some (sheets.0 e)),
      (λ e. sheets.1 (let inner : settings_of x reading' ≡ settings_of y reading' = cc in inner)),
    )

pub make-sheets : MakeSheets
make-sheets line line' b b' c c' r s m n same call e call' e' =
    both (order_made line) (order_made line') (reading_made line) (reading_made line') b b' c c' m n same
    (wrote (order_made line) call e) (wrote (order_made line') call' e')
