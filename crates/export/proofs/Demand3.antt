-- Demand 3 holds of the exported calls by their contracts alone: a number below the refusals is a length, so the call is a call
-- of `init`, of which demand 3 holds.
use Rattle.std.specs.Prelude.{Option, Some, None, ◌≡◌, ◌↔◌, List, ℕ, ◌<◌, Ok, option_map, refl}
use mathlib.Core.Path.{ap}
use native.Mathlib.Omega.{arith}
use Rattle.base.specs.Answer.{Answer, value, refusal}
use Rattle.config.specs.{declared.ClockConfig.ClockConfig, Presets.system_plan, Presets.system_plan_from}
use Rattle.settings.specs.Settings.{settings_of}
use Rattle.sheet.specs.{Writer.init_answer, Writer.InitCall, Demand3.SameUpTo}
use Rattle.sheet.proofs.Demand3.{demand-3}
use Rattle.numbers.specs.Answers.{answer_number, itself, refusals, chip_numbered}
use Rattle.export.specs.Sheet.{plan_given, SheetCall, preset_on, plan_on}
use Rattle.export.specs.Demand3.{Sheets, PlanSheets, SystemSheets, SystemSheetsFrom}

-- a call that answers a length is a call of `init`
record Wrote (plan : Option ClockConfig) (reading : ℕ) (before : List ℕ) (r : ℕ) (after : List ℕ) : Type 0 where
  pub config : ClockConfig
  pub is : plan ≡ Some config
  pub call : InitCall config reading before (Ok r) after

length-of : (a : Answer ℕ) (r : ℕ) → r ≡ answer_number itself a → r < refusals → value r ≡ a
length-of (value n) r e low = ap value e
length-of (refusal n) r e low = absurd (omega arith)

wrote : (plan : Option (Answer ClockConfig)) {reading r : ℕ} {before after : List ℕ}
    → SheetCall plan reading before r after → r < refusals → Wrote (plan_given plan) reading before r after
wrote (Some (value plan)) {reading} {r} {before} c low =
    record {
      config = plan;
      is = refl;
      call =
          record {
            answer = length-of (init_answer plan reading before) r c.answer low;
            bytes = c.bytes;
            typed = c.typed;
          };
    }
wrote (Some (refusal n)) c low = absurd (omega (arith, c.answer))
wrote None c low = absurd (omega (arith, c.answer))

both : (p q : Option ClockConfig) (reading : ℕ) (b b' c c' : List ℕ) (r s : ℕ)
    → Wrote p reading b r b' → Wrote q reading c s c'
    → ((r ≡ s) × SameUpTo r b' c')
    ↔ (option_map (λ p. settings_of p reading) p ≡ option_map (λ q. settings_of q reading) q)
both p q reading b b' c c' r s first second =
    let x = first.config in
    let y = second.config in
    let same = demand-3 x y reading b b' c c' (Ok r) (Ok s) r s first.call refl second.call refl in
    rw (first.is, second.is) (
      (λ e. ap Some (same.0 e)),
      (λ e. same.1 (let inner : settings_of x reading ≡ settings_of y reading = cc in inner)),
    )

pub sheets : (p q : Option (Answer ClockConfig)) → Sheets p q
sheets p q reading b b' c c' r s call low call' low' =
    both (plan_given p) (plan_given q) reading b b' c c' r s (wrote p call low) (wrote q call' low')

pub plan-sheets : PlanSheets
plan-sheets on on' ns ms = sheets (plan_on ns (chip_numbered on)) (plan_on ms (chip_numbered on'))

pub system-sheets : SystemSheets
system-sheets on on' hz hz' =
    sheets (preset_on (λ chip. system_plan chip hz) (chip_numbered on)) (preset_on (λ chip. system_plan chip hz') (chip_numbered on'))

pub system-sheets-from : SystemSheetsFrom
system-sheets-from on on' from hz from' hz' =
    sheets (preset_on (λ chip. system_plan_from chip from hz) (chip_numbered on))
    (preset_on (λ chip. system_plan_from chip from' hz') (chip_numbered on'))
