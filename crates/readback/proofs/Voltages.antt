-- A number over 255 is not a voltage code, and neither is 255, so clamping to 255 does not change the decoded voltage.
use Rattle.std.specs.Prelude.{◌≡◌, refl, ℕ, min, ltb, Result, Ok, Err}
use mathlib.Core.Path.{sym, ◌∙◌}
use native.Mathlib.Omega.{arith}
use borrow.Author.Tests.{ltb-true, ltb-false}
use Rattle.chip.specs.{declared.Chip.Chip, Voltage.VoltageOf, Voltage.core_voltage_of}
use Rattle.std.specs.Result.{result_unwrap_or}
use Rattle.base.specs.{declared.refusal.Refusal.Refusal, Answer.answer_of}
use Rattle.base.proofs.Bools.{either_way}
use Rattle.config.specs.Codes.{value_or}
use Rattle.chip.proofs.Codes.{no_code}

pub least-code : (chip : Chip) (code : ℕ) → core_voltage_of chip (min code 255) ≡ core_voltage_of chip code
least-code chip code =
    either_way (ltb 255 code)
    (λ e. let over = ltb-true 255 code e in no_code chip (min code 255) (omega arith) ∙ sym (no_code chip code (omega arith)))
    (λ e. let same : min code 255 ≡ code = omega (arith, ltb-false 255 code e) in rw same)

-- A result whose answer is the voltage of the code clamped to 255 has the voltage of the code, and both have the same other one.
pub decodes : (chip : Chip) (code : ℕ) (other : VoltageOf chip) (r : Result (VoltageOf chip) Refusal)
    → answer_of r ≡ core_voltage_of chip (min code 255) → value_or other (core_voltage_of chip code) ≡ result_unwrap_or r other
decodes chip code other r e = rw (← least-code chip code, ← e) (same r)
  where
    same : (r : Result (VoltageOf chip) Refusal) → value_or other (answer_of r) ≡ result_unwrap_or r other
    same (Ok v) = refl
    same (Err why) = refl
