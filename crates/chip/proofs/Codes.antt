-- The code of a voltage is read back as that voltage. Codes and brownout levels fit in 4 bits, and a number over 15 is no code.
use Rattle.std.specs.Prelude.{◌≡◌, refl, List, [], ◌∷◌, ℕ, ◌<◌}
use native.Mathlib.Omega.{arith}
use borrow.Author.Tests.{ne_eqb}
use Rattle.base.specs.Answer.{value, refusal}
use Rattle.chip.specs.Voltage.{VoltageOf, code_of, bod_of, voltages, with_code, core_voltage_of}
use Rattle.chip.specs.declared.Chip.{Chip, TheVariants.Rp2040, TheVariants.Rp235x}
use Rattle.chip.specs.declared.voltage.CoreVoltage.TheVariants as old
use Rattle.chip.specs.declared.voltage.CoreVoltage235.TheVariants as new

facts : (chip : Chip) (v : VoltageOf chip)
    → (core_voltage_of chip (code_of chip v) ≡ value v) × (code_of chip v < 16) × (bod_of chip v < 16)
facts Rp2040 old.V0_80 = (refl, omega arith, omega arith)
facts Rp2040 old.V0_85 = (refl, omega arith, omega arith)
facts Rp2040 old.V0_90 = (refl, omega arith, omega arith)
facts Rp2040 old.V0_95 = (refl, omega arith, omega arith)
facts Rp2040 old.V1_00 = (refl, omega arith, omega arith)
facts Rp2040 old.V1_05 = (refl, omega arith, omega arith)
facts Rp2040 old.V1_10 = (refl, omega arith, omega arith)
facts Rp2040 old.V1_15 = (refl, omega arith, omega arith)
facts Rp2040 old.V1_20 = (refl, omega arith, omega arith)
facts Rp2040 old.V1_25 = (refl, omega arith, omega arith)
facts Rp2040 old.V1_30 = (refl, omega arith, omega arith)
facts Rp235x new.V0_55 = (refl, omega arith, omega arith)
facts Rp235x new.V0_60 = (refl, omega arith, omega arith)
facts Rp235x new.V0_65 = (refl, omega arith, omega arith)
facts Rp235x new.V0_70 = (refl, omega arith, omega arith)
facts Rp235x new.V0_75 = (refl, omega arith, omega arith)
facts Rp235x new.V0_80 = (refl, omega arith, omega arith)
facts Rp235x new.V0_85 = (refl, omega arith, omega arith)
facts Rp235x new.V0_90 = (refl, omega arith, omega arith)
facts Rp235x new.V0_95 = (refl, omega arith, omega arith)
facts Rp235x new.V1_00 = (refl, omega arith, omega arith)
facts Rp235x new.V1_05 = (refl, omega arith, omega arith)
facts Rp235x new.V1_10 = (refl, omega arith, omega arith)
facts Rp235x new.V1_15 = (refl, omega arith, omega arith)
facts Rp235x new.V1_20 = (refl, omega arith, omega arith)
facts Rp235x new.V1_25 = (refl, omega arith, omega arith)
facts Rp235x new.V1_30 = (refl, omega arith, omega arith)

pub core-voltage-code : (chip : Chip) (v : VoltageOf chip) → core_voltage_of chip (code_of chip v) ≡ value v
core-voltage-code chip v = (facts chip v).0

pub code-small : (chip : Chip) (v : VoltageOf chip) → code_of chip v < 16
code-small chip v = (facts chip v).1

pub bod-small : (chip : Chip) (v : VoltageOf chip) → bod_of chip v < 16
bod-small chip v = (facts chip v).2

-- A number of more than 4 bits is a code of neither chip.
none-with : {A : Type 0} (code_of : A → ℕ) → ((v : A) → code_of v < 16) → (vs : List A) (code : ℕ) → 15 < code
    → with_code code_of code vs ≡ refusal 18
none-with code_of small [] code h = refl
none-with code_of small (v ∷ vs) code h =
    rw (ne_eqb code (code_of v) (λ e. omega (arith, small v))) (none-with code_of small vs code h)

pub no_code : (chip : Chip) (code : ℕ) → 15 < code → core_voltage_of chip code ≡ refusal 18
no_code chip = none-with (code_of chip) (code-small chip) (voltages chip)

-- The last arm of a `match` on a code gives one inequality for each voltage; they make `with_code` refuse.
module _ {A : Type 0} (code_of : A → ℕ) (code : ℕ) where
  abbrev pub NoneOf : Type 0 → List A → Type 0
  NoneOf known [] = known
  NoneOf known (v ∷ vs) = NoneOf (known × (code ≡ code_of v → ⊥)) vs

  known_of : (known : Type 0) (vs : List A) → NoneOf known vs → known
  known_of known [] h = h
  known_of known (v ∷ vs) h = (known_of (known × (code ≡ code_of v → ⊥)) vs h).0

  not-among : (known : Type 0) (vs : List A) → NoneOf known vs → refusal 18 ≡ with_code code_of code vs
  not-among known [] h = refl
  not-among known (v ∷ vs) h =
      let known = known × (code ≡ code_of v → ⊥) in
      rw (ne_eqb code (code_of v) (known_of known vs h).1) (not-among known vs h)

  pub none_read : (vs : List A) → NoneOf (Unit {0}) vs → refusal 18 ≡ with_code code_of code vs
  none_read vs h = not-among (Unit {0}) vs h
