-- The core voltages of both chips with their register codes, brownout levels and default settling times, and the voltage of a
-- reading (docs/FORMAT.md, Voltages).
use Rattle.std.specs.Prelude.{ℕ, List, [], ◌∷◌, eqb}
use Rattle.base.specs.{Choice.pick, Answer.Answer, Answer.value, Answer.refusal}
use Rattle.chip.specs.declared.{Chip.Chip, Chip.TheVariants.Rp2040, Chip.TheVariants.Rp235x}
use Rattle.chip.specs.declared.voltage.{Volts.Volts, CoreVoltage.CoreVoltage, CoreVoltage235.CoreVoltage235}
use Rattle.chip.specs.declared.voltage.CoreVoltage.TheVariants as old
use Rattle.chip.specs.declared.voltage.CoreVoltage235.TheVariants as new

-- The type of the chip's voltages.
abbrev pub VoltageOf : Chip → Type 0
VoltageOf Rp2040 = CoreVoltage
VoltageOf Rp235x = CoreVoltage235

abbrev pub row : ℕ → ℕ → ℕ → Volts
row a b c = record { code = a; brownout = b; settling_us = c }

-- The voltage code, the brownout level of the Rust's `recommended_bod`, and the settling time in µs where the plan gives none.
abbrev pub volts_of : (chip : Chip) → VoltageOf chip → Volts
volts_of Rp2040 old.V0_80 = row 0 4 0
volts_of Rp2040 old.V0_85 = row 6 5 0
volts_of Rp2040 old.V0_90 = row 7 6 0
volts_of Rp2040 old.V0_95 = row 8 7 0
volts_of Rp2040 old.V1_00 = row 9 8 0
volts_of Rp2040 old.V1_05 = row 10 8 0
volts_of Rp2040 old.V1_10 = row 11 9 0
volts_of Rp2040 old.V1_15 = row 12 10 1000
volts_of Rp2040 old.V1_20 = row 13 11 2000
volts_of Rp2040 old.V1_25 = row 14 12 2000
volts_of Rp2040 old.V1_30 = row 15 13 2000
volts_of Rp235x new.V0_55 = row 0 1 0
volts_of Rp235x new.V0_60 = row 1 2 0
volts_of Rp235x new.V0_65 = row 2 3 0
volts_of Rp235x new.V0_70 = row 3 3 0
volts_of Rp235x new.V0_75 = row 4 4 0
volts_of Rp235x new.V0_80 = row 5 5 0
volts_of Rp235x new.V0_85 = row 6 6 0
volts_of Rp235x new.V0_90 = row 7 6 0
volts_of Rp235x new.V0_95 = row 8 7 0
volts_of Rp235x new.V1_00 = row 9 8 0
volts_of Rp235x new.V1_05 = row 10 8 0
volts_of Rp235x new.V1_10 = row 11 9 0
volts_of Rp235x new.V1_15 = row 12 9 1000
volts_of Rp235x new.V1_20 = row 13 10 2000
volts_of Rp235x new.V1_25 = row 14 10 2000
volts_of Rp235x new.V1_30 = row 15 11 2000

abbrev pub code_of : (chip : Chip) → VoltageOf chip → ℕ
code_of chip v = (volts_of chip v).code

abbrev pub bod_of : (chip : Chip) → VoltageOf chip → ℕ
bod_of chip v = (volts_of chip v).brownout

abbrev pub settling_of : (chip : Chip) → VoltageOf chip → ℕ
settling_of chip v = (volts_of chip v).settling_us

-- The voltages of a chip, each once.
abbrev pub voltages : (chip : Chip) → List (VoltageOf chip)
voltages Rp2040 =
    old.V0_80 ∷ old.V0_85 ∷ old.V0_90 ∷ old.V0_95 ∷ old.V1_00 ∷ old.V1_05 ∷ old.V1_10 ∷ old.V1_15
    ∷ old.V1_20 ∷ old.V1_25 ∷ old.V1_30 ∷ []
voltages Rp235x =
    new.V0_55 ∷ new.V0_60 ∷ new.V0_65 ∷ new.V0_70 ∷ new.V0_75 ∷ new.V0_80 ∷ new.V0_85 ∷ new.V0_90
    ∷ new.V0_95 ∷ new.V1_00 ∷ new.V1_05 ∷ new.V1_10 ∷ new.V1_15 ∷ new.V1_20 ∷ new.V1_25 ∷ new.V1_30 ∷ []

-- The voltage with this code; 18 where no voltage has it.
abbrev pub with_code : {A : Type 0} → (A → ℕ) → ℕ → List A → Answer A
with_code code_of code [] = refusal 18
with_code code_of code (v ∷ others) = pick (eqb code (code_of v)) (value v) (with_code code_of code others)

-- The voltage of a reading: 0 and 6 to 15 are codes of the RP2040, 0 to 15 of the RP235x.
abbrev pub core_voltage_of : (chip : Chip) → ℕ → Answer (VoltageOf chip)
core_voltage_of chip reading = with_code (code_of chip) reading (voltages chip)
