-- The registers after the steps of a sheet are carried out. A register file gives each address its value.
use Rattle.std.specs.Prelude.{Bool, ◌&&◌, ◌||◌, List, [], ◌∷◌, ℕ, ◌+◌, ◌-◌, ◌/◌, ◌%◌, ◌^◌, eqb}
use lib.Bits.{bit_and}
use Rattle.base.specs.{Choice.pick, Answer.Answer, Answer.value, Answer.refusal}
use Rattle.chip.specs.declared.Chip.{Chip}
use Rattle.step.specs.declared.Step.{Step}
use Rattle.registers.specs.Access.{access_of, op_of, address_of, mask_of, value_of}
use Rattle.registers.specs.{declared.Access.Access, Map.on, Map.RESET, Map.PLL_PWR}

-- the value of a field of a register: its lowest bit, its width, the register's value
abbrev pub bits_at : ℕ → ℕ → ℕ → ℕ
bits_at low width v = v / 2 ^ low % 2 ^ width

-- whether an access changes the register at an address: op 1 writes all of it, op 2 the bits in the mask
abbrev pub writes : Access → ℕ → Bool
writes a address = (eqb (op_of a) 1 || eqb (op_of a) 2) && eqb (address_of a) address

-- the value of the register after such an access
abbrev pub written : Access → ℕ → ℕ
written a before = pick (eqb (op_of a) 1) (value_of a) (before - bit_and before (mask_of a) + (value_of a))

-- whether RESET, by its value, holds a PLL in reset: bits 12 and 13 of the RP2040, 14 and 15 of the RP235x
abbrev pub held : Chip → ℕ → ℕ → Bool
held c w reset = eqb (bits_at (on c 12 14 + w) 1 reset) 1

-- a reset powers a PLL down: 0x2D is the reset value of PWR; no clock depends on its other registers then
abbrev pub powers_down : Chip → ℕ → ℕ → Bool
powers_down c address reset =
    (eqb (PLL_PWR c 0) address && held c 0 reset) || (eqb (PLL_PWR c 1) address && held c 1 reset)

-- the file after an access
abbrev pub done : Chip → Answer Access → (ℕ → ℕ) → (ℕ → ℕ)
done c (value a) file = λ address.
    pick (writes a (RESET c) && powers_down c address (written a (file (RESET c)))) 0x2D
    (pick (writes a address) (written a (file address)) (file address))
done c (refusal n) file = file

-- the file after all steps
abbrev pub carried_out : Chip → List Step → (ℕ → ℕ) → (ℕ → ℕ)
carried_out c [] file = file
carried_out c (s ∷ ss) file = carried_out c ss (done c (access_of c s) file)
