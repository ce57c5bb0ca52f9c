-- The register access of a step as numbers: the answer is the code of the access, and the call writes address, mask and value.
use Rattle.std.specs.Prelude.{List, [], ◌∷◌, ℕ, Option, option_map}
use Rattle.chip.specs.declared.Chip.{Chip}
use Rattle.registers.specs.declared.Access.{Access}
use Rattle.registers.specs.Access.{access_at, op_of, address_of, mask_of, value_of}
use Rattle.numbers.specs.Answers.{Writes}

-- the three numbers of an access, in the place of the old ones
abbrev pub put_access : Access → List ℕ → List ℕ
put_access a before = address_of a ∷ mask_of a ∷ value_of a ∷ []

-- the call's contract: its answer r, and the three numbers after it
abbrev pub AccessCall : Option Chip → List ℕ → ℕ → List ℕ → ℕ → List ℕ → Type 0
AccessCall chip sheet position = Writes op_of put_access (option_map (λ on. access_at on sheet position) chip)
