-- What a step does to which register, in words: one form for each way to use a register (registers/specs/Access).
use Rattle.std.specs.Prelude.{List, [], ◌∷◌, ◌++◌, eqb, ℕ, ◌/◌, ◌%◌}
use Rattle.base.specs.Choice.{pick}
use Rattle.chip.specs.declared.Chip.{Chip}
use Rattle.text.specs.{Ascii.ascii, Decimal.decimal_of, Hex.hex_of}
use Rattle.registers.specs.{declared.Access.Access, Access.op_of, Access.address_of, Access.mask_of, Access.value_of}
use Rattle.wording.specs.StepNames.{name_of}

-- a number of 32 bits as eight hexadecimal digits
unfoldable pub word_text : ℕ → List ℕ
word_text n = hex_of (n / 16777216 % 256 ∷ n / 65536 % 256 ∷ n / 256 % 256 ∷ n % 256 ∷ [])

-- a register by its name and its address
unfoldable pub register_text : Chip → ℕ → List ℕ
register_text c address = name_of c address ++ (ascii " 0x" ++ word_text address)

abbrev pub write_text : Chip → Access → List ℕ
write_text c a = (ascii "write " ++ register_text c (address_of a)) ++ (ascii " = 0x" ++ word_text (value_of a))

abbrev pub change_text : Chip → Access → List ℕ
change_text c a =
    (ascii "change " ++ register_text c (address_of a))
    ++ (ascii " bits 0x" ++ word_text (mask_of a))
    ++ (ascii " to 0x" ++ word_text (value_of a))

abbrev pub wait_text : Chip → Access → List ℕ
wait_text c a =
    (ascii "wait until " ++ register_text c (address_of a))
    ++ (ascii " bits 0x" ++ word_text (mask_of a))
    ++ (ascii " are 0x" ++ word_text (value_of a))

abbrev pub pause_text : Access → List ℕ
pause_text a = ascii "let " ++ decimal_of (value_of a) ++ ascii " cycles pass"

-- a store and the chip mark use no register
unfoldable pub does_text : Chip → Access → List ℕ
does_text c a =
    pick (eqb (op_of a) 1) (write_text c a)
    (pick (eqb (op_of a) 2) (change_text c a)
    (pick (eqb (op_of a) 3) (wait_text c a) (pick (eqb (op_of a) 4) (pause_text a) (ascii "no register"))))
