-- The fixed texts: help, and the usage of each command.
use Rattle.std.specs.Prelude.{List, [], ◌∷◌, eqb, ℕ}
use Prim.Native.String.{String}
use Rattle.base.specs.Choice.{pick}
use Rattle.text.specs.Ascii.{ascii}
use Rattle.wording.specs.{Rows.lines_of, declared.commands.texts.Usage.Usage}

-- the commands and the forms of an order, on one screen
abbrev pub help_lines : List String
help_lines =
    "Clock sheets of the RP2040 and the RP235x."
    ∷ ""
    ∷ "dizbaral check READING SHEET ORDER    is this sheet the one that was ordered?"
    ∷ "    dizbaral check 11 @board.sheet system 125000000"
    ∷ "dizbaral explain READING SHEET        a sheet in words"
    ∷ "    dizbaral explain 11 @board.sheet"
    ∷ "dizbaral steps SHEET                  what each step does to which register"
    ∷ "    dizbaral steps @board.sheet"
    ∷ "dizbaral make FILE READING ORDER      writes the sheet of an order to a file"
    ∷ "    dizbaral make board.sheet 11 rp235x system 150000000"
    ∷ "dizbaral CASE                         one case of docs/CASES.md"
    ∷ "    dizbaral search 12000000 133000001"
    ∷ "dizbaral help                         this text"
    ∷ ""
    ∷ "READING is the voltage code of the regulator as the sheet begins, 11 at 1.10 V."
    ∷ "SHEET is @FILE, or its bytes in hex."
    ∷ "ORDER is one of these, with rp235x before it for that chip, or a SHEET:"
    ∷ "    system HZ"
    ∷ "    system_from CRYSTAL HZ"
    ∷ "    crystal HZ"
    ∷ "    rosc"
    ∷ "    default"
    ∷ "    manual HZ REFDIV FBDIV POST1 POST2 CODE    of the RP2040 alone"
    ∷ "    plan NUMBERS                               48, of the RP235x 43"
    ∷ []

unfoldable pub help_text : List ℕ
help_text = lines_of help_lines

-- the answer to words that a command or a case does not take, with those that it takes
abbrev pub usage_text : Usage → List ℕ
usage_text Usage.Case = ascii "bad case\ndocs/CASES.md has the words that each case takes\n"
usage_text Usage.Explain = ascii "bad case\nexplain takes READING SHEET: see dizbaral help\n"
usage_text Usage.Steps = ascii "bad case\nsteps takes SHEET: see dizbaral help\n"
usage_text Usage.Check = ascii "bad case\ncheck takes READING SHEET ORDER: see dizbaral help\n"
usage_text Usage.Make = ascii "bad case\nmake takes FILE READING ORDER: see dizbaral help\n"

-- the usage of a number: 0 to 4, and any other is that of a case
abbrev pub usage_numbered : ℕ → Usage
usage_numbered n =
    pick (eqb n 1) Usage.Explain
    (pick (eqb n 2) Usage.Steps (pick (eqb n 3) Usage.Check (pick (eqb n 4) Usage.Make Usage.Case)))
