-- The messages about a sheet that was made, and about a file that is not read or written.
use Rattle.std.specs.Prelude.{Option, Some, None, Result, Ok, Err, List, ◌++◌, ℕ}
use Rattle.base.specs.{declared.refusal.Refusal.Refusal, Refusals.number_of}
use Rattle.text.specs.{Ascii.ascii, Decimal.decimal_of}
use Rattle.wording.specs.{Words.refused_lines, Texts.usage_text, declared.commands.texts.Usage.Usage}
use Rattle.dizbaral.specs.declared.said.Reason.{Reason}

abbrev pub made_text : Option (Result ℕ Refusal) → List ℕ
made_text (Some (Ok n)) = ascii "made " ++ (decimal_of n ++ ascii " bytes\n")
made_text (Some (Err why)) = refused_lines (ascii "order: ") (number_of why)
made_text None = usage_text Usage.Make

unfoldable pub reason_text : Reason → List ℕ
reason_text Reason.NoFile = ascii "there is no such file\n"
reason_text Reason.Directory = ascii "it is a directory\n"
reason_text Reason.Denied = ascii "permission denied\n"
reason_text Reason.Exists = ascii "it is there already\n"
reason_text Reason.TooLong = ascii "it is longer than 2048 bytes\n"
reason_text Reason.Other = ascii "it cannot be read or written\n"

unfoldable pub trouble_line : List ℕ → Reason → List ℕ
trouble_line name why = name ++ (ascii ": " ++ reason_text why)

-- the name of the new file that will replace another
abbrev pub new_name : List ℕ → List ℕ
new_name path = path ++ ascii ".new"
