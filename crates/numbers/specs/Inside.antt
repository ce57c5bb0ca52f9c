-- Inside: the number of a reply with the word of its step given, as the code reads it from the sheet.
use Rattle.std.specs.Prelude.{ℕ}
use Rattle.runner.specs.declared.Reply.{Reply, TheVariants.Done, TheVariants.Handed, TheVariants.Passed, TheVariants.Waiting}

abbrev pub progress_with : ℕ → Reply → ℕ
progress_with word Done = 0
progress_with word Passed = 1
progress_with word Waiting = 2
progress_with word (Handed step) = word
