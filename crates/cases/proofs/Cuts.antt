-- A line is cut where its first word ends.
use Rattle.std.specs.Prelude.{◌≡◌, List, ℕ, ◌≤◌, length, take}
use native.Mathlib.Omega.{arith}
use lib.ListN.{length-drop}
use Rattle.text.specs.Words.{up_to}
use Rattle.text.proofs.Lines.{take-up}
use Rattle.cases.specs.Line.{rest_after}

pub first_cut : (line : List ℕ) → take (length (up_to 32 line)) line ≡ up_to 32 line
first_cut line = take-up 32 line

-- what follows the next word is no longer than what it follows
pub rest_short : (rest : List ℕ) → length (rest_after rest) ≤ length rest
rest_short rest = simp length-drop (omega arith)
