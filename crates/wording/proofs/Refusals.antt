-- The text of a refusal has at most 121 bytes.
use Rattle.std.specs.Prelude.{ℕ, ◌≤◌, leb, length, refl}
use Rattle.base.specs.Choice.{pick}
use Rattle.wording.specs.Refusals.{refusal_rows, refusal_text}
use Rattle.wording.proofs.Tables.{row-most}

pub refusal-most : (number : ℕ) → length (refusal_text number) ≤ 121
unfolding refusal_text refusal_rows
refusal-most number = row-most refusal_rows 121 (pick (leb number 31) number 0) refl
