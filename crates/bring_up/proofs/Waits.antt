-- A sheet has at most 10 waits.
use Rattle.std.specs.Prelude.{ℕ, ◌≤◌, List, [], ◌∷◌, ◌≡◌, refl}
use native.Mathlib.Omega.{arith}
use Rattle.base.specs.Choice.{bit}
use Rattle.step.specs.declared.Step.{Step}
use Rattle.chip.specs.declared.Chip.{Chip, TheVariants.Rp2040, TheVariants.Rp235x}
use Rattle.settings.specs.declared.Settings.{Settings}
use Rattle.sheet.specs.Steps.{steps_of}
use Rattle.sheet.proofs.{Laws.weight, Laws.weigh, Laws.clocks_kinds, Laws.sheet_kinds, Sheets.steps-most}
use Rattle.runner.specs.Run.{is_wait}
use Rattle.bring_up.specs.{Slow.waits_in, ComesUp.max_waits}

weighed : (xs : List Step) → weigh (λ k. bit (is_wait k)) xs ≡ waits_in xs
weighed [] = omega arith
weighed (x ∷ xs) = omega (arith, weighed xs)

chip-waits : (chip : Chip) → weight (λ k. bit (is_wait k)) (sheet_kinds chip) ≡ max_waits
unfolding sheet_kinds clocks_kinds
chip-waits Rp2040 = refl
chip-waits Rp235x = refl

pub waits-ten : (reading : ℕ) (s : Settings) → waits_in (steps_of reading s) ≤ max_waits
waits-ten reading s =
    let count = chip-waits s.chip.model in
    omega (arith, steps-most (λ k. bit (is_wait k)) reading s, weighed (steps_of reading s), count)
