-- The preset of the runner trial is accepted, so `init` writes its sheet and answers its length.
use Rattle.std.specs.Prelude.{Result, Ok, Err, List, ◌≡◌, length}
use Rattle.base.specs.declared.refusal.Refusal.{Refusal}
use Rattle.std.proofs.Common.{ℕ, ◌≤◌, arith}
use Rattle.step.specs.Sheet.{max_bytes}
use Rattle.chip.specs.declared.Chip.TheVariants.{Rp2040}
use Rattle.config.specs.{declared.ClockConfig.ClockConfig, Presets.crystal_plan}
use Rattle.sheet.specs.Writer.{InitCall}
use Rattle.sheet.proofs.{Ends.sheet-most, Kept.Kept, Kept.kept, Kept.turned-back, Examples.crystal-steps}
use Rattle.trial.specs.Load.{trial_sheet}

module _ {p : ClockConfig} (is : p ≡ crystal_plan Rp2040 12000000) {b b' : List ℕ} {r : Result ℕ Refusal}
    (o : InitCall p 11 b r b') where
  pub written : (n : ℕ) → r ≡ Ok n → Kept (crystal_plan Rp2040 12000000) 11 n b'
  written n e = kept (rw is at o) n e

  pub never-refused : length b ≡ max_bytes → (why : Refusal) → r ≡ Err why → ⊥
  never-refused size why e =
      let room : length trial_sheet ≤ length b = omega (arith, sheet-most (crystal_plan Rp2040 12000000) 11) in
      turned-back (rw is at o) room why e crystal-steps.accepted
