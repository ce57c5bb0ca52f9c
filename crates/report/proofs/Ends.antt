-- The report of a plan, by the answer of `init`: a length or a refusal.
use Rattle.std.specs.Prelude.{Result, Ok, Err, List, ◌≡◌, ℕ, ◌*◌, ◌/◌, ◌≤◌, length, take}
use Rattle.base.specs.{Refusals.number_of, declared.refusal.Refusal.Refusal}
use mathlib.Core.Path.{ap, ◌∙◌}
use native.Mathlib.Omega.{arith}
use Rattle.step.proofs.Sheets.{length-encoded}
use Rattle.chip.specs.declared.Chip.TheVariants.{Rp2040}
use Rattle.config.specs.{declared.ClockConfig.ClockConfig, ChipSettings.chip_of}
use Rattle.settings.specs.Settings.{settings_of}
use Rattle.sheet.specs.{Steps.steps_of, Steps.most_steps, Writer.sheet_bytes, Writer.InitCall}
use Rattle.sheet.proofs.{Sheets.chip-few, Kept.kept, Kept.own-refusal}
use Rattle.text.specs.Reply.{refused_line}
use Rattle.report.specs.Report.{reading, printed_numbers, plan_report}
use Rattle.report.specs.{Lines.lines_of, Lines.report_names, Ran.ran_of, Ran.report_numbers}
use Rattle.report.proofs.Runs.{run-numbers}

-- the greatest number of steps of the plan's chip is enough for its sheet
sheet-fits : (p : ClockConfig) → length (sheet_bytes p reading) ≤ 8 * most_steps (chip_of p.chip).model
unfolding sheet_bytes
sheet-fits p =
    omega (arith, length-encoded (steps_of reading (settings_of p reading)), chip-few reading (settings_of p reading))

module _ (p : ClockConfig) {b b' : List ℕ} {r : Result ℕ Refusal} (o : InitCall p reading b r b') where
  -- a length: the bytes of the buffer up to it are the sheet, and its run has the numbers of the report
  pub written-report : (n : ℕ) → r ≡ Ok n
      → lines_of report_names (report_numbers (ran_of (take n b') (n / 8))) ≡ plan_report p
  unfolding plan_report
  written-report n e =
      let k = kept o n e in
      let size : n ≡ length (sheet_bytes p reading) = k.whole ∙ ap length k.bytes in
      let numbers : report_numbers (ran_of (take n b') (n / 8)) ≡ printed_numbers (settings_of p reading) =
      rw (k.bytes, size) (run-numbers p reading k.accepted o.typed) in
      ap (lines_of report_names) numbers ∙ rw k.accepted

  -- a refusal: the plan's own, since the buffer is enough for every RP2040 sheet
  pub refused-report : (chip_of p.chip).model ≡ Rp2040 → length b ≡ 8 * most_steps Rp2040 → (why : Refusal) → r ≡ Err why
      → refused_line (number_of why) ≡ plan_report p
  unfolding plan_report
  refused-report on size why e =
      let room : length (sheet_bytes p reading) ≤ length b = rw size (rw on at (sheet-fits p)) in
      let own = own-refusal o room why e in
      rw (own.is, own.number)
