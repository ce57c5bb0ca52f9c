-- Refusals 15 and then 25 precede every other refusal of the preset from a crystal. This follows from the exported call's
-- contract alone: without a plan there is nothing else to refuse.
use Rattle.std.specs.Prelude.{Some, ◌≡◌, List, ℕ}
use Rattle.base.specs.Answer.{Answer, refusal}
use Rattle.config.specs.declared.ClockConfig.{ClockConfig}
use Rattle.config.proofs.Systems.{system-from-15, system-from-25}
use Rattle.export.specs.{Sheet.SheetCall, UsbFirst.Refuses, UsbFirst.UsbRefusalFirst}

refuses : (plan : Answer ClockConfig) (n reading r : ℕ) (before after : List ℕ) → plan ≡ refusal n
    → SheetCall (Some plan) reading before r after → Refuses n r before after
refuses plan n reading r before after e call = let None = rw e at call in (None.answer, None.bytes)

pub usb-refusal-before-others : UsbRefusalFirst
usb-refusal-before-others on from hz reading r before after chip named call =
    let preset = rw named at call in (
      (λ n e. refuses _ 15 reading r before after (system-from-15 chip from hz n e) preset),
      λ n sys e None. refuses _ 25 reading r before after (system-from-25 chip from hz n sys e None) preset,
    )
