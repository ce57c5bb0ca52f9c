-- The sheets of the crystal presets are read back to these presets with a settling time of 0.
use Rattle.std.specs.Prelude.{◌≡◌, ℕ, Some}
use Rattle.base.specs.Answer.{value}
use Rattle.chip.specs.declared.Chip.TheVariants.{Rp2040, Rp235x}
use Rattle.config.specs.{declared.ClockConfig.ClockConfig, Presets.crystal_plan}
use Rattle.divider.specs.Delay.{startup_sum, cycles_per_us, settling_cycles}
use Rattle.settings.specs.Settings.{settling_step, settings_of}
use Rattle.settings.specs.LeastPlan.{multiplier_for, time_for, plan_with, plan_of}
use Rattle.sheet.proofs.Examples.{crystal-steps, crystal-steps-235}
use Rattle.sheet.specs.Writer.{sheet_bytes}
use Rattle.readback.specs.Read.{read_of}
use Rattle.readback.proofs.Right.{written_read}

-- The plan with a given time; its other fields are in its settings at any reading.
pub timed : ClockConfig → ℕ → ClockConfig
timed p time = plan_with (settings_of p 11) p.xosc (Some time)

-- The multiplier 128 of the presets is the smallest for their delay at 12 MHz.
pub crystal-back : read_of (sheet_bytes (crystal_plan Rp2040 12000000) 11) 11
    ≡ value (timed (crystal_plan Rp2040 12000000) 0)
unfolding timed plan_of multiplier_for time_for startup_sum cycles_per_us settling_cycles settling_step
crystal-back = written_read (crystal_plan Rp2040 12000000) 11 crystal-steps.typed crystal-steps.accepted

pub crystal-back-235 : read_of (sheet_bytes (crystal_plan Rp235x 12000000) 11) 11
    ≡ value (timed (crystal_plan Rp235x 12000000) 0)
unfolding timed plan_of multiplier_for time_for startup_sum cycles_per_us settling_cycles settling_step
crystal-back-235 = written_read (crystal_plan Rp235x 12000000) 11 crystal-steps-235.typed
    crystal-steps-235.accepted
