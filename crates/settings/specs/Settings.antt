-- The settings of a plan at a reading, which demand 3 compares (docs/FORMAT.md, Settings that count). Each part that may be
-- absent also says whether it is present.
use Rattle.std.specs.Prelude.{Option, Some, None, ℕ, eqb}
use Rattle.base.specs.Choice.{pick}
use Rattle.divider.specs.Delay.{delay_of, settling_cycles}
use Rattle.config.specs.declared.{RoscConfig.RoscConfig, XoscConfig.XoscConfig, ClockConfig.ClockConfig}
use Rattle.config.specs.ChipSettings.{chip_of}
use Rattle.settings.specs.declared.{Crystal.Crystal, Settings.Settings}

-- The delay multiplier counts only through the startup delay.
abbrev pub crystal_of : Option XoscConfig → Option Crystal
crystal_of (Some x) =
    Some
    (record { hz = x.hz; delay = delay_of x.hz x.delay_multiplier; sys = x.sys_pll; usb = x.usb_pll })
crystal_of None = None

-- The frequency of the ring oscillator, 0 for none.
abbrev pub ring_hz : Option RoscConfig → ℕ
ring_hz (Some r) = r.hz
ring_hz None = 0

-- The plan's settling time, or the voltage's default where the plan gives none.
abbrev pub settling_time : Option ℕ → ℕ → ℕ
settling_time (Some time) default = time
settling_time None default = default

-- There is no settling step where the voltage code equals the reading or the settling time is 0.
unfoldable pub settling_step : ℕ → ℕ → ℕ → ℕ → Option ℕ
settling_step reading code time hz =
    pick (eqb code reading) None (pick (eqb time 0) None (Some (settling_cycles time hz)))

-- `chip` has the chip-specific part in common fields; all other parts are the plan's own.
abbrev pub settings_of : ClockConfig → ℕ → Settings
settings_of p reading =
    let c = chip_of p.chip in
    let time = settling_time p.voltage_stabilization_delay_us c.volts.settling_us in
    record {
      chip = c;
      rosc = p.rosc;
      xosc = crystal_of p.xosc;
      settling = settling_step reading c.volts.code time (ring_hz p.rosc);
      reference = p.ref_clk;
      sys = p.sys_clk_src;
      peri = p.peri_clk_src;
      usb = p.usb_clk;
      adc = p.adc_clk;
    }
