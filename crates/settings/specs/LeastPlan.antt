-- The plan with these settings whose delay multiplier and settling time are the smallest (docs/FORMAT.md, Reading a sheet back).
use Rattle.std.specs.Prelude.{Option, Some, None, ℕ, ◌+◌, ◌-◌, ◌*◌, ◌/◌, ◌%◌, ◌^◌}
use Rattle.divider.specs.Delay.{cycles_per_us}
use Rattle.config.specs.{declared.XoscConfig.XoscConfig, declared.ClockConfig.ClockConfig, ChipSettings.config_of}
use Rattle.settings.specs.{declared.Crystal.Crystal, declared.Settings.Settings, Settings.ring_hz}

-- The smallest multiplier is (256 × delay − 128) over the crystal's kHz, rounded up; it is 0 for a delay of 0.
unfoldable pub multiplier_for : ℕ → ℕ → ℕ
multiplier_for hz delay = (256 * delay - 128 + (hz / 1000 - 1)) / (hz / 1000)

-- A startup delay has 14 bits.
abbrev pub xosc_for : Option Crystal → Option XoscConfig
xosc_for (Some x) =
    Some
    (record {
      hz = x.hz;
      sys_pll = x.sys;
      usb_pll = x.usb;
      delay_multiplier = multiplier_for x.hz (x.delay % 2 ^ 14);
    })
xosc_for None = None

-- The settling cycles, which have 32 bits, over the cycles of a microsecond.
unfoldable pub time_for : ℕ → Option ℕ → ℕ
time_for hz (Some n) = n % 2 ^ 32 / cycles_per_us hz
time_for hz None = 0

-- The plan with these settings, this crystal and this settling time.
abbrev pub plan_with : Settings → Option XoscConfig → Option ℕ → ClockConfig
plan_with s x time =
    record {
      chip = config_of s.chip;
      rosc = s.rosc;
      xosc = x;
      ref_clk = s.reference;
      sys_clk_src = s.sys;
      peri_clk_src = s.peri;
      usb_clk = s.usb;
      adc_clk = s.adc;
      voltage_stabilization_delay_us = time;
    }

-- The settling time is always given, 0 where there is no settling step.
unfoldable pub plan_of : Settings → ClockConfig
plan_of s = plan_with s (xosc_for s.xosc) (Some (time_for (ring_hz s.rosc) s.settling))
