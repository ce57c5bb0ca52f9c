-- A plan with another chip-specific part.
use Rattle.config.specs.declared.{ChipConfig.ChipConfig, ClockConfig.ClockConfig}

abbrev pub on_chip : ChipConfig → ClockConfig → ClockConfig
on_chip c p =
    record {
      chip = c;
      rosc = p.rosc;
      xosc = p.xosc;
      ref_clk = p.ref_clk;
      sys_clk_src = p.sys_clk_src;
      peri_clk_src = p.peri_clk_src;
      usb_clk = p.usb_clk;
      adc_clk = p.adc_clk;
      voltage_stabilization_delay_us = p.voltage_stabilization_delay_us;
    }
