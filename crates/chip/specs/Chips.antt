-- The numbers in which the RP2040 and the RP235x differ (docs/RP235X.md). `gpout` lists the clock of each Gpout source code from
-- 0 on; none is for a code that no clock has.
use Rattle.std.specs.Prelude.{[], ◌∷◌, ◌+◌, ◌-◌, ◌^◌, Some, None}
use Rattle.base.specs.Widths.{u16, u24}
use Rattle.step.specs.declared.kind.Kind.TheVariants as kind
use Rattle.step.specs.declared.clock.Clock.TheVariants as clock
use Rattle.chip.specs.declared.{Chip.Chip, Chip.TheVariants.Rp2040, Chip.TheVariants.Rp235x, Facts.Facts}

abbrev pub facts_of : Chip → Facts
facts_of Rp2040 =
    record {
      top_reading = 15;
      voltage = kind.Voltage;
      brownout = kind.Brownout;
      divider = kind.SysDivider;
      scale = 256;
      top_whole = u24;
      pass = 0xAA0;
      -- all 25 bits without IO_QSPI, PADS_QSPI, PLL_SYS, PLL_USB, SYSCFG, USBCTRL
      first = 0x1FFFFFF - (2 ^ 6 + 2 ^ 9 + 2 ^ 12 + 2 ^ 13 + 2 ^ 18 + 2 ^ 24);
      plls = 2 ^ 12 + 2 ^ 13;  -- PLL_SYS, PLL_USB
      last = 0x1FFFFFF;  -- all 25 bits
      peri = 2 ^ 16 + 2 ^ 17 + 2 ^ 22 + 2 ^ 23;  -- SPI0, SPI1, UART0, UART1
      usb = 2 ^ 24;  -- USBCTRL
      adc = 2 ^ 0;  -- ADC
      rtc = 2 ^ 15;  -- RTC
      preset_hz = 125000000;
      preset_post = 6;
      gpout =
          Some clock.PllSys ∷ None ∷ None ∷ Some clock.PllUsb  -- 0 to 3
          ∷ Some clock.Rosc ∷ Some clock.Xosc ∷ Some clock.Sys ∷ Some clock.Usb  -- 4 to 7
          ∷ Some clock.Adc ∷ None ∷ Some clock.Ref ∷ None ∷ [];  -- 8 to 11
    }
facts_of Rp235x =
    record {
      top_reading = 31;
      voltage = kind.Voltage235;
      brownout = kind.Brownout235;
      divider = kind.SysDivider235;
      scale = 65536;
      top_whole = u16;
      pass = 0xAA00;
      -- all 25 bits without IO_QSPI, PADS_QSPI, PLL_SYS, PLL_USB, SYSCFG
      first = 0x1FFFFFF - (2 ^ 7 + 2 ^ 10 + 2 ^ 14 + 2 ^ 15 + 2 ^ 20);
      plls = 2 ^ 14 + 2 ^ 15;  -- PLL_SYS, PLL_USB
      last = 0x1FFFFFF - 2 ^ 3;  -- without HSTX, which the last release leaves out
      peri = 2 ^ 18 + 2 ^ 19;  -- SPI0, SPI1; the UARTs' bits 26, 27 are outside the 25 bits
      usb = 0;  -- USBCTRL's bit 28 is outside the 25 bits
      adc = 2 ^ 0;  -- ADC
      rtc = 0;
      preset_hz = 150000000;
      preset_post = 5;
      gpout =
          Some clock.PllSys ∷ None ∷ None ∷ Some clock.PllUsb  -- 0 to 3
          ∷ None ∷ Some clock.Rosc ∷ Some clock.Xosc ∷ None  -- 4 to 7
          ∷ Some clock.Sys ∷ Some clock.Usb ∷ Some clock.Adc ∷ Some clock.Ref ∷ [];  -- 8 to 11
    }
