-- The clocks and the PLLs by their numbers in the fields of a step (docs/FORMAT.md, Kinds of steps).
use Rattle.std.specs.Prelude.{ℕ, List, codes}
use Rattle.step.specs.declared.clock.{Clock.Clock, Pll.Pll}
use Rattle.step.specs.declared.clock.Clock.TheVariants as clock
use Rattle.step.specs.declared.clock.Pll.TheVariants as pll

abbrev pub clock_number : Clock → ℕ
clock_number clock.Rosc = 0
clock_number clock.Xosc = 1
clock_number clock.PllSys = 2
clock_number clock.PllUsb = 3
clock_number clock.Ref = 4
clock_number clock.Sys = 5
clock_number clock.Peri = 6
clock_number clock.Usb = 7
clock_number clock.Adc = 8
clock_number clock.Rtc = 9

-- The name of a clock in the outputs of the programs.
abbrev pub clock_name : Clock → List ℕ
clock_name clock.Rosc = codes "rosc"
clock_name clock.Xosc = codes "xosc"
clock_name clock.PllSys = codes "pll_sys"
clock_name clock.PllUsb = codes "pll_usb"
clock_name clock.Ref = codes "ref"
clock_name clock.Sys = codes "sys"
clock_name clock.Peri = codes "peri"
clock_name clock.Usb = codes "usb"
clock_name clock.Adc = codes "adc"
clock_name clock.Rtc = codes "rtc"

abbrev pub pll_number : Pll → ℕ
pll_number pll.Sys = 0
pll_number pll.Usb = 1
