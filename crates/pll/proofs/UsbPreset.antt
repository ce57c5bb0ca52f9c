-- The USB PLL of the 12 MHz preset, evaluated from the definition.
use mathlib.Core.{Path.◌≡◌, Path.refl, List.flat_map}
use Rattle.base.specs.Answer.{value}
use Rattle.pll.specs.Search.{falling, rising, setting, settings, keep}
use Rattle.pll.specs.Usb.{usb_settings, usb_of}

pub usb-preset : usb_of 12000000 ≡ value (setting 120 6 5)
unfolding usb_of usb_settings keep settings falling rising flat_map
usb-preset = refl
