-- Worked answers of `find_usb_pll` (docs/PLL.md, USB PLL), evaluated from the definition; `limits` runs more of them.
use mathlib.Core.{Path.◌≡◌, Path.refl, List.flat_map}
use Rattle.base.specs.Answer.{value}
use Rattle.pll.specs.Search.{falling, rising, setting, settings, keep}
use Rattle.pll.specs.Usb.{with_reference, usb_settings, usb_of}

pub usb-rows :
    (usb_of 8000000 ≡ value (setting 180 6 5))
    × (usb_of 16000000 ≡ value (setting 90 6 5))
    × (usb_of 25000000 ≡ value (setting 48 5 5))
    × (usb_of 20250000 ≡ value (with_reference 3 (setting 128 6 3)))
    × (usb_of 55000000 ≡ value (with_reference 11 (setting 288 6 5)))
unfolding usb_of usb_settings keep settings falling rising flat_map
usb-rows = (refl, refl, refl, refl, refl)
