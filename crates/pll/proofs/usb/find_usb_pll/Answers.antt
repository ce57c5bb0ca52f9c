-- `pll::usb::find_usb_pll` meets its contract: the loop keeps that no setting has a reference divider below the current
-- one, so the first found is the right one, and after 63 there is none; `usb-unique` makes it `usb_of`.
use mathlib.Core.Path.{◌≡◌}
use native.Mathlib.Omega.{arith}
use Rattle.pll.proofs.{UsbRight.usb-right, UsbSteps.usb-first, UsbSteps.usb-none, UsbUnique.usb-unique}
use Rattle.pll.proofs.usb.find_usb_pll.Goals as goal

pub returns-in-Some : goal.returns-in-Some
returns-in-Some c =
    usb-unique _ _ _ (usb-first _ c.loop-refdiv.refdiv _ c.loop-refdiv.invariant c.in-Some.ensures) (usb-right _)

pub returns : goal.returns
returns c =
    let l = c.loop-refdiv in let last : l.refdiv ≡ 64 = omega arith in usb-unique _ _ _ (usb-none _
    (rw last at l.invariant)) (usb-right _)
