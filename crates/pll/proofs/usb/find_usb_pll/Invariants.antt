-- The loop keeps that no setting has a reference divider below the current one.
use Rattle.pll.specs.UsbWalk.{NoneBelow}
use Rattle.pll.proofs.usb.find_usb_pll.Given as goal

abbrev pub invariant-loop-refdiv : goal.invariant-loop-refdiv
invariant-loop-refdiv l = NoneBelow l.crystal_hz l.refdiv
