-- `lister::Listing::put_all` meets its contract: the loop keeps that putting the settings of the remaining feedback dividers
-- completes the list.
use mathlib.Core.{Path.◌≡◌, List.flat_map}
use Prim.Native.Nat.{◌+◌, ◌-◌}
use Rattle.pll.specs.{Search.rising, Search.keep}
use Rattle.lister.specs.{Lister.meets, Lister.list_of, Order.at_feedback, Order.written, Order.puts}
use Rattle.lister.proofs.Listing.put_all.Given as goal

abbrev pub invariant-loop-fbdiv : goal.invariant-loop-fbdiv
invariant-loop-fbdiv l =
    puts (written l.self)
    (keep (meets l.input_hz l.target_hz) (flat_map at_feedback (rising (l.high + 1 - l.fbdiv) l.fbdiv)))
    ≡ puts (written l.initial.self) (list_of l.input_hz l.target_hz)
