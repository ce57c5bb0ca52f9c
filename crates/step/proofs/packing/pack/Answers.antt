-- `step::packing::pack` meets its contract: the layout gives the widths, and the six equations of `place`, inserted one into the
-- other, are the packed word.
use native.Mathlib.Omega.{arith}
use lib.Pow.{pow_pos}
use Rattle.step.specs.{Layout.widths, Steps.pack_of}
use Rattle.step.proofs.packing.pack.Goals as goal

pub place-r4-requires : goal.place-r4-requires
place-r4-requires c = (omega arith, omega arith, omega arith, omega arith, pow_pos _)

pub returns : goal.returns
unfolding pack_of widths
returns c = let w = c.layout-w.ensures in
    rw (c.place.ensures.0, c.place-r0.ensures.0, c.place-r1.ensures.0, c.place-r2.ensures.0)
    (rw (c.place-r3.ensures.0, c.place-r4.ensures.0, w.at0, w.at1, w.at2, w.at3, w.at4, c.from-2.ensures, c.from.ensures))
