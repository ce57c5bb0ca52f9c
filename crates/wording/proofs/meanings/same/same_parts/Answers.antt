-- `meanings::same::same_parts` meets its contract: each derived test is that of the part's numbers.
use mathlib.Core.{Path.◌≡◌}
use Rattle.std.proofs.Common.{rules}
use Rattle.wording.specs.Parts.{sys_pll_of, usb_pll_of}
use Rattle.wording.proofs.Derived.{hz_and_delay, crystal_same}
use Rattle.wording.proofs.Derived.{chip_same, ref_same, sys_same, pll_same, cycles_same, peri_same, aux_same, rtc_same}
use Rattle.wording.proofs.meanings.same.same_parts.Goals as goal

pub returns : goal.returns
returns c =
    let x : c.map.result ≡ hz_and_delay c.args.a.xosc = search rules in
    let y : c.map-2.result ≡ hz_and_delay c.args.b.xosc = search rules in
    let s : c.and_then.result ≡ sys_pll_of c.args.a.xosc = search rules in
    let t : c.and_then-2.result ≡ sys_pll_of c.args.b.xosc = search rules in
    let u : c.and_then-3.result ≡ usb_pll_of c.args.a.xosc = search rules in
    let v : c.and_then-4.result ≡ usb_pll_of c.args.b.xosc = search rules in
    rw (c.eq.ensures, chip_same, c.same_ring.ensures, c.eq-2.ensures, x, y, crystal_same)
    (rw (c.eq-3.ensures, s, t, pll_same, c.eq-4.ensures, u, v, pll_same, c.eq-5.ensures, cycles_same)
    (rw (c.eq-6.ensures, ref_same, c.eq-7.ensures, sys_same, c.eq-8.ensures, peri_same)
    (rw (c.eq-9.ensures, aux_same, c.eq-10.ensures, aux_same, c.eq-11.ensures, rtc_same))))
