-- `readback::parse::settings_in` meets its contract: `goes_on` carries each reader's equation on to the steps after the previous
-- part, and `settings-there` joins the parts.
use mathlib.Core.{Path.◌≡◌, Path.refl, Path.sym, List.List}
use lib.ListN.{drop}
use Rattle.step.specs.declared.Step.{Step}
use Rattle.step.specs.declared.kind.Kind.TheVariants as kind
use Rattle.sheet.specs.Read.{read_chip, read_ring, read_voltage, read_crystal, past_tick, read_ref, read_sys, read_peri, read_aux}
use Rattle.readback.specs.{Parse.value_in, Parse.rest_in, Cut.cut_ring, Cut.cut_crystal, Cut.cut_ref, Cut.cut_aux, Cut.cut_settings}
use Rattle.readback.specs.Parse.{chip_taken, ring_taken, voltage_taken, crystal_taken, ref_taken, sys_taken, peri_taken, usb_taken}
use Rattle.readback.specs.Parse.{adc_taken}
use Rattle.readback.proofs.Parts.{goes_on, past-tick, settings-there}
use Rattle.readback.proofs.parse.settings_in.Goals as goal

pub returns : goal.returns
unfolding cut_settings chip_taken ring_taken voltage_taken crystal_taken ref_taken sys_taken peri_taken usb_taken adc_taken
returns c =
    let xs : List Step = c.args.steps.now in
    let facts = c.facts-facts.ensures in
    let chip = goes_on read_chip (λ c. c) xs _ _ c.read_chip-on.ensures refl in
    let head : drop 9 (rest_in (chip_taken xs)) ≡ c.past.result.now = rw chip.rest (sym c.past.ensures) in
    let ring = goes_on (read_ring _) cut_ring _ _ _ (rw (facts, chip.value) at c.read_ring-rosc.ensures) head in
    let voltage = goes_on (read_voltage _ _) (λ v. v) _ _ _ (rw (facts, chip.value) at c.read_voltage.ensures) ring.rest in
    let crystal = goes_on read_crystal cut_crystal _ _ _ c.read_crystal-xosc.ensures voltage.rest in
    let stores : drop 3 (rest_in (crystal_taken c.args.reading xs)) ≡ c.past-2.result.now = rw crystal.rest (sym c.past-2.ensures) in
    let ref = goes_on read_ref cut_ref _ _ _ c.read_ref.ensures stores in
    let tick : past_tick (value_in (chip_taken xs)) (rest_in (ref_taken c.args.reading xs)) ≡ c.past-3.result.now =
    rw (ref.rest, ← chip.value, past-tick, ← c.ticks.ensures) (sym c.past-3.ensures) in
    let sys = goes_on read_sys (λ s. s) _ _ _ c.read_sys.ensures tick in
    let peri = goes_on read_peri (λ p. p) _ _ _ c.read_peri-peri.ensures sys.rest in
    let usb = goes_on (read_aux kind.UsbDivider) cut_aux _ _ _ c.read_aux-usb.ensures peri.rest in
    let adc = goes_on (read_aux kind.AdcDivider) cut_aux _ _ _ c.read_aux-adc.ensures usb.rest in
    rw (settings-there c.args.reading xs, adc.rest, ← adc.value, ← usb.value, ← peri.value)
    (rw (← sys.value, ← ref.value, ← crystal.value, ← voltage.value, ← ring.value, ← chip.value)
    (rw (← c.read_chip_settings.ensures)))
