-- `readback::clocks::read_chip_settings` meets its contract: `decodes` gives the voltage.
use Rattle.chip.specs.declared.Chip.TheVariants.{Rp2040, Rp235x}
use Rattle.readback.proofs.{Voltages.decodes, clocks.read_chip_settings.Goals.in-Rp2040, clocks.read_chip_settings.Goals.in-Rp235x}
use Rattle.readback.proofs.clocks.read_chip_settings.Goals as goal

pub returns : goal.returns
returns c =
    rw (c.cut32.ensures, c.cut16.ensures)
    (elim c.match-chip.branch [
      | in-Rp2040 w ↦
          let v = w.voltage_from.ensures in
          rw (w.in-Rp2040.is, w.rtc-is, w.volts.ensures, decodes Rp2040 c.args.code _ v.0 v.1, v.2, w.read_rtc.ensures)
      | in-Rp235x w ↦
          let v = w.voltage_from-in-Rp235x.ensures in
          rw (w.in-Rp235x.is, w.rtc-is, w.volts-in-Rp235x.ensures, decodes Rp235x c.args.code _ v.0 v.1, v.2)
    ])
