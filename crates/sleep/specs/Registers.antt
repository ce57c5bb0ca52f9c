-- The eleven registers by their numbers (docs/SLEEP.md).
use Rattle.std.specs.Prelude.{ℕ}
use Rattle.sleep.specs.declared.register.Register.{Register}
use Rattle.sleep.specs.declared.register.Register.TheVariants as reg

abbrev pub number_of : Register → ℕ
number_of reg.AdcCtrl = 0
number_of reg.UsbCtrl = 1
number_of reg.PeriCtrl = 2
number_of reg.RoscCtrl = 3
number_of reg.RoscDiv = 4
number_of reg.RefCtrl = 5
number_of reg.SysCtrl = 6
number_of reg.PllSysPwr = 7
number_of reg.PllUsbPwr = 8
number_of reg.XoscCtrl = 9
number_of reg.XipCtrl = 10
