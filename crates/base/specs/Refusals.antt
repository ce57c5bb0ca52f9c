-- The refusals by their numbers (docs/FORMAT.md, Refusals).
use Rattle.std.specs.Prelude.{ℕ}
use Rattle.base.specs.declared.refusal.Refusal.{Refusal}
use Rattle.base.specs.declared.refusal.Refusal.TheVariants as why

abbrev pub number_of : Refusal → ℕ
number_of why.DriveStrength = 1
number_of why.RingDivider = 2
number_of why.SettlingTime = 3
number_of why.StartupDelay = 4
number_of why.SysPll = 5
number_of why.UsbPll = 6
number_of why.RefDivider = 7
number_of why.RefClock = 8
number_of why.SysDivider = 9
number_of why.SysClock = 10
number_of why.PeriClock = 11
number_of why.UsbClock = 12
number_of why.AdcClock = 13
number_of why.RtcClock = 14
number_of why.NoPllSetting = 15
number_of why.NoPllOutput = 16
number_of why.PioDivider = 17
number_of why.VoltageReading = 18
number_of why.ShortBuffer = 19
number_of why.NotASheet = 20
number_of why.NotARunner = 21
number_of why.LockTimeout = 22
number_of why.GpoutSource = 23
number_of why.UnreadableInput = 24
number_of why.NoUsbPll = 25
number_of why.NoPlan = 26
number_of why.OtherSheet = 27
number_of why.NoBoard = 28
number_of why.NoSlot = 29
number_of why.EmptySlot = 30
number_of why.CountOver = 31
