-- A step in words: its kind's number and name and its fields by name, as docs/FORMAT.md, Kinds of steps, lists them.
use Rattle.std.specs.Prelude.{List, [], ◌∷◌, ℕ}
use Rattle.text.specs.Ascii.{ascii}
use Rattle.step.specs.declared.{Step.Step, kind.Kind.Kind}
use Rattle.wording.specs.Form.{formed}
use Rattle.step.specs.declared.kind.Kind.TheVariants as kind

-- the form of a kind's text, with its fields in their order; a number that is no kind is no step
abbrev pub step_form : Kind → List ℕ
step_form kind.Reset = ascii "1 reset write: mask 0x$"
step_form kind.Release = ascii "2 release: mask 0x$"
step_form kind.WaitReleased = ascii "3 wait released: mask 0x$"
step_form kind.ResusOff = ascii "4 resus off"
step_form kind.SysSource = ascii "5 set system source: source #"
step_form kind.WaitSys = ascii "6 wait system source: source #"
step_form kind.RefSource = ascii "7 set reference source: source #"
step_form kind.WaitRef = ascii "8 wait reference source: source #"
step_form kind.Strengths0To3 = ascii "9 strengths 0-3: s0 #, s1 #, s2 #, s3 #"
step_form kind.Strengths4To7 = ascii "10 strengths 4-7: s4 #, s5 #, s6 #, s7 #"
step_form kind.RingDivider = ascii "11 ring divider: value #"
step_form kind.RingOn = ascii "12 ring on: range #"
step_form kind.Voltage = ascii "13 voltage: code #"
step_form kind.Delay = ascii "14 delay: cycles #"
step_form kind.Brownout = ascii "15 brownout: level #"
step_form kind.Startup = ascii "16 startup delay: delay #"
step_form kind.CrystalOn = ascii "17 crystal on"
step_form kind.WaitStable = ascii "18 wait stable"
step_form kind.PllPower = ascii "19 PLL power: W #, pd #, vcopd #, postdivpd #, dsmpd #"
step_form kind.PllReference = ascii "20 PLL reference divider: W #, divider #"
step_form kind.PllFeedback = ascii "21 PLL feedback divider: W #, divider #"
step_form kind.WaitLock = ascii "22 wait lock: W #"
step_form kind.PllPosts = ascii "23 PLL post dividers: W #, post1 #, post2 #"
step_form kind.PllPostOn = ascii "24 PLL post dividers on: W #"
step_form kind.RefControl = ascii "25 reference control: source #"
step_form kind.RefDivider = ascii "26 reference divider: divider #"
step_form kind.Tick = ascii "27 tick: cycles #"
step_form kind.SysControl = ascii "28 system control: aux #, source #"
step_form kind.SysDivider = ascii "29 system divider: whole #, fraction #"
step_form kind.PeriControl = ascii "30 peripheral control: aux #"
step_form kind.UsbDivider = ascii "31 USB divider: divider #"
step_form kind.UsbControl = ascii "32 USB control: phase #, aux #"
step_form kind.AdcDivider = ascii "33 ADC divider: divider #"
step_form kind.AdcControl = ascii "34 ADC control: phase #, aux #"
step_form kind.RtcDivider = ascii "35 RTC divider: whole #, fraction #"
step_form kind.RtcControl = ascii "36 RTC control: phase #, aux #"
step_form kind.Store = ascii "37 store: @ # Hz"
step_form kind.ChipMark = ascii "38 chip mark"
step_form kind.TimerCycles = ascii "39 timer cycles: cycles #"
step_form kind.TimerOn = ascii "40 timer on"
step_form kind.WatchdogCycles = ascii "41 watchdog cycles: cycles #"
step_form kind.WatchdogOn = ascii "42 watchdog on"
step_form kind.Voltage235 = ascii "43 voltage: code #"
step_form kind.Brownout235 = ascii "44 brownout: level #"
step_form kind.SysDivider235 = ascii "45 system divider: whole #, fraction #"
step_form (kind.Unknown number) = ascii "no step"

unfoldable pub step_text : Step → List ℕ
step_text s = formed (step_form s.kind) (s.f0 ∷ s.f1 ∷ s.f2 ∷ s.f3 ∷ s.f4 ∷ [])
