-- The register access of each kind of step: the column "what it does" of docs/FORMAT.md, Kinds of steps, as an
-- address, a mask and a value.
use Rattle.std.specs.Prelude.{Bool, ◌&&◌, not, List, ℕ, ◌+◌, ◌*◌, ◌%◌, ◌^◌, leb}
use Rattle.base.specs.{Answer.Answer, Answer.value, Answer.refusal, Choice.pick}
use Rattle.chip.specs.declared.Chip.{Chip, TheVariants.Rp2040, TheVariants.Rp235x}
use Rattle.step.specs.{declared.Step.Step, Access.read_at, Kinds.kind_number, Kinds.known, Kinds.is, declared.kind.Kind.Kind}
use Rattle.registers.specs.declared.Access.{Access}
use Rattle.registers.specs.Map.{RESET, RESET_DONE, CLK_REF_CTRL, CLK_REF_DIV, CLK_REF_SELECTED, CLK_SYS_CTRL, CLK_SYS_DIV}
use Rattle.registers.specs.Map.{CLK_SYS_SELECTED, CLK_PERI_CTRL, CLK_USB_CTRL, CLK_USB_DIV, CLK_ADC_CTRL, CLK_ADC_DIV, CLK_RTC_CTRL}
use Rattle.registers.specs.Map.{CLK_RTC_DIV, CLK_SYS_RESUS_CTRL, XOSC_CTRL, XOSC_STATUS, XOSC_STARTUP, ROSC_CTRL, ROSC_FREQA}
use Rattle.registers.specs.Map.{ROSC_FREQB, ROSC_DIV, PLL_CS, PLL_PWR, PLL_FBDIV_INT, PLL_PRIM, VREG, BOD, WATCHDOG_TICK}
use Rattle.registers.specs.Map.{POWMAN_VREG, POWMAN_BOD, TIMER0_CTRL, TIMER0_CYCLES, WATCHDOG_CTRL, WATCHDOG_CYCLES, field, bits}
use Rattle.registers.specs.Map.{whole, BLOCKS, REF_SRC, SYS_SRC, AUXSRC, ENABLE, PHASE, INT, STRENGTHS, FREQ_PASSWORD, RING_DIV}
use Rattle.registers.specs.Map.{FREQ_RANGE, OSCILLATOR_ON, CRYSTAL_RANGE, DELAY, STABLE, LOCK, REFDIV, FBDIV, POSTDIV1, POSTDIV2}
use Rattle.registers.specs.Map.{PD, DSMPD, POSTDIVPD, VCOPD, VSEL, VSEL_235, BOD_EN, POWMAN_PASSWORD, CYCLES, TICK_ENABLE}
use Rattle.registers.specs.Map.{TICKS_ENABLE}
use Rattle.step.specs.declared.kind.Kind.TheVariants as kind

-- no access
abbrev pub nothing : Access
nothing = Access.Nothing

-- the whole register becomes the value
abbrev pub write : ℕ → ℕ → Access
write a v = Access.Write a v

-- the bits in the mask become those of the value, the others stay
abbrev pub change : ℕ → ℕ → ℕ → Access
change a m v = Access.Change a m v

-- wait until the bits in the mask equal the value
abbrev pub await : ℕ → ℕ → ℕ → Access
await a m v = Access.Wait a m v

-- let this many processor cycles pass
abbrev pub pause : ℕ → Access
pause cycles = Access.Pause cycles

-- An access as numbers (docs/FORMAT.md): what it does, its address, its mask and its value. A write has all bits in its mask, a
-- pause its cycles as its value; a number that an access lacks is 0.
abbrev pub op_of : Access → ℕ
op_of Access.Nothing = 0
op_of (Access.Write a v) = 1
op_of (Access.Change a m v) = 2
op_of (Access.Wait a m v) = 3
op_of (Access.Pause n) = 4

abbrev pub address_of : Access → ℕ
address_of Access.Nothing = 0
address_of (Access.Write a v) = a
address_of (Access.Change a m v) = a
address_of (Access.Wait a m v) = a
address_of (Access.Pause n) = 0

abbrev pub mask_of : Access → ℕ
mask_of Access.Nothing = 0
mask_of (Access.Write a v) = whole
mask_of (Access.Change a m v) = m
mask_of (Access.Wait a m v) = m
mask_of (Access.Pause n) = 0

abbrev pub value_of : Access → ℕ
value_of Access.Nothing = 0
value_of (Access.Write a v) = v
value_of (Access.Change a m v) = v
value_of (Access.Wait a m v) = v
value_of (Access.Pause n) = n

-- the access of a step on chip c, by the kind; a number that is no kind has none
abbrev pub row_of : Kind → Chip → Step → Access
row_of kind.Reset c s = write (RESET c) (BLOCKS s.f0)  -- 1 reset write: mask
row_of kind.Release c s = change (RESET c) (BLOCKS s.f0) 0  -- 2 release: mask
row_of kind.WaitReleased c s = await (RESET_DONE c) (BLOCKS s.f0) (BLOCKS s.f0)  -- 3 wait released: mask
row_of kind.ResusOff c s = write (CLK_SYS_RESUS_CTRL c) 0  -- 4 resus off
row_of kind.SysSource c s = change (CLK_SYS_CTRL c) (bits 0 1) (SYS_SRC s.f0)  -- 5 set system source
row_of kind.WaitSys c s = await (CLK_SYS_SELECTED c) whole (2 ^ (s.f0 % 2))  -- 6 wait for it
row_of kind.RefSource c s = change (CLK_REF_CTRL c) (bits 0 2) (REF_SRC s.f0)  -- 7 set reference source
row_of kind.WaitRef c s = await (CLK_REF_SELECTED c) whole (2 ^ (s.f0 % 4))  -- 8 wait for it
row_of kind.Strengths0To3 c s = write (ROSC_FREQA c) (STRENGTHS s.f0 s.f1 s.f2 s.f3 + FREQ_PASSWORD)  -- 9 strengths 0 to 3
row_of kind.Strengths4To7 c s = write (ROSC_FREQB c) (STRENGTHS s.f0 s.f1 s.f2 s.f3 + FREQ_PASSWORD)  -- 10 strengths 4 to 7
row_of kind.RingDivider c s = write (ROSC_DIV c) (RING_DIV c s.f0)  -- 11 ring divider
row_of kind.RingOn c s = write (ROSC_CTRL c) (FREQ_RANGE s.f0 + OSCILLATOR_ON)  -- 12 ring on: range
row_of kind.Voltage c s = change VREG (bits 4 4) (VSEL s.f0)  -- 13 voltage code
row_of kind.Delay c s = pause (field 0 32 s.f0)  -- 14 delay: cycles
row_of kind.Brownout c s = write BOD (VSEL s.f0 + BOD_EN)  -- 15 brownout
row_of kind.Startup c s = write (XOSC_STARTUP c) (DELAY s.f0)  -- 16 startup delay
row_of kind.CrystalOn c s = write (XOSC_CTRL c) (CRYSTAL_RANGE + OSCILLATOR_ON)  -- 17 crystal on
row_of kind.WaitStable c s = await (XOSC_STATUS c) STABLE STABLE  -- 18 wait stable
row_of kind.PllPower c s = write (PLL_PWR c s.f0) (PD s.f1 + VCOPD s.f2 + POSTDIVPD s.f3 + DSMPD s.f4)  -- 19 PLL power
row_of kind.PllReference c s = write (PLL_CS c s.f0) (REFDIV s.f1)  -- 20 PLL, reference divider
row_of kind.PllFeedback c s = write (PLL_FBDIV_INT c s.f0) (FBDIV s.f1)  -- 21 PLL, feedback divider
row_of kind.WaitLock c s = await (PLL_CS c s.f0) LOCK LOCK  -- 22 PLL, wait for lock
row_of kind.PllPosts c s = write (PLL_PRIM c s.f0) (POSTDIV1 s.f1 + POSTDIV2 s.f2)  -- 23 PLL, posts
row_of kind.PllPostOn c s = change (PLL_PWR c s.f0) (bits 3 1) 0  -- 24 PLL, post dividers on: POSTDIVPD
row_of kind.RefControl c s = write (CLK_REF_CTRL c) (REF_SRC s.f0)  -- 25 reference control: source; AUXSRC 0 is PLL USB
row_of kind.RefDivider c s = write (CLK_REF_DIV c) (INT c s.f0)  -- 26 reference divider
row_of kind.Tick c s = write WATCHDOG_TICK (CYCLES s.f0 + TICK_ENABLE)  -- 27 tick
row_of kind.SysControl c s = write (CLK_SYS_CTRL c) (AUXSRC s.f0 + SYS_SRC s.f1)  -- 28 system control: aux, source
row_of kind.SysDivider c s = write (CLK_SYS_DIV c) (field 8 24 s.f0 + field 0 8 s.f1)  -- 29 system divider
row_of kind.PeriControl c s = write (CLK_PERI_CTRL c) (AUXSRC s.f0 + ENABLE)  -- 30 peripheral aux
row_of kind.UsbDivider c s = write (CLK_USB_DIV c) (INT c s.f0)  -- 31 USB divider
row_of kind.UsbControl c s = write (CLK_USB_CTRL c) (PHASE s.f0 + AUXSRC s.f1 + ENABLE)  -- 32 USB phase, aux
row_of kind.AdcDivider c s = write (CLK_ADC_DIV c) (INT c s.f0)  -- 33 ADC divider
row_of kind.AdcControl c s = write (CLK_ADC_CTRL c) (PHASE s.f0 + AUXSRC s.f1 + ENABLE)  -- 34 ADC phase, aux
row_of kind.RtcDivider c s = write CLK_RTC_DIV (field 8 24 s.f0 + field 0 8 s.f1)  -- 35 RTC divider
row_of kind.RtcControl c s = write CLK_RTC_CTRL (PHASE s.f0 + AUXSRC s.f1 + ENABLE)  -- 36 RTC phase, aux
row_of kind.Store c s = nothing  -- 37 store: clock, Hz
row_of kind.ChipMark c s = nothing  -- 38 chip mark: RP235x
row_of kind.TimerCycles c s = write TIMER0_CYCLES (CYCLES s.f0)  -- 39 timer cycles
row_of kind.TimerOn c s = write TIMER0_CTRL TICKS_ENABLE  -- 40 timer on
row_of kind.WatchdogCycles c s = write WATCHDOG_CYCLES (CYCLES s.f0)  -- 41 watchdog cycles
row_of kind.WatchdogOn c s = write WATCHDOG_CTRL TICKS_ENABLE  -- 42 watchdog on
row_of kind.Voltage235 c s = change POWMAN_VREG (bits 16 16 + bits 4 5) (VSEL_235 s.f0 + POWMAN_PASSWORD)  -- 43 voltage code of the RP235x
row_of kind.Brownout235 c s = write POWMAN_BOD (VSEL_235 s.f0 + BOD_EN + POWMAN_PASSWORD)  -- 44 brownout of the RP235x
row_of kind.SysDivider235 c s = write (CLK_SYS_DIV c) (field 16 16 s.f0 + field 0 16 s.f1)  -- 45 system divider of the RP235x
row_of (kind.Unknown number) c s = nothing

-- the kinds that a chip has: the RP2040 1 to 37, the RP235x 1 to 45 without 13, 15, 27, 29, 35 and 36
unfoldable pub has : Chip → Kind → Bool
has Rp2040 k = known k && leb (kind_number k) (kind_number kind.Store)
has Rp235x k =
    known k
    && (not (is k kind.Voltage) && (not (is k kind.Brownout) && (not (is k kind.Tick) && (not (is k kind.SysDivider)
    && (not (is k kind.RtcDivider) && not (is k kind.RtcControl))))))

-- the access of a step on a chip; refusal 20 where the chip has no step of this kind
unfoldable pub access_of : Chip → Step → Answer Access
access_of c s = pick (has c s.kind) (value (row_of s.kind c s)) (refusal 20)

-- the access of the step of an answer
abbrev pub access_for : Chip → Answer Step → Answer Access
access_for c (value s) = access_of c s
access_for c (refusal n) = refusal n

-- the access of the step at a position of a sheet; refusal 20 where there is no step of this chip
unfoldable pub access_at : Chip → List ℕ → ℕ → Answer Access
access_at c sheet position = access_for c (read_at sheet (8 * position))
