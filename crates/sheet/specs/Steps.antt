-- The steps of a sheet, part by part (docs/FORMAT.md, Order of a sheet). The numbers in the comments are kinds of steps.
use Rattle.std.specs.Prelude.{Option, Some, None, ℕ, ◌+◌, ◌-◌, ◌/◌, ◌%◌, List, [], ◌∷◌, ◌++◌, eqb, get_or}
use Rattle.config.specs.Codes.{range_code, ref_code, sys_select, sys_aux, peri_aux, aux_code}
use Rattle.config.specs.declared.{RoscConfig.RoscConfig, RefClkConfig.RefClkConfig, SysClkSrc.SysClkSrc, ChipSettings.ChipSettings}
use Rattle.config.specs.declared.{PeriClkSrc.PeriClkSrc, AuxClkConfig.AuxClkConfig, RtcClkConfig.RtcClkConfig}
use Rattle.base.specs.Choice.{pick}
use Rattle.chip.specs.{declared.Chip.Chip, declared.Chip.TheVariants.Rp2040, declared.Chip.TheVariants.Rp235x, Chips.facts_of}
use Rattle.step.specs.{declared.Step.Step, Steps.step_of, Sheet.max_steps, declared.kind.Kind.Kind}
use Rattle.pll.specs.declared.PllConfig.{PllConfig}
use Rattle.settings.specs.declared.{Crystal.Crystal, Settings.Settings, Sources.Sources}
use Rattle.settings.specs.{declared.Frequencies.Frequencies, Settings.ring_hz, Frequencies.frequencies_of}
use Rattle.step.specs.declared.kind.Kind.TheVariants as kind

-- A step of a kind with these fields, of which it has up to five.
abbrev pub step_with : Kind → List ℕ → Step
step_with k fields =
    step_of k (get_or fields 0 0) (get_or fields 1 0) (get_or fields 2 0) (get_or fields 3 0) (get_or fields 4 0)

-- A step of a kind with fewer than five fields.
abbrev pub step4 : Kind → ℕ → ℕ → ℕ → ℕ → Step
step4 k a b c d = step_of k a b c d 0

abbrev pub step3 : Kind → ℕ → ℕ → ℕ → Step
step3 k a b c = step_of k a b c 0 0

abbrev pub step2 : Kind → ℕ → ℕ → Step
step2 k a b = step_of k a b 0 0 0

abbrev pub step1 : Kind → ℕ → Step
step1 k a = step_of k a 0 0 0 0

abbrev pub step0 : Kind → Step
step0 k = step_of k 0 0 0 0 0

-- Stores the frequency of a clock.
abbrev pub store_step : ℕ → ℕ → Step
store_step clock hz = step2 kind.Store clock hz

-- A sheet of the RP235x starts with 38.
abbrev pub mark_steps : Chip → List Step
mark_steps Rp2040 = []
mark_steps Rp235x = step0 kind.ChipMark ∷ []

-- The head is 1, 4, 5(0), 6(0), 7(0), 8(0), 1, 2, 3. The first 1 has the mask of the first reset, the last three that of the
-- PLLs.
unfoldable pub head_part : Chip → List Step
head_part chip =
    step1 kind.Reset (facts_of chip).first
    ∷ step0 kind.ResusOff
    ∷ step1 kind.SysSource 0
    ∷ step1 kind.WaitSys 0
    ∷ step1 kind.RefSource 0
    ∷ step1 kind.WaitRef 0
    ∷ step1 kind.Reset (facts_of chip).plls
    ∷ step1 kind.Release (facts_of chip).plls
    ∷ step1 kind.WaitReleased (facts_of chip).plls
    ∷ []

-- With a ring there are 9 to 12: strengths, divider plus pass value, range.
abbrev pub ring_steps : ℕ → Option RoscConfig → List Step
ring_steps pass (Some r) =
    step4 kind.Strengths0To3 r.drive_strength.s0 r.drive_strength.s1
    r.drive_strength.s2 r.drive_strength.s3
    ∷ step4 kind.Strengths4To7 r.drive_strength.s4 r.drive_strength.s5
    r.drive_strength.s6 r.drive_strength.s7
    ∷ step1 kind.RingDivider (r.div + pass)
    ∷ step1 kind.RingOn (range_code r.range)
    ∷ []
ring_steps pass None = []

-- The ring part ends with the store of `rosc`.
unfoldable pub ring_part : ℕ → Option RoscConfig → List Step
ring_part pass r = ring_steps pass r ++ (store_step 0 (ring_hz r) ∷ [])

-- The settling step is 14.
abbrev pub settling_steps : Option ℕ → List Step
settling_steps (Some n) = step1 kind.Delay n ∷ []
settling_steps None = []

-- Where the voltage code differs from the reading there is 13, then 14 unless the settling time is 0, then 15. The RP235x has 43
-- and 44 instead of 13 and 15.
unfoldable pub voltage_part : ℕ → ChipSettings → Option ℕ → List Step
voltage_part reading c settling =
    pick (eqb c.volts.code reading) []
    (step1 (facts_of c.model).voltage c.volts.code
    ∷ (settling_steps settling ++ (step1 (facts_of c.model).brownout c.volts.brownout ∷ [])))

-- A PLL that is present has 19(W, 1, 1, 1, 1), 14(10), 20, 21, 19(W, 0, 0, 1, 1), 22, 23, 24, 14(100); W is 0 for the system PLL,
-- 1 for the USB PLL.
abbrev pub pll_steps : ℕ → Option PllConfig → List Step
pll_steps which (Some p) =
    step_of kind.PllPower which 1 1 1 1
    ∷ step1 kind.Delay 10
    ∷ step2 kind.PllReference which p.refdiv
    ∷ step2 kind.PllFeedback which p.fbdiv
    ∷ step_of kind.PllPower which 0 0 1 1
    ∷ step1 kind.WaitLock which
    ∷ step3 kind.PllPosts which p.post_div1 p.post_div2
    ∷ step1 kind.PllPostOn which
    ∷ step1 kind.Delay 100
    ∷ []
pll_steps which None = []

-- With a crystal there are 16, 17, 18, then the PLLs, the system PLL first.
unfoldable pub crystal_part : Option Crystal → List Step
crystal_part (Some x) =
    step1 kind.Startup x.delay
    ∷ step0 kind.CrystalOn
    ∷ step0 kind.WaitStable
    ∷ (pll_steps 0 x.sys ++ pll_steps 1 x.usb)
crystal_part None = []

-- The stores of `xosc`, `pll_sys` and `pll_usb`.
abbrev pub source_part : Sources → List Step
source_part f = store_step 1 f.xosc ∷ store_step 2 f.pll_sys ∷ store_step 3 f.pll_usb ∷ []

-- The tick is 27, on the RP235x 39 to 42.
abbrev pub tick_steps : Chip → ℕ → List Step
tick_steps Rp2040 mhz = step1 kind.Tick mhz ∷ []
tick_steps Rp235x mhz =
    step1 kind.TimerCycles mhz
    ∷ step0 kind.TimerOn
    ∷ step1 kind.WatchdogCycles mhz
    ∷ step0 kind.WatchdogOn
    ∷ []

-- The store of `ref`, then 25, 8, 26 and the tick, whose cycles are the reference's MHz rounded down. The divider field has two
-- bits and holds 4 as 0.
abbrev pub ref_part : Chip → ℕ → RefClkConfig → List Step
ref_part chip hz c =
    store_step 4 hz
    ∷ step1 kind.RefControl (ref_code c.src)
    ∷ step1 kind.WaitRef (ref_code c.src)
    ∷ step1 kind.RefDivider (c.div % 4)
    ∷ tick_steps chip (hz / 1000000)

-- Before the aux source changes, 28(0, 0) and 6(0) select the reference clock; they are absent where it is the source.
unfoldable pub switch_steps : ℕ → List Step
switch_steps select = pick (eqb select 0) [] (step2 kind.SysControl 0 0 ∷ step1 kind.WaitSys 0 ∷ [])

-- The store of `sys`, the switch, then 28, 6 and 29; the RP235x has 45 instead of 29.
unfoldable pub sys_part : ChipSettings → ℕ → SysClkSrc → List Step
sys_part c hz src =
    store_step 5 hz
    ∷ (switch_steps (sys_select src)
    ++ (step2 kind.SysControl (sys_aux src) (sys_select src)
    ∷ step1 kind.WaitSys (sys_select src)
    ∷ step2 (facts_of c.model).divider c.whole c.fraction
    ∷ []))

-- A peripheral clock that is present has 30.
abbrev pub peri_steps : Option PeriClkSrc → List Step
peri_steps (Some src) = step1 kind.PeriControl (peri_aux src) ∷ []
peri_steps None = []

-- The peripheral part ends with the store of `peri`.
unfoldable pub peri_part : ℕ → Option PeriClkSrc → List Step
peri_part hz o = peri_steps o ++ (store_step 6 hz ∷ [])

-- USB and ADC each have a kind for the divider, a field of two bits, and a kind for phase and source.
abbrev pub aux_steps : Kind → Kind → Option AuxClkConfig → List Step
aux_steps divider control (Some a) = step1 divider (a.div % 4) ∷ step2 control a.phase (aux_code a.src) ∷ []
aux_steps divider control None = []

-- USB has 31, 32 and its store; ADC has 33, 34 and its store.
unfoldable pub aux_part : Kind → Kind → ℕ → ℕ → Option AuxClkConfig → List Step
aux_part divider control clock hz o = aux_steps divider control o ++ (store_step clock hz ∷ [])

-- An RTC that is present has 35 and 36.
abbrev pub rtc_steps : Option RtcClkConfig → List Step
rtc_steps (Some r) =
    step2 kind.RtcDivider r.div_int r.div_frac
    ∷ step2 kind.RtcControl r.phase (aux_code r.src)
    ∷ []
rtc_steps None = []

-- The RTC part ends with the store of `rtc`; the RP235x has no RTC part.
unfoldable pub rtc_part : Chip → ℕ → Option RtcClkConfig → List Step
rtc_part Rp2040 hz o = rtc_steps o ++ (store_step 9 hz ∷ [])
rtc_part Rp235x hz o = []

-- The reset bits that the last release leaves out where a clock is absent (docs/FORMAT.md, Masks).
abbrev pub bits_without : {A : Type 0} → ℕ → Option A → ℕ
bits_without bits (Some clock) = 0
bits_without bits None = bits

-- The mask of the last release is the chip's without the bits of absent clocks.
unfoldable pub release_mask : Chip → Option PeriClkSrc → Option AuxClkConfig → Option AuxClkConfig → Option RtcClkConfig → ℕ
release_mask chip p u a r =
    let k = facts_of chip in
    k.last - (bits_without k.peri p + bits_without k.usb u + bits_without k.adc a + bits_without k.rtc r)

-- The sheet ends with 2 and 3 of this mask.
abbrev pub last_part : ℕ → List Step
last_part mask = step1 kind.Release mask ∷ step1 kind.WaitReleased mask ∷ []

-- The parts from the stores of the sources on.
unfoldable pub clocks_part : Settings → Frequencies → List Step
clocks_part s f =
    source_part f.sources
    ++ (ref_part s.chip.model f.reference s.reference
    ++ (sys_part s.chip f.sys s.sys
    ++ (peri_part f.peri s.peri
    ++ (aux_part kind.UsbDivider kind.UsbControl 7 f.usb s.usb
    ++ (aux_part kind.AdcDivider kind.AdcControl 8 f.adc s.adc
    ++ (rtc_part s.chip.model f.rtc s.chip.rtc
    ++ last_part (release_mask s.chip.model s.peri s.usb s.adc s.chip.rtc)))))))

-- All steps of the sheet.
unfoldable pub steps_of : ℕ → Settings → List Step
steps_of reading s =
    mark_steps s.chip.model
    ++ (head_part s.chip.model
    ++ (ring_part (facts_of s.chip.model).pass s.rosc
    ++ (voltage_part reading s.chip s.settling
    ++ (crystal_part s.xosc
    ++ clocks_part s (frequencies_of s)))))

-- The greatest number of steps of a sheet for this chip.
abbrev pub most_steps : Chip → ℕ
most_steps Rp2040 = 65
most_steps Rp235x = max_steps
