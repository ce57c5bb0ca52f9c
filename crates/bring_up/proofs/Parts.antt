-- In each part of a sheet every step is one of the chip, and the part changes only its own registers; both follow
-- from the kinds of its steps. They compute once the chip and each choice are given: a last clause that only has names
-- stands for the cases that no clause above it has.
use Rattle.std.specs.Prelude.{Option, Some, None, Bool, true, false, ◌≡◌, refl, List, [], ◌∷◌, ◌++◌, ℕ, eqb}
use Rattle.base.specs.Choice.{pick}
use Rattle.chip.specs.{declared.Chip.Chip, declared.Chip.TheVariants.Rp2040, declared.Chip.TheVariants.Rp235x, Chips.facts_of}
use Rattle.step.specs.declared.Step.{Step}
use Rattle.config.specs.Codes.{sys_select, sys_aux}
use Rattle.config.specs.declared.{RefClkConfig.RefClkConfig, SysClkSrc.SysClkSrc, ChipSettings.ChipSettings, PeriClkSrc.PeriClkSrc}
use Rattle.config.specs.declared.{AuxClkConfig.AuxClkConfig, RoscConfig.RoscConfig, RtcClkConfig.RtcClkConfig}
use Rattle.pll.specs.declared.PllConfig.{PllConfig}
use Rattle.settings.specs.declared.{Crystal.Crystal, Sources.Sources}
use Rattle.registers.specs.Map.{on, RESET, CLK_SYS_RESUS_CTRL, CLK_REF_CTRL, CLK_REF_DIV, CLK_SYS_CTRL, CLK_SYS_DIV, CLK_PERI_CTRL}
use Rattle.registers.specs.Map.{CLK_USB_CTRL, CLK_USB_DIV, CLK_ADC_CTRL, CLK_ADC_DIV, CLK_RTC_CTRL, CLK_RTC_DIV, XOSC_CTRL}
use Rattle.registers.specs.Map.{XOSC_STARTUP, ROSC_CTRL, ROSC_FREQA, ROSC_FREQB, ROSC_DIV, PLL_CS, PLL_PWR, PLL_FBDIV_INT, PLL_PRIM}
use Rattle.registers.specs.Map.{VREG, BOD, WATCHDOG_TICK, POWMAN_VREG, POWMAN_BOD, TIMER0_CTRL, TIMER0_CYCLES, WATCHDOG_CTRL}
use Rattle.registers.specs.Map.{WATCHDOG_CYCLES}
use Rattle.registers.specs.{declared.Access.Access, Access.has, Access.access_of}
use Rattle.sheet.specs.Steps.{mark_steps, head_part, ring_part, settling_steps, voltage_part, pll_steps, crystal_part, source_part}
use Rattle.sheet.specs.Steps.{ref_part, switch_steps, sys_part, peri_part, aux_part, rtc_part, last_part, step0, step1, step2}
use Rattle.sheet.specs.Steps.{store_step}
use Rattle.bring_up.specs.{Carried.carries, ClockWaits.all_waits}
use Rattle.bring_up.proofs.Addresses.{within, reach}
use Rattle.step.specs.declared.kind.Kind.TheVariants as kind

pub record On (c : Chip) (own : List ℕ) (xs : List Step) : Type 0 where
  pub all : carries c xs ≡ true
  pub inside : within (reach c xs) own ≡ true

-- a part without a wait, for which any test at waits holds
pub record Calm (c : Chip) (own : List ℕ) (xs : List Step) : Type 0 where
  pub on : On c own xs
  pub calm : (test : Access → (ℕ → ℕ) → Bool) (file : ℕ → ℕ) → all_waits c test xs file ≡ true

-- what a clause below proves, each by computation
calm_of : {c : Chip} {own : List ℕ} {xs : List Step} → carries c xs ≡ true → within (reach c xs) own ≡ true
    → ((test : Access → (ℕ → ℕ) → Bool) (file : ℕ → ℕ) → all_waits c test xs file ≡ true) → Calm c own xs
calm_of all inside calm = record { on = record { all = all; inside = inside }; calm = calm }

-- USB and ADC differ in their registers, in the kinds of their steps and in the clock of their store
pub data Aux : Type 0 where
  Usb : Aux
  Adc : Aux

abbrev pub aux_control : Chip → Aux → ℕ
aux_control c Usb = CLK_USB_CTRL c
aux_control c Adc = CLK_ADC_CTRL c

abbrev pub aux_divider : Chip → Aux → ℕ
aux_divider c Usb = CLK_USB_DIV c
aux_divider c Adc = CLK_ADC_DIV c

abbrev pub aux_of : Aux → ℕ → Option AuxClkConfig → List Step
aux_of Usb hz o = aux_part kind.UsbDivider kind.UsbControl 7 hz o
aux_of Adc hz o = aux_part kind.AdcDivider kind.AdcControl 8 hz o

-- the registers of each part
abbrev pub head_own : Chip → List ℕ
head_own c = RESET c ∷ PLL_PWR c 0 ∷ PLL_PWR c 1 ∷ CLK_SYS_RESUS_CTRL c ∷ CLK_SYS_CTRL c ∷ CLK_REF_CTRL c ∷ []

abbrev pub ring_own : Chip → List ℕ
ring_own c = ROSC_FREQA c ∷ ROSC_FREQB c ∷ ROSC_DIV c ∷ ROSC_CTRL c ∷ []

abbrev pub voltage_own : Chip → List ℕ
voltage_own c = on c VREG POWMAN_VREG ∷ on c BOD POWMAN_BOD ∷ []

abbrev pub pll_own : Chip → ℕ → List ℕ
pll_own c w = PLL_CS c w ∷ PLL_PWR c w ∷ PLL_FBDIV_INT c w ∷ PLL_PRIM c w ∷ []

abbrev pub crystal_own : Chip → List ℕ
crystal_own c = XOSC_STARTUP c ∷ XOSC_CTRL c ∷ (pll_own c 0 ++ pll_own c 1)

abbrev pub ref_own : Chip → List ℕ
ref_own c =
    CLK_REF_CTRL c ∷ CLK_REF_DIV c ∷ WATCHDOG_TICK ∷ TIMER0_CTRL ∷ TIMER0_CYCLES ∷ WATCHDOG_CTRL ∷ WATCHDOG_CYCLES ∷ []

abbrev pub sys_own : Chip → List ℕ
sys_own c = CLK_SYS_CTRL c ∷ CLK_SYS_DIV c ∷ []

abbrev pub peri_own : Chip → List ℕ
peri_own c = CLK_PERI_CTRL c ∷ []

abbrev pub aux_own : Aux → Chip → List ℕ
aux_own k c = aux_control c k ∷ aux_divider c k ∷ []

abbrev pub rtc_own : Chip → List ℕ
rtc_own c = CLK_RTC_CTRL ∷ CLK_RTC_DIV ∷ []

abbrev pub last_own : Chip → List ℕ
last_own c = RESET c ∷ PLL_PWR c 0 ∷ PLL_PWR c 1 ∷ []

abbrev pub owns : Chip → List (List ℕ)
owns c =
    []
    ∷ head_own c
    ∷ ring_own c
    ∷ voltage_own c
    ∷ crystal_own c
    ∷ []
    ∷ ref_own c
    ∷ sys_own c
    ∷ peri_own c
    ∷ aux_own Usb c
    ∷ aux_own Adc c
    ∷ rtc_own c
    ∷ last_own c
    ∷ []

pub mark : (c : Chip) → Calm c [] (mark_steps c)
unfolding access_of has
mark Rp2040 = calm_of refl refl (λ test file. refl)
mark Rp235x = calm_of refl refl (λ test file. refl)

pub head : (c : Chip) → On c (head_own c) (head_part c)
unfolding access_of has head_part
head Rp2040 = record { all = refl; inside = refl }
head Rp235x = record { all = refl; inside = refl }

pub ring : (c : Chip) (pass : ℕ) (r : Option RoscConfig) → Calm c (ring_own c) (ring_part pass r)
unfolding access_of has ring_part
ring Rp2040 pass (Some r) = calm_of refl refl (λ test file. refl)
ring Rp235x pass (Some r) = calm_of refl refl (λ test file. refl)
ring c pass r = calm_of refl refl (λ test file. refl)

-- a voltage that changes
abbrev pub changed : Chip → ChipSettings → Option ℕ → List Step
changed c b settling =
    step1 (facts_of c).voltage b.volts.code ∷ (settling_steps settling ++ (step1 (facts_of c).brownout b.volts.brownout ∷ []))

voltage-of : (c : Chip) (b : ChipSettings) (same : Bool) (settling : Option ℕ)
    → Calm c (voltage_own c) (pick same [] (changed c b settling))
unfolding access_of has
voltage-of Rp2040 b false (Some n) = calm_of refl refl (λ test file. refl)
voltage-of Rp235x b false (Some n) = calm_of refl refl (λ test file. refl)
voltage-of c b same settling = calm_of refl refl (λ test file. refl)

pub voltage : (reading : ℕ) (b : ChipSettings) (settling : Option ℕ)
    → Calm b.model (voltage_own b.model) (voltage_part reading b settling)
unfolding voltage_part
voltage reading b settling = voltage-of b.model b (eqb b.volts.code reading) settling

-- a crystal's part, by its PLLs
abbrev pub crystal_steps : ℕ → Option PllConfig → Option PllConfig → List Step
crystal_steps delay a b =
    step1 kind.Startup delay ∷ step0 kind.CrystalOn ∷ step0 kind.WaitStable ∷ (pll_steps 0 a ++ pll_steps 1 b)

crystal-of : (c : Chip) (delay : ℕ) (a b : Option PllConfig) → On c (crystal_own c) (crystal_steps delay a b)
unfolding access_of has
crystal-of Rp2040 delay (Some p) (Some q) = record { all = refl; inside = refl }
crystal-of Rp2040 delay None (Some q) = record { all = refl; inside = refl }
crystal-of Rp235x delay (Some p) (Some q) = record { all = refl; inside = refl }
crystal-of Rp235x delay None (Some q) = record { all = refl; inside = refl }
crystal-of c delay a b = record { all = refl; inside = refl }

pub crystal : (c : Chip) (x : Option Crystal) → On c (crystal_own c) (crystal_part x)
unfolding crystal_part
crystal c (Some x) = crystal-of c x.delay x.sys x.usb
crystal c None = record { all = refl; inside = refl }

pub source : (c : Chip) (f : Sources) → Calm c [] (source_part f)
unfolding access_of has
source Rp2040 f = calm_of refl refl (λ test file. refl)
source Rp235x f = calm_of refl refl (λ test file. refl)

pub reference : (c : Chip) (hz : ℕ) (r : RefClkConfig) → On c (ref_own c) (ref_part c hz r)
unfolding access_of has
reference Rp2040 hz r = record { all = refl; inside = refl }
reference Rp235x hz r = record { all = refl; inside = refl }

-- the system part, by whether its source is the reference clock
abbrev pub system_steps : Chip → Bool → ℕ → ℕ → ℕ → ℕ → ℕ → List Step
system_steps c same hz aux select whole fraction =
    store_step 5 hz
    ∷ (pick same [] (step2 kind.SysControl 0 0 ∷ step1 kind.WaitSys 0 ∷ [])
    ++ (step2 kind.SysControl aux select ∷ step1 kind.WaitSys select ∷ step2 (facts_of c).divider whole fraction ∷ []))

system-of : (c : Chip) (same : Bool) (hz aux select whole fraction : ℕ)
    → On c (sys_own c) (system_steps c same hz aux select whole fraction)
unfolding access_of has
system-of Rp2040 true hz aux select whole fraction = record { all = refl; inside = refl }
system-of Rp235x true hz aux select whole fraction = record { all = refl; inside = refl }
system-of c same hz aux select whole fraction = record { all = refl; inside = refl }

pub system : (b : ChipSettings) (hz : ℕ) (src : SysClkSrc) → On b.model (sys_own b.model) (sys_part b hz src)
unfolding sys_part switch_steps
system b hz src = system-of b.model (eqb (sys_select src) 0) hz (sys_aux src) (sys_select src) b.whole b.fraction

pub peri : (c : Chip) (hz : ℕ) (o : Option PeriClkSrc) → Calm c (peri_own c) (peri_part hz o)
unfolding access_of has peri_part
peri Rp2040 hz (Some src) = calm_of refl refl (λ test file. refl)
peri Rp235x hz (Some src) = calm_of refl refl (λ test file. refl)
peri c hz o = calm_of refl refl (λ test file. refl)

pub aux : (c : Chip) (k : Aux) (hz : ℕ) (o : Option AuxClkConfig) → Calm c (aux_own k c) (aux_of k hz o)
unfolding access_of has aux_part
aux Rp2040 Usb hz (Some a) = calm_of refl refl (λ test file. refl)
aux Rp2040 Adc hz (Some a) = calm_of refl refl (λ test file. refl)
aux Rp235x Usb hz (Some a) = calm_of refl refl (λ test file. refl)
aux Rp235x Adc hz (Some a) = calm_of refl refl (λ test file. refl)
aux c k hz o = calm_of refl refl (λ test file. refl)

pub rtc : (c : Chip) (hz : ℕ) (o : Option RtcClkConfig) → Calm c (rtc_own c) (rtc_part c hz o)
unfolding access_of has rtc_part
rtc Rp2040 hz (Some r) = calm_of refl refl (λ test file. refl)
rtc Rp2040 hz None = calm_of refl refl (λ test file. refl)
rtc Rp235x hz o = calm_of refl refl (λ test file. refl)

pub last : (c : Chip) (mask : ℕ) → On c (last_own c) (last_part mask)
unfolding access_of has
last Rp2040 mask = record { all = refl; inside = refl }
last Rp235x mask = record { all = refl; inside = refl }
