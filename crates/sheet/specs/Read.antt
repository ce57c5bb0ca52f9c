-- Inside: the settings of a sheet's steps, read part by part in the order of the sheet. The definitions give settings for any list of
-- steps; for the steps of a plan these are the plan's settings, as `settings-back` shows.
use Rattle.std.specs.Prelude.{Option, Some, None, ℕ, ◌-◌, ◌&&◌, List, get_or, drop, eqb}
use Rattle.config.specs.Codes.{range_from, ref_from, sys_from, peri_from, aux_from, div_from, chip_from}
use Rattle.config.specs.declared.{PeriClkSrc.PeriClkSrc, AuxClkConfig.AuxClkConfig, RtcClkConfig.RtcClkConfig}
use Rattle.config.specs.declared.{RefClkConfig.RefClkConfig, SysClkSrc.SysClkSrc, RoscConfig.RoscConfig}
use Rattle.config.specs.ChipSettings.{chip_of}
use Rattle.base.specs.Choice.{pick}
use Rattle.chip.specs.{declared.Chip.Chip, declared.Chip.TheVariants.Rp2040, declared.Chip.TheVariants.Rp235x, Chips.facts_of}
use Rattle.step.specs.{declared.Step.Step, Kinds.is, declared.kind.Kind.Kind}
use Rattle.pll.specs.declared.PllConfig.{PllConfig}
use Rattle.settings.specs.declared.{Crystal.Crystal, Settings.Settings}
use Rattle.sheet.specs.Steps.{step0}
use Rattle.step.specs.declared.kind.Kind.TheVariants as kind

-- The setting that a part of a sheet gives, and the steps after the part.
pub data Part (A : Type 0) : Type 0 where
  part : A → List Step → Part A

-- Continues with the steps after a part.
infixl 5 ◌then◌
abbrev pub ◌then◌ : {A B : Type 0} → Part A → (A → List Step → B) → B
part a rest then f = f a rest

-- Step i of a list; past the end it is a step of kind 0, which no sheet has.
abbrev pub step_at : List Step → ℕ → Step
step_at xs i = get_or xs i (step0 (kind.Unknown 0))

-- A first step of kind 38 means the RP235x.
abbrev pub read_chip : List Step → Part Chip
read_chip xs = pick (is (step_at xs 0).kind kind.ChipMark) (part Rp235x (drop 1 xs)) (part Rp2040 xs)

-- With a ring the part has 9 to 12 and the store, else only the store; `pass` is the chip's pass value.
abbrev pub read_ring : ℕ → List Step → Part (Option RoscConfig)
read_ring pass xs =
    pick (is (step_at xs 0).kind kind.Strengths0To3)
    (part
    (Some
    (record {
      hz = (step_at xs 4).f1;
      range = range_from (step_at xs 3).f0;
      drive_strength =
          record {
            s0 = (step_at xs 0).f0;
            s1 = (step_at xs 0).f1;
            s2 = (step_at xs 0).f2;
            s3 = (step_at xs 0).f3;
            s4 = (step_at xs 1).f0;
            s5 = (step_at xs 1).f1;
            s6 = (step_at xs 1).f2;
            s7 = (step_at xs 1).f3;
          };
      div = (step_at xs 2).f0 - pass;
    }))
    (drop 5 xs))
    (part None (drop 1 xs))

-- The voltage code and the settling step.
pub record Voltage : Type 0 where
  pub code : ℕ
  pub settling : Option ℕ

-- The part has 13, 14 if the voltage settles, and 15; without 13 the code is the reading. `voltage` is the chip's kind, 13 or 43.
abbrev pub read_voltage : Kind → ℕ → List Step → Part Voltage
read_voltage voltage reading xs =
    pick (is (step_at xs 0).kind voltage)
    (pick (is (step_at xs 1).kind kind.Delay)
    (part (record { code = (step_at xs 0).f0; settling = Some (step_at xs 1).f0 }) (drop 3 xs))
    (part (record { code = (step_at xs 0).f0; settling = None }) (drop 2 xs)))
    (part (record { code = reading; settling = None }) xs)

-- A PLL that is present has nine steps from 19 on; `which` is 0 for the system PLL, 1 for the USB PLL.
abbrev pub read_pll : ℕ → List Step → Part (Option PllConfig)
read_pll which xs =
    pick (is (step_at xs 0).kind kind.PllPower && eqb (step_at xs 0).f0 which)
    (part
    (Some
    (record {
      refdiv = (step_at xs 2).f1;
      fbdiv = (step_at xs 3).f1;
      post_div1 = (step_at xs 6).f1;
      post_div2 = (step_at xs 6).f2;
    }))
    (drop 9 xs))
    (part None xs)

-- The part has 16 to 18 and the PLLs. The crystal's Hz are read from the store after it, which belongs to the next part.
abbrev pub read_crystal : List Step → Part (Option Crystal)
read_crystal xs =
    pick (is (step_at xs 0).kind kind.Startup)
    (read_pll 0 (drop 3 xs) then λ sys ys.
    read_pll 1 ys then λ usb zs.
    part (Some (record { hz = (step_at zs 0).f1; delay = (step_at xs 0).f0; sys = sys; usb = usb })) zs)
    (part None xs)

-- The part has the store, 25, 8 and 26; the tick follows.
abbrev pub read_ref : List Step → Part RefClkConfig
read_ref xs = part (record { src = ref_from (step_at xs 1).f0; div = div_from (step_at xs 3).f0 }) (drop 4 xs)

-- The steps after the tick, which is 27 or, on the RP235x, 39 to 42.
abbrev pub past_tick : Chip → List Step → List Step
past_tick Rp2040 xs = drop 1 xs
past_tick Rp235x xs = drop 4 xs

-- The source and the divider of the system clock.
pub record Sys : Type 0 where
  pub src : SysClkSrc
  pub whole : ℕ
  pub fraction : ℕ

-- The part has the store, 28, 6, a second 28 and 6 unless the source is the reference clock, and the divider.
abbrev pub read_sys : List Step → Part Sys
read_sys xs =
    pick (is (step_at xs 3).kind kind.SysControl)
    (part (record { src = sys_from (step_at xs 3).f0; whole = (step_at xs 5).f0; fraction = (step_at xs 5).f1 }) (drop 6 xs))
    (part (record { src = SysClkSrc.Ref; whole = (step_at xs 3).f0; fraction = (step_at xs 3).f1 }) (drop 4 xs))

-- A peripheral clock that is present has 30 and the store, an absent one only the store.
abbrev pub read_peri : List Step → Part (Option PeriClkSrc)
read_peri xs =
    pick (is (step_at xs 0).kind kind.PeriControl)
    (part (Some (peri_from (step_at xs 0).f0)) (drop 2 xs))
    (part None (drop 1 xs))

-- USB has 31 and 32, ADC 33 and 34, and the store; an absent clock has only the store.
abbrev pub read_aux : Kind → List Step → Part (Option AuxClkConfig)
read_aux divider xs =
    pick (is (step_at xs 0).kind divider)
    (part
    (Some (record { src = aux_from (step_at xs 1).f1; div = div_from (step_at xs 0).f0; phase = (step_at xs 1).f0 }))
    (drop 3 xs))
    (part None (drop 1 xs))

-- An RTC that is present has 35 and 36.
abbrev pub read_rtc : List Step → Option RtcClkConfig
read_rtc xs =
    pick (is (step_at xs 0).kind kind.RtcDivider)
    (Some
    (record {
      src = aux_from (step_at xs 1).f1;
      div_int = (step_at xs 0).f0;
      div_frac = (step_at xs 0).f1;
      phase = (step_at xs 1).f0;
    }))
    None

-- All parts in turn; the nine steps of the head and the stores of `xosc`, `pll_sys` and `pll_usb` are skipped.
unfoldable pub settings_from : ℕ → List Step → Settings
settings_from reading xs =
    read_chip xs then λ chip xs.
    read_ring (facts_of chip).pass (drop 9 xs) then λ rosc xs.
    read_voltage (facts_of chip).voltage reading xs then λ v xs.
    read_crystal xs then λ xosc xs.
    read_ref (drop 3 xs) then λ reference xs.
    read_sys (past_tick chip xs) then λ sys xs.
    read_peri xs then λ peri xs.
    read_aux kind.UsbDivider xs then λ usb xs.
    read_aux kind.AdcDivider xs then λ adc xs.
    record {
      chip = chip_of (chip_from chip v.code sys.whole sys.fraction (read_rtc xs));
      rosc = rosc;
      xosc = xosc;
      settling = v.settling;
      reference = reference;
      sys = sys.src;
      peri = peri;
      usb = usb;
      adc = adc;
    }
