-- Inside: the parts of a sheet as the code reads them: a truncated value, and the steps after the part.
use Rattle.std.specs.Prelude.{Option, Some, ◌≡◌, List, ℕ, ◌-◌, drop}
use Rattle.config.specs.declared.{RoscConfig.RoscConfig, PeriClkSrc.PeriClkSrc, AuxClkConfig.AuxClkConfig}
use Rattle.config.specs.{declared.RefClkConfig.RefClkConfig, Codes.range_from}
use Rattle.chip.specs.{declared.Chip.Chip, declared.Chip.TheVariants.Rp2040, declared.Chip.TheVariants.Rp235x, Chips.facts_of}
use Rattle.pll.specs.declared.PllConfig.{PllConfig}
use Rattle.settings.specs.declared.Crystal.{Crystal}
use Rattle.readback.specs.declared.{oscillators.Voltage.Voltage as VoltageRead, clocks.Sys.Sys as SysRead}
use denote.Ref.{Bor}
use Rattle.step.specs.declared.Step.{Step}
use Rattle.sheet.specs.Read.{Part, part, Voltage, Sys, read_chip, read_ring, read_voltage, read_crystal, read_ref, past_tick}
use Rattle.sheet.specs.Read.{read_sys, read_peri, read_aux}
use Rattle.step.specs.declared.kind.Kind.TheVariants as kind

-- The value of a part, and the steps after it.
abbrev pub value_in : {A : Type 0} → Part A → A
value_in (part a rest) = a

abbrev pub rest_in : {A : Type 0} → Part A → List Step
rest_in (part a rest) = rest

-- A part with its value truncated.
abbrev pub cut_part : {A : Type 0} → (A → A) → Part A → Part A
cut_part cut (part a rest) = part (cut a) rest

-- Reading a part of the steps gives this truncated value and leaves these steps.
abbrev pub Reads : {A : Type 0} → (List Step → Part A) → (A → A) → List Step → A × Bor (List Step) → Type 0
Reads read cut s r = cut_part cut (read s) ≡ part r.0 r.1.now

-- The ring of its five steps.
abbrev pub ring_from : ℕ → Step → Step → Step → Step → Step → Option RoscConfig
ring_from pass a b divider range store =
    Some
    (record {
      hz = store.f1;
      range = range_from range.f0;
      drive_strength =
          record { s0 = a.f0; s1 = a.f1; s2 = a.f2; s3 = a.f3; s4 = b.f0; s5 = b.f1; s6 = b.f2; s7 = b.f3 };
      div = divider.f0 - pass;
    })

-- The PLL of its reference, feedback and post steps.
abbrev pub pll_from : Step → Step → Step → Option PllConfig
pll_from reference feedback posts =
    Some
    (record { refdiv = reference.f1; fbdiv = feedback.f1; post_div1 = posts.f1; post_div2 = posts.f2 })

-- The number of steps of the tick.
abbrev pub ticks : Chip → ℕ
ticks Rp2040 = 1
ticks Rp235x = 4

-- The voltage and the system clock of the code's records.
abbrev pub voltage_at : VoltageRead → Voltage
voltage_at r = record { code = r.code; settling = r.settling }

abbrev pub sys_at : SysRead → Sys
sys_at r = record { src = r.src; whole = r.whole; fraction = r.fraction }

-- The parts of a sheet's steps in turn, each from the end of the previous one.

unfoldable pub chip_taken : List Step → Part Chip
chip_taken xs = read_chip xs

unfoldable pub ring_taken : List Step → Part (Option RoscConfig)
ring_taken xs = read_ring (facts_of (value_in (chip_taken xs))).pass (drop 9 (rest_in (chip_taken xs)))

unfoldable pub voltage_taken : ℕ → List Step → Part Voltage
voltage_taken reading xs = read_voltage (facts_of (value_in (chip_taken xs))).voltage reading (rest_in (ring_taken xs))

unfoldable pub crystal_taken : ℕ → List Step → Part (Option Crystal)
crystal_taken reading xs = read_crystal (rest_in (voltage_taken reading xs))

unfoldable pub ref_taken : ℕ → List Step → Part RefClkConfig
ref_taken reading xs = read_ref (drop 3 (rest_in (crystal_taken reading xs)))

unfoldable pub sys_taken : ℕ → List Step → Part Sys
sys_taken reading xs = read_sys (past_tick (value_in (chip_taken xs)) (rest_in (ref_taken reading xs)))

unfoldable pub peri_taken : ℕ → List Step → Part (Option PeriClkSrc)
peri_taken reading xs = read_peri (rest_in (sys_taken reading xs))

unfoldable pub usb_taken : ℕ → List Step → Part (Option AuxClkConfig)
usb_taken reading xs = read_aux kind.UsbDivider (rest_in (peri_taken reading xs))

unfoldable pub adc_taken : ℕ → List Step → Part (Option AuxClkConfig)
adc_taken reading xs = read_aux kind.AdcDivider (rest_in (usb_taken reading xs))
