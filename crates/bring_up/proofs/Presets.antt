-- The registers after the sheets of the crystal presets at reading 11, from any values before: every register that
-- the sheet touches, by its address.
use Rattle.std.specs.Prelude.{◌≡◌, refl, List, [], ◌∷◌, map, ℕ}
use Rattle.chip.specs.declared.Chip.{Chip, TheVariants.Rp2040, TheVariants.Rp235x}
use Rattle.divider.specs.{Delay.startup_sum, Delay.cycles_per_us, Delay.settling_cycles, Clock.divided_hz}
use Rattle.config.specs.Presets.{crystal_plan}
use Rattle.settings.specs.Settings.{settling_step, settings_of}
use Rattle.settings.specs.Frequencies.{pll_hz, sources_of, ref_hz, sys_hz}
use Rattle.registers.specs.Access.{has, access_of}
use Rattle.sheet.specs.Steps.{head_part, ring_part, voltage_part, crystal_part, switch_steps, sys_part, peri_part, aux_part}
use Rattle.sheet.specs.Steps.{rtc_part, release_mask, clocks_part, steps_of}
use Rattle.bring_up.specs.Machine.{carried_out}

-- address and value: 125 MHz from 12 MHz on the RP2040, 150 MHz from 12 MHz on the RP235x
abbrev pub crystal_leaves : Chip → (ℕ → ℕ) → List (ℕ × ℕ)
crystal_leaves Rp2040 before =
    (0x4000C000, 0)  -- RESET
    ∷ (0x40008030, 2) ∷ (0x40008034, 0x100)  -- CLK_REF_CTRL, DIV
    ∷ (0x4000803C, 1) ∷ (0x40008040, 0x100)  -- CLK_SYS_CTRL, DIV
    ∷ (0x40008048, 0x800)  -- CLK_PERI_CTRL
    ∷ (0x40008054, 0x800) ∷ (0x40008058, 0x100)  -- CLK_USB_CTRL, DIV
    ∷ (0x40008060, 0x800) ∷ (0x40008064, 0x100)  -- CLK_ADC_CTRL, DIV
    ∷ (0x4000806C, 0x800) ∷ (0x40008070, 0x40000)  -- CLK_RTC_CTRL, DIV
    ∷ (0x40008078, 0)  -- CLK_SYS_RESUS_CTRL
    ∷ (0x40024000, 0xFABAA0) ∷ (0x4002400C, 6000)  -- XOSC CTRL, STARTUP
    ∷ (0x40028000, 1) ∷ (0x40028004, 4) ∷ (0x40028008, 125) ∷ (0x4002800C, 0x62000)  -- PLL_SYS CS, PWR, FBDIV_INT, PRIM
    ∷ (0x4002C000, 1) ∷ (0x4002C004, 4) ∷ (0x4002C008, 120) ∷ (0x4002C00C, 0x65000)  -- PLL_USB CS, PWR, FBDIV_INT, PRIM
    ∷ (0x40060000, 0xFABFA5) ∷ (0x40060004, 0x96960000) ∷ (0x40060008, 0x96960000) ∷ (0x40060010, 0xAB0)  -- ROSC CTRL, FREQA, FREQB, DIV
    ∷ (0x4005802C, 0x20C)  -- WATCHDOG TICK
    ∷ (0x40064000, before 0x40064000) ∷ (0x40064004, before 0x40064004)  -- VREG, BOD: as they were
    ∷ []
crystal_leaves Rp235x before =
    (0x40020000, 0)  -- RESET
    ∷ (0x40010030, 2) ∷ (0x40010034, 0x10000)  -- CLK_REF_CTRL, DIV
    ∷ (0x4001003C, 1) ∷ (0x40010040, 0x10000)  -- CLK_SYS_CTRL, DIV
    ∷ (0x40010048, 0x800)  -- CLK_PERI_CTRL
    ∷ (0x40010060, 0x800) ∷ (0x40010064, 0x10000)  -- CLK_USB_CTRL, DIV
    ∷ (0x4001006C, 0x800) ∷ (0x40010070, 0x10000)  -- CLK_ADC_CTRL, DIV
    ∷ (0x40010084, 0)  -- CLK_SYS_RESUS_CTRL
    ∷ (0x40048000, 0xFABAA0) ∷ (0x4004800C, 6000)  -- XOSC CTRL, STARTUP
    ∷ (0x40050000, 1) ∷ (0x40050004, 4) ∷ (0x40050008, 125) ∷ (0x4005000C, 0x52000)  -- PLL_SYS CS, PWR, FBDIV_INT, PRIM
    ∷ (0x40058000, 1) ∷ (0x40058004, 4) ∷ (0x40058008, 120) ∷ (0x4005800C, 0x65000)  -- PLL_USB CS, PWR, FBDIV_INT, PRIM
    ∷ (0x400E8000, 0xFABFA5) ∷ (0x400E8004, 0x96960000) ∷ (0x400E8008, 0x96960000) ∷ (0x400E8014, 0xAA10)  -- ROSC CTRL, FREQA, FREQB, DIV
    ∷ (0x40108018, 1) ∷ (0x4010801C, 12)  -- TICKS TIMER0_CTRL, CYCLES
    ∷ (0x40108030, 1) ∷ (0x40108034, 12)  -- TICKS WATCHDOG_CTRL, CYCLES
    ∷ (0x4010000C, before 0x4010000C) ∷ (0x4010001C, before 0x4010001C)  -- POWMAN VREG, BOD: as they were
    ∷ []

pub crystal-leaves : (c : Chip) (before : ℕ → ℕ)
    → let after = carried_out c (steps_of 11 (settings_of (crystal_plan c 12000000) 11)) before in
    map (λ (row : ℕ × ℕ). after row.0) (crystal_leaves c before) ≡ map (λ (row : ℕ × ℕ). row.1) (crystal_leaves c before)
unfolding startup_sum cycles_per_us settling_cycles divided_hz settling_step pll_hz sources_of ref_hz sys_hz head_part ring_part
    voltage_part crystal_part switch_steps sys_part peri_part aux_part rtc_part clocks_part steps_of has access_of release_mask
crystal-leaves Rp2040 before = refl
crystal-leaves Rp235x before = refl
