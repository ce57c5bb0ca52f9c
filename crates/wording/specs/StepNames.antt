-- The names of the registers that steps touch, as the RP2040 and RP2350 datasheets have them: the block's name before the
-- register's. An address that is in no row has no name.
use Rattle.std.specs.Prelude.{List, [], ◌∷◌, ◌++◌, eqb, ℕ}
use Prim.Native.String.{String}
use Rattle.base.specs.Choice.{pick}
use Rattle.chip.specs.declared.{Chip.Chip, Chip.TheVariants.Rp2040, Chip.TheVariants.Rp235x}
use Rattle.text.specs.Ascii.{ascii}
use Rattle.registers.specs.Map.{RESET, RESET_DONE, CLK_REF_CTRL, CLK_REF_DIV, CLK_REF_SELECTED, CLK_SYS_CTRL, CLK_SYS_DIV, CLK_SYS_SELECTED}
use Rattle.registers.specs.Map.{CLK_SYS_RESUS_CTRL, CLK_PERI_CTRL, CLK_USB_CTRL, CLK_USB_DIV, CLK_ADC_CTRL, CLK_ADC_DIV, CLK_RTC_CTRL}
use Rattle.registers.specs.Map.{CLK_RTC_DIV, XOSC_CTRL, XOSC_STATUS, XOSC_STARTUP, ROSC_CTRL, ROSC_FREQA, ROSC_FREQB, ROSC_DIV, PLL_CS}
use Rattle.registers.specs.Map.{PLL_PWR, PLL_FBDIV_INT, PLL_PRIM, VREG, BOD, WATCHDOG_TICK, POWMAN_VREG, POWMAN_BOD, TIMER0_CTRL}
use Rattle.registers.specs.Map.{TIMER0_CYCLES, WATCHDOG_CTRL, WATCHDOG_CYCLES}

-- an address and the name of its register
pub record Row : Type 0 where
  pub address : ℕ
  pub name : String

abbrev pub row : ℕ → String → Row
row a n = record { address = a; name = n }

-- the registers that both chips have
abbrev pub shared_rows : Chip → List Row
shared_rows c =
    row (RESET c) "RESETS_RESET"
    ∷ row (RESET_DONE c) "RESETS_RESET_DONE"
    ∷ row (CLK_REF_CTRL c) "CLOCKS_CLK_REF_CTRL"
    ∷ row (CLK_REF_DIV c) "CLOCKS_CLK_REF_DIV"
    ∷ row (CLK_REF_SELECTED c) "CLOCKS_CLK_REF_SELECTED"
    ∷ row (CLK_SYS_CTRL c) "CLOCKS_CLK_SYS_CTRL"
    ∷ row (CLK_SYS_DIV c) "CLOCKS_CLK_SYS_DIV"
    ∷ row (CLK_SYS_SELECTED c) "CLOCKS_CLK_SYS_SELECTED"
    ∷ row (CLK_SYS_RESUS_CTRL c) "CLOCKS_CLK_SYS_RESUS_CTRL"
    ∷ row (CLK_PERI_CTRL c) "CLOCKS_CLK_PERI_CTRL"
    ∷ row (CLK_USB_CTRL c) "CLOCKS_CLK_USB_CTRL"
    ∷ row (CLK_USB_DIV c) "CLOCKS_CLK_USB_DIV"
    ∷ row (CLK_ADC_CTRL c) "CLOCKS_CLK_ADC_CTRL"
    ∷ row (CLK_ADC_DIV c) "CLOCKS_CLK_ADC_DIV"
    ∷ row (XOSC_CTRL c) "XOSC_CTRL"
    ∷ row (XOSC_STATUS c) "XOSC_STATUS"
    ∷ row (XOSC_STARTUP c) "XOSC_STARTUP"
    ∷ row (ROSC_CTRL c) "ROSC_CTRL"
    ∷ row (ROSC_FREQA c) "ROSC_FREQA"
    ∷ row (ROSC_FREQB c) "ROSC_FREQB"
    ∷ row (ROSC_DIV c) "ROSC_DIV"
    ∷ row (PLL_CS c 0) "PLL_SYS_CS"
    ∷ row (PLL_PWR c 0) "PLL_SYS_PWR"
    ∷ row (PLL_FBDIV_INT c 0) "PLL_SYS_FBDIV_INT"
    ∷ row (PLL_PRIM c 0) "PLL_SYS_PRIM"
    ∷ row (PLL_CS c 1) "PLL_USB_CS"
    ∷ row (PLL_PWR c 1) "PLL_USB_PWR"
    ∷ row (PLL_FBDIV_INT c 1) "PLL_USB_FBDIV_INT"
    ∷ row (PLL_PRIM c 1) "PLL_USB_PRIM"
    ∷ []

-- the registers of one chip alone
abbrev pub own_rows : Chip → List Row
own_rows Rp2040 =
    row CLK_RTC_CTRL "CLOCKS_CLK_RTC_CTRL"
    ∷ row CLK_RTC_DIV "CLOCKS_CLK_RTC_DIV"
    ∷ row VREG "VREG_AND_CHIP_RESET_VREG"
    ∷ row BOD "VREG_AND_CHIP_RESET_BOD"
    ∷ row WATCHDOG_TICK "WATCHDOG_TICK"
    ∷ []
own_rows Rp235x =
    row POWMAN_VREG "POWMAN_VREG"
    ∷ row POWMAN_BOD "POWMAN_BOD"
    ∷ row TIMER0_CTRL "TICKS_TIMER0_CTRL"
    ∷ row TIMER0_CYCLES "TICKS_TIMER0_CYCLES"
    ∷ row WATCHDOG_CTRL "TICKS_WATCHDOG_CTRL"
    ∷ row WATCHDOG_CYCLES "TICKS_WATCHDOG_CYCLES"
    ∷ []

unfoldable pub name_rows : Chip → List Row
name_rows c = shared_rows c ++ own_rows c

-- the name in the first row with the address
abbrev pub name_in : List Row → ℕ → List ℕ
name_in [] a = []
name_in (r ∷ rs) a = pick (eqb r.address a) (ascii r.name) (name_in rs a)

unfoldable pub name_of : Chip → ℕ → List ℕ
name_of c a = name_in (name_rows c) a
