-- The settings that count, part by part, each as its numbers (docs/FORMAT.md, Settings that count). An absent part has none;
-- those of a part that is there are in numbers/specs/Row.
use Rattle.std.specs.Prelude.{Option, option_and_then, List, [], ◌∷◌, ℕ}
use Rattle.std.specs.Option.{option_map_or}
use Rattle.chip.specs.declared.{Chip.Chip, Chip.TheVariants.Rp2040, Chip.TheVariants.Rp235x}
use Rattle.config.specs.declared.{RoscConfig.RoscConfig, PeriClkSrc.PeriClkSrc, AuxClkConfig.AuxClkConfig, RtcClkConfig.RtcClkConfig}
use Rattle.pll.specs.declared.PllConfig.{PllConfig}
use Rattle.settings.specs.declared.{Crystal.Crystal, Settings.Settings}
use Rattle.numbers.specs.Row.{ring_on, pll_on, time_on, ref_numbers, sys_row, peri_on, aux_on, rtc_on}

abbrev pub chip_code : Chip → ℕ
chip_code Rp2040 = 0
chip_code Rp235x = 1

abbrev pub ring_numbers : Option RoscConfig → List ℕ
ring_numbers r = option_map_or ring_on r []

abbrev pub crystal_numbers : Option Crystal → List ℕ
crystal_numbers x = option_map_or (λ x. x.hz ∷ x.delay ∷ []) x []

-- a PLL is absent with its crystal
abbrev pub sys_pll_of : Option Crystal → Option PllConfig
sys_pll_of = option_and_then (λ x. x.sys)

abbrev pub usb_pll_of : Option Crystal → Option PllConfig
usb_pll_of = option_and_then (λ x. x.usb)

abbrev pub pll_numbers : Option PllConfig → List ℕ
pll_numbers p = option_map_or pll_on p []

abbrev pub cycles_numbers : Option ℕ → List ℕ
cycles_numbers n = option_map_or time_on n []

abbrev pub sys_numbers : Settings → List ℕ
sys_numbers s = sys_row s.sys s.chip.whole s.chip.fraction

abbrev pub peri_numbers : Option PeriClkSrc → List ℕ
peri_numbers src = option_map_or peri_on src []

abbrev pub aux_numbers : Option AuxClkConfig → List ℕ
aux_numbers a = option_map_or aux_on a []

abbrev pub rtc_numbers : Option RtcClkConfig → List ℕ
rtc_numbers r = option_map_or rtc_on r []

-- reference, system, peripheral, USB, ADC and RTC clock
abbrev pub clock_parts : Settings → List (List ℕ)
clock_parts s =
    ref_numbers s.reference ∷ sys_numbers s ∷ peri_numbers s.peri ∷ aux_numbers s.usb ∷ aux_numbers s.adc
    ∷ rtc_numbers s.chip.rtc ∷ []

-- voltage code and settling step, then the clocks
abbrev pub core_parts : Settings → List (List ℕ)
core_parts s = (s.chip.volts.code ∷ []) ∷ cycles_numbers s.settling ∷ clock_parts s

-- all thirteen: chip, ring, crystal, system PLL and USB PLL, then the others
abbrev pub parts_of : Settings → List (List ℕ)
parts_of s =
    (chip_code s.chip.model ∷ []) ∷ ring_numbers s.rosc ∷ crystal_numbers s.xosc ∷ pll_numbers (sys_pll_of s.xosc)
    ∷ pll_numbers (usb_pll_of s.xosc) ∷ core_parts s
