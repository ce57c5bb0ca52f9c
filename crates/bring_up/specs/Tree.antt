-- The clock tree of the datasheets: the frequency of each clock in Hz, from the values of its registers. Rounding is
-- that of the stored values: a PLL is rounded down at its reference and at its output (pll/specs/Setting,
-- `output_hz`), a divided clock once (divider/specs/Clock, `divided_hz`). A clock that is off has 0 Hz, and so has a
-- source that no plan can name, which is an input pin.
use Rattle.std.specs.Prelude.{Bool, ◌&&◌, not, [], ◌∷◌, ℕ, ◌+◌, ◌/◌, ◌^◌, eqb, get_or}
use Rattle.base.specs.Choice.{pick}
use Rattle.chip.specs.declared.Chip.{Chip, TheVariants.Rp2040, TheVariants.Rp235x}
use Rattle.divider.specs.{Clock.divided_hz, Gpout.gpout_whole}
use Rattle.pll.specs.{declared.PllConfig.PllConfig, Setting.output_hz}
use Rattle.settings.specs.declared.Sources.{Sources}
use Rattle.registers.specs.Map.{on, RESET, XOSC_CTRL, ROSC_CTRL, PLL_CS, PLL_PWR, PLL_FBDIV_INT, PLL_PRIM, CLK_REF_CTRL}
use Rattle.registers.specs.Map.{CLK_REF_DIV, CLK_SYS_CTRL, CLK_SYS_DIV, CLK_PERI_CTRL, CLK_USB_CTRL, CLK_USB_DIV, CLK_ADC_CTRL}
use Rattle.registers.specs.Map.{CLK_ADC_DIV, CLK_RTC_CTRL, CLK_RTC_DIV}
use Rattle.bring_up.specs.Machine.{bits_at, held}

-- ---- sources

-- CTRL of an oscillator has the code that turns it on
abbrev pub oscillates : ℕ → Bool
oscillates ctrl = eqb (bits_at 12 12 ctrl) 0xFAB

-- the dividers of PLL w, 0 system and 1 USB: REFDIV, FBDIV_INT, POSTDIV1, POSTDIV2
abbrev pub pll_at : Chip → ℕ → (ℕ → ℕ) → PllConfig
pll_at c w file =
    record {
      refdiv = bits_at 0 6 (file (PLL_CS c w));
      fbdiv = bits_at 0 12 (file (PLL_FBDIV_INT c w));
      post_div1 = bits_at 16 3 (file (PLL_PRIM c w));
      post_div2 = bits_at 12 3 (file (PLL_PRIM c w));
    }

-- the PLL and its VCO have power, PD and VCOPD of PWR being 0, and the PLL is out of reset
abbrev pub vco_on : Chip → ℕ → (ℕ → ℕ) → Bool
vco_on c w file =
    eqb (bits_at 0 1 (file (PLL_PWR c w))) 0
    && (eqb (bits_at 5 1 (file (PLL_PWR c w))) 0 && not (held c w (file (RESET c))))

-- its post dividers have power too: POSTDIVPD is 0
abbrev pub pll_on : Chip → ℕ → (ℕ → ℕ) → Bool
pll_on c w file = vco_on c w file && eqb (bits_at 3 1 (file (PLL_PWR c w))) 0

-- the output of a PLL, whose reference is the crystal
abbrev pub pll_from : Chip → ℕ → ℕ → (ℕ → ℕ) → ℕ
pll_from c w crystal file = pick (pll_on c w file) (output_hz (pll_at c w file) crystal) 0

-- the frequencies of the sources, given those of ring and crystal while they are on
abbrev pub sources_at : Chip → ℕ → ℕ → (ℕ → ℕ) → Sources
sources_at c ring crystal file =
    let xosc = pick (oscillates (file (XOSC_CTRL c))) crystal 0 in
    record {
      rosc = pick (oscillates (file (ROSC_CTRL c))) ring 0;
      xosc = xosc;
      pll_sys = pll_from c 0 xosc file;
      pll_usb = pll_from c 1 xosc file;
    }

-- ---- dividers

-- of reference, USB and ADC: two bits on the RP2040, `width` bits on the RP235x; 0 counts as one more than the greatest
abbrev pub int_from : Chip → ℕ → ℕ → ℕ
int_from c width div =
    let n = bits_at (on c 8 16) (on c 2 width) div in
    pick (eqb n 0) (2 ^ on c 2 width) n

-- with a fraction: 24 whole and 8 fraction bits on the RP2040, 16 and 16 on the RP235x; a whole part of 0 counts as 65536
abbrev pub divided_from : Chip → ℕ → ℕ → ℕ
divided_from Rp2040 source div = divided_hz 256 source (gpout_whole (bits_at 8 24 div)) (bits_at 0 8 div)
divided_from Rp235x source div = divided_hz 65536 source (gpout_whole (bits_at 16 16 div)) (bits_at 0 16 div)

-- ---- clocks

-- CLK_REF: SRC 0 ring, 1 aux (AUXSRC 0 PLL USB), 2 crystal
abbrev pub ref_from : Chip → Sources → ℕ → ℕ → ℕ
ref_from c f ctrl div =
    let aux = get_or (f.pll_usb ∷ []) (bits_at 5 2 ctrl) 0 in
    get_or (f.rosc ∷ aux ∷ f.xosc ∷ []) (bits_at 0 2 ctrl) 0 / int_from c 8 div

-- CLK_SYS: SRC 0 the reference clock, 1 aux (AUXSRC 0 PLL sys, 1 PLL USB, 2 ring, 3 crystal)
abbrev pub sys_from : Chip → Sources → ℕ → ℕ → ℕ → ℕ
sys_from c f reference ctrl div =
    let aux = get_or (f.pll_sys ∷ f.pll_usb ∷ f.rosc ∷ f.xosc ∷ []) (bits_at 5 3 ctrl) 0 in
    divided_from c (get_or (reference ∷ aux ∷ []) (bits_at 0 1 ctrl) 0) div

-- the other clocks run where CTRL has ENABLE set and KILL, the bit below it, clear
abbrev pub enabled : ℕ → Bool
enabled ctrl = eqb (bits_at 10 2 ctrl) 2

-- the peripheral divider of the RP235x, bits 16 and 17 of CLK_PERI_DIV; no step touches it, and a reset sets it to 1
abbrev pub CLK_PERI_DIV : ℕ
CLK_PERI_DIV = 0x40010000 + 0x4C

abbrev pub peri_divider : Chip → (ℕ → ℕ) → ℕ
peri_divider Rp2040 file = 1
peri_divider Rp235x file = int_from Rp235x 2 (file CLK_PERI_DIV)

-- CLK_PERI: AUXSRC 0 the system clock, 1 PLL sys, 2 PLL USB, 3 ring, 4 crystal
abbrev pub peri_from : Sources → ℕ → ℕ → ℕ → ℕ
peri_from f system ctrl divider =
    pick (enabled ctrl)
    (get_or (system ∷ f.pll_sys ∷ f.pll_usb ∷ f.rosc ∷ f.xosc ∷ []) (bits_at 5 3 ctrl) 0 / divider) 0

-- CLK_USB, CLK_ADC and CLK_RTC: AUXSRC 0 PLL USB, 1 PLL sys, 2 ring, 3 crystal
abbrev pub aux_from : Sources → ℕ → ℕ
aux_from f ctrl =
    pick (enabled ctrl) (get_or (f.pll_usb ∷ f.pll_sys ∷ f.rosc ∷ f.xosc ∷ []) (bits_at 5 3 ctrl) 0) 0

-- ---- the clocks of a register file

abbrev pub ref_at : Chip → Sources → (ℕ → ℕ) → ℕ
ref_at c f file = ref_from c f (file (CLK_REF_CTRL c)) (file (CLK_REF_DIV c))

abbrev pub sys_at : Chip → Sources → (ℕ → ℕ) → ℕ
sys_at c f file = sys_from c f (ref_at c f file) (file (CLK_SYS_CTRL c)) (file (CLK_SYS_DIV c))

abbrev pub peri_at : Chip → Sources → (ℕ → ℕ) → ℕ
peri_at c f file = peri_from f (sys_at c f file) (file (CLK_PERI_CTRL c)) (peri_divider c file)

abbrev pub usb_at : Chip → Sources → (ℕ → ℕ) → ℕ
usb_at c f file = aux_from f (file (CLK_USB_CTRL c)) / int_from c 4 (file (CLK_USB_DIV c))

abbrev pub adc_at : Chip → Sources → (ℕ → ℕ) → ℕ
adc_at c f file = aux_from f (file (CLK_ADC_CTRL c)) / int_from c 4 (file (CLK_ADC_DIV c))

-- only on the RP2040
abbrev pub rtc_at : Sources → (ℕ → ℕ) → ℕ
rtc_at f file = divided_from Rp2040 (aux_from f (file CLK_RTC_CTRL)) (file CLK_RTC_DIV)
