-- A line of words for each setting of docs/FORMAT.md, Settings that count, and for the blocks that the last release leaves out.
use Rattle.std.specs.Prelude.{Option, Some, None, Bool, true, false, ◌&&◌, not, List, [], ◌∷◌, ◌++◌, ℕ, ◌+◌, ◌*◌, eqb}
use Rattle.config.specs.declared.{RoscConfig.RoscConfig, PeriClkSrc.PeriClkSrc, AuxClkConfig.AuxClkConfig, RtcClkConfig.RtcClkConfig}
use Rattle.config.specs.declared.{RefClkConfig.RefClkConfig, SysClkSrc.SysClkSrc}
use Prim.Native.String.{String}
use Rattle.base.specs.Choice.{pick}
use Rattle.text.specs.Ascii.{ascii}
use Rattle.chip.specs.declared.{Chip.Chip, Chip.TheVariants.Rp2040, Chip.TheVariants.Rp235x}
use Rattle.pll.specs.declared.PllConfig.{PllConfig}
use Rattle.settings.specs.declared.Crystal.{Crystal}
use Rattle.wording.specs.{Form.formed, Names.named_form, Names.range_name, Names.ref_name, Names.sys_name, Names.peri_name, Names.aux_name}

unfoldable pub chip_line : Chip → List ℕ
chip_line Rp2040 = ascii "chip rp2040\n"
chip_line Rp235x = ascii "chip rp235x\n"

unfoldable pub ring_line : Option RoscConfig → List ℕ
ring_line (Some r) =
    let d = r.drive_strength in
    named_form (ascii "rosc # Hz, range ") r.hz (range_name r.range)
    (ascii ", strengths # # # # # # # #, divider #\n")
    (d.s0 ∷ d.s1 ∷ d.s2 ∷ d.s3 ∷ d.s4 ∷ d.s5 ∷ d.s6 ∷ d.s7 ∷ r.div ∷ [])
ring_line None = ascii "rosc absent\n"

unfoldable pub crystal_line : Option Crystal → List ℕ
crystal_line (Some x) = formed (ascii "xosc # Hz, startup # x 256 cycles\n") (x.hz ∷ x.delay ∷ [])
crystal_line None = ascii "xosc absent\n"

-- a PLL by its name, with its output in Hz
unfoldable pub pll_line : List ℕ → ℕ → Option PllConfig → List ℕ
pll_line name hz (Some p) =
    name
    ++ formed (ascii " # Hz, refdiv #, fbdiv #, post dividers # and #\n")
    (hz ∷ p.refdiv ∷ p.fbdiv ∷ p.post_div1 ∷ p.post_div2 ∷ [])
pll_line name hz None = name ++ ascii " absent\n"

-- a voltage code is 0.55 V plus 0.05 V times the code; code 0 of the RP2040 is 0.80 V
abbrev pub is_low : Chip → ℕ → Bool
is_low Rp2040 code = eqb code 0
is_low Rp235x code = false

unfoldable pub millivolts : Chip → ℕ → ℕ
millivolts chip code = pick (is_low chip code) 800 (550 + 50 * code)

unfoldable pub voltage_line : Chip → ℕ → List ℕ
voltage_line chip code = formed (ascii "voltage # mV, code #\n") (millivolts chip code ∷ code ∷ [])

unfoldable pub settling_line : Option ℕ → List ℕ
settling_line (Some n) = formed (ascii "settling # cycles\n") (n ∷ [])
settling_line None = ascii "settling absent\n"

unfoldable pub ref_line : ℕ → RefClkConfig → List ℕ
ref_line hz c =
    named_form (ascii "ref # Hz from ") hz (ref_name c.src) (ascii ", divider #\n") (c.div ∷ [])

-- the divider's whole part, and its fraction over the chip's scale
unfoldable pub sys_line : ℕ → SysClkSrc → ℕ → ℕ → ℕ → List ℕ
sys_line hz src whole fraction scale =
    named_form (ascii "sys # Hz from ") hz (sys_name src) (ascii ", divider # + #/#\n")
    (whole ∷ fraction ∷ scale ∷ [])

unfoldable pub peri_line : ℕ → Option PeriClkSrc → List ℕ
peri_line hz (Some src) = named_form (ascii "peri # Hz from ") hz (peri_name src) (ascii "\n") []
peri_line hz None = ascii "peri absent\n"

-- the USB or ADC clock by its name
unfoldable pub aux_line : List ℕ → ℕ → Option AuxClkConfig → List ℕ
aux_line name hz (Some a) =
    name
    ++ named_form (ascii " # Hz from ") hz (aux_name a.src) (ascii ", divider #, phase #\n")
    (a.div ∷ a.phase ∷ [])
aux_line name hz None = name ++ ascii " absent\n"

unfoldable pub rtc_line : ℕ → Option RtcClkConfig → List ℕ
rtc_line hz (Some r) =
    named_form (ascii "rtc # Hz from ") hz (aux_name r.src) (ascii ", divider # + #/256, phase #\n")
    (r.div_int ∷ r.div_frac ∷ r.phase ∷ [])
rtc_line hz None = ascii "rtc absent\n"

-- ---- the blocks that the last release leaves out

abbrev pub is_rp2040 : Chip → Bool
is_rp2040 Rp2040 = true
is_rp2040 Rp235x = false

-- the name of a block, where it is left out
abbrev pub named : Bool → String → List ℕ
named out name = pick out (ascii name) []

-- of the mask's 25 blocks those of absent clocks, and HSTX (docs/RP235X.md), from whether the chip is the RP2040 and which clocks
-- are absent. None of these blocks is in reset, because the second reset write releases every block but the PLLs
unfoldable pub left_out_line : Bool → Bool → Bool → Bool → Bool → List ℕ
left_out_line old peri usb adc rtc =
    ascii "left out of the last release:"
    ++ (named adc " adc"
    ++ (named (not old) " hstx"
    ++ (named (old && rtc) " rtc"
    ++ (named peri " spi0 spi1"
    ++ (named (old && peri) " uart0 uart1"
    ++ (named (old && usb) " usb" ++ ascii "\n"))))))
