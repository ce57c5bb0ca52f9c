-- Writes a plan as a row of numbers (docs/CASES.md, A plan in numbers): the parts are in order, an optional part begins with a
-- flag, and the numbers of an absent part are 0.
use Rattle.std.specs.Prelude.{Option, Some, None, replicate, option_and_then, List, [], ◌∷◌, ◌++◌, ℕ, ◌+◌}
use Rattle.config.specs.declared.RoscConfig.{RoscConfig}
use Rattle.config.specs.declared.{XoscConfig.XoscConfig, PeriClkSrc.PeriClkSrc, AuxClkConfig.AuxClkConfig, RtcClkConfig.RtcClkConfig}
use Rattle.config.specs.declared.{RefClkConfig.RefClkConfig, SysClkSrc.SysClkSrc, ChipConfig.ChipConfig, ClockConfig.ClockConfig}
use Rattle.pll.specs.declared.PllConfig.{PllConfig}
use Rattle.config.specs.{ChipSettings.chip_of, Codes.range_code, Codes.ref_code, Codes.sys_code, Codes.peri_aux, Codes.aux_code}

-- an optional part: the flag 1 and its numbers, of which there are this many, or zeros
abbrev pub part_row : {A : Type 0} → ℕ → (A → List ℕ) → Option A → List ℕ
part_row size on (Some part) = 1 ∷ on part
part_row size on None = replicate (size + 1) 0

-- the ring: Hz, range, eight strengths, divider
abbrev pub ring_on : RoscConfig → List ℕ
ring_on r =
    let d = r.drive_strength in
    r.hz ∷ range_code r.range ∷ d.s0 ∷ d.s1 ∷ d.s2 ∷ d.s3 ∷ d.s4 ∷ d.s5 ∷ d.s6 ∷ d.s7 ∷ r.div ∷ []

-- the crystal: Hz, delay multiplier
abbrev pub crystal_on : XoscConfig → List ℕ
crystal_on x = x.hz ∷ x.delay_multiplier ∷ []

-- the PLLs belong to the crystal; without one there is no PLL
abbrev pub sys_pll_in : Option XoscConfig → Option PllConfig
sys_pll_in = option_and_then (λ x. x.sys_pll)

abbrev pub usb_pll_in : Option XoscConfig → Option PllConfig
usb_pll_in = option_and_then (λ x. x.usb_pll)

-- a PLL: four dividers
abbrev pub pll_on : PllConfig → List ℕ
pll_on p = p.refdiv ∷ p.fbdiv ∷ p.post_div1 ∷ p.post_div2 ∷ []

unfoldable pub oscillator_row : Option RoscConfig → Option XoscConfig → List ℕ
oscillator_row r x =
    part_row 11 ring_on r
    ++ (part_row 2 crystal_on x ++ (part_row 4 pll_on (sys_pll_in x) ++ part_row 4 pll_on (usb_pll_in x)))

-- the settling time: µs
abbrev pub time_on : ℕ → List ℕ
time_on time = time ∷ []

-- the reference clock: source, divider
abbrev pub ref_numbers : RefClkConfig → List ℕ
ref_numbers c = ref_code c.src ∷ c.div ∷ []

-- voltage code, settling time, reference clock
abbrev pub first_row : ℕ → Option ℕ → RefClkConfig → List ℕ
first_row code time c = code ∷ (part_row 1 time_on time ++ ref_numbers c)

-- the system clock: source, whole part, fraction
abbrev pub sys_row : SysClkSrc → ℕ → ℕ → List ℕ
sys_row src whole fraction = sys_code src ∷ whole ∷ fraction ∷ []

-- the peripheral clock: source
abbrev pub peri_on : PeriClkSrc → List ℕ
peri_on src = peri_aux src ∷ []

-- the USB or ADC clock: source, divider, phase
abbrev pub aux_on : AuxClkConfig → List ℕ
aux_on a = aux_code a.src ∷ a.div ∷ a.phase ∷ []

unfoldable pub clock_row : ClockConfig → List ℕ
clock_row p =
    first_row (chip_of p.chip).volts.code p.voltage_stabilization_delay_us p.ref_clk
    ++ (sys_row p.sys_clk_src (chip_of p.chip).whole (chip_of p.chip).fraction
    ++ (part_row 1 peri_on p.peri_clk_src ++ (part_row 3 aux_on p.usb_clk ++ part_row 3 aux_on p.adc_clk)))

-- the RTC clock: source, whole part, fraction, phase
abbrev pub rtc_on : RtcClkConfig → List ℕ
rtc_on r = aux_code r.src ∷ r.div_int ∷ r.div_frac ∷ r.phase ∷ []

-- the RP235x has no RTC clock
abbrev pub rtc_numbers : ChipConfig → List ℕ
rtc_numbers (ChipConfig.Rp2040 c) = part_row 4 rtc_on c.rtc_clk
rtc_numbers (ChipConfig.Rp235x c) = []

unfoldable pub plan_row : ClockConfig → List ℕ
plan_row p = oscillator_row p.rosc p.xosc ++ (clock_row p ++ rtc_numbers p.chip)
