-- The eleven words, in order: 0 ADC, 1 USB, 2 peripheral control, 3 ring control, 4 ring divider, 5 reference control,
-- 6 system control, 7 system PLL power, 8 USB PLL power, 9 crystal control, 10 cache control.
use Rattle.std.specs.Prelude.{ℕ, List, [], ◌∷◌, get_or}
use Rattle.sleep.specs.Bits.{with_field, pll_off}

abbrev pub word_in : List ℕ → ℕ → ℕ
word_in ws i = get_or ws i 0

-- the words of a sleeping chip: each field that sleep sets, by its lowest bit, its size and its value
unfoldable pub asleep : List ℕ → List ℕ
asleep ws =
    with_field 11 1 0 (word_in ws 0)  -- CLK_ADC_CTRL: ENABLE 0
    ∷ with_field 11 1 0 (word_in ws 1)  -- CLK_USB_CTRL: ENABLE 0
    ∷ with_field 11 1 0 (word_in ws 2)  -- CLK_PERI_CTRL: ENABLE 0
    ∷ with_field 12 12 0xfab (with_field 0 12 0xfa4 (word_in ws 3))  -- ROSC CTRL: FREQ_RANGE LOW, ENABLE ENABLE
    ∷ with_field 0 12 0xaa0 (word_in ws 4)  -- ROSC DIV: DIV 32, with the pass value 0xaa0
    ∷ with_field 0 2 0 (word_in ws 5)  -- CLK_REF_CTRL: SRC the ring
    ∷ with_field 0 1 0 (word_in ws 6)  -- CLK_SYS_CTRL: SRC the reference clock
    ∷ pll_off (word_in ws 7)
    ∷ pll_off (word_in ws 8)
    ∷ with_field 12 12 0xd1e (word_in ws 9)  -- XOSC CTRL: ENABLE DISABLE
    ∷ with_field 3 1 1 (word_in ws 10)  -- XIP CTRL: POWER_DOWN 1
    ∷ []
