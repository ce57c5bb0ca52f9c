-- The names of ranges and sources.
use Rattle.std.specs.Prelude.{List, [], ◌∷◌, ◌++◌, ℕ}
use Rattle.text.specs.Ascii.{ascii}
use Rattle.config.specs.declared.{RoscRange.RoscRange, RefClkSrc.RefClkSrc, SysClkSrc.SysClkSrc, PeriClkSrc.PeriClkSrc, AuxClkSrc.AuxClkSrc}
use Rattle.wording.specs.Form.{formed}

abbrev pub range_name : RoscRange → List ℕ
range_name RoscRange.Low = ascii "low"
range_name RoscRange.Medium = ascii "medium"
range_name RoscRange.High = ascii "high"
range_name RoscRange.TooHigh = ascii "too high"

abbrev pub ref_name : RefClkSrc → List ℕ
ref_name RefClkSrc.Xosc = ascii "xosc"
ref_name RefClkSrc.Rosc = ascii "rosc"
ref_name RefClkSrc.PllUsb = ascii "pll_usb"

abbrev pub sys_name : SysClkSrc → List ℕ
sys_name SysClkSrc.Ref = ascii "ref"
sys_name SysClkSrc.PllSys = ascii "pll_sys"
sys_name SysClkSrc.PllUsb = ascii "pll_usb"
sys_name SysClkSrc.Rosc = ascii "rosc"
sys_name SysClkSrc.Xosc = ascii "xosc"

abbrev pub peri_name : PeriClkSrc → List ℕ
peri_name PeriClkSrc.Sys = ascii "sys"
peri_name PeriClkSrc.PllSys = ascii "pll_sys"
peri_name PeriClkSrc.PllUsb = ascii "pll_usb"
peri_name PeriClkSrc.Rosc = ascii "rosc"
peri_name PeriClkSrc.Xosc = ascii "xosc"

-- the sources of USB, ADC and RTC clock
abbrev pub aux_name : AuxClkSrc → List ℕ
aux_name AuxClkSrc.PllUsb = ascii "pll_usb"
aux_name AuxClkSrc.PllSys = ascii "pll_sys"
aux_name AuxClkSrc.Rosc = ascii "rosc"
aux_name AuxClkSrc.Xosc = ascii "xosc"

-- a form with a number in it, a name, a form with more numbers
abbrev pub named_form : List ℕ → ℕ → List ℕ → List ℕ → List ℕ → List ℕ
named_form first n name last ns = formed first (n ∷ []) ++ (name ++ formed last ns)
