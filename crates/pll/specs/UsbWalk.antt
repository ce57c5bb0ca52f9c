-- Inside: the loop of the code over the reference dividers.
use Rattle.std.specs.Prelude.{◌≡◌, ℕ, ◌<◌}
use Rattle.base.specs.Answer.{Answer, value, refusal}
use Rattle.pll.specs.{Law.Before, UsbLaw.UsbSetting, declared.PllConfig.PllConfig}

-- no setting has a reference divider below r
abbrev pub NoneBelow : ℕ → ℕ → Type 0
NoneBelow crystal r = (d : PllConfig) → UsbSetting crystal d → d.refdiv < r → ⊥

-- an answer is right among the settings with reference divider r
abbrev pub UsbRightAt : ℕ → ℕ → Answer PllConfig → Type 0
UsbRightAt crystal r (value c) =
    UsbSetting crystal c
    × (c.refdiv ≡ r)
    × ((d : PllConfig) → UsbSetting crystal d → d.refdiv ≡ r → Before d c → ⊥)
UsbRightAt crystal r (refusal n) = (d : PllConfig) → UsbSetting crystal d → d.refdiv ≡ r → ⊥
