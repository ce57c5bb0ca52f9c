-- The derived tests of the parts of settings are those of their numbers.
use Rattle.std.specs.Prelude.{Option, Some, None, ℕ, ◌≡◌, option_map, Bool, ◌&&◌, List, [], ◌∷◌, eqb, refl}
use Rattle.std.specs.Option.{option_eq, option_map_or}
use Rattle.std.proofs.Math.Bool.{and_assoc}
use mathlib.Core.Path.{sym, ap, ◌∙◌}
use borrow.Author.Tests.{eqb-true, eqb-false}
use denote.Enum.{Declared.Declared, Bare.Bare, Bare.sameb, Bare.true_same, Bare.false_same}
use Rattle.base.proofs.Bools.{either_way}
use Rattle.chip.specs.declared.Chip.{Chip}
use Rattle.pll.specs.declared.PllConfig.{PllConfig}
use Rattle.config.specs.Codes.{range_code, range_from, ref_code, ref_from, sys_code, sys_source_from, peri_aux, peri_from, aux_code}
use Rattle.config.specs.Codes.{aux_from}
use Rattle.config.specs.declared.{RoscConfig.RoscConfig, SysClkSrc.SysClkSrc, PeriClkSrc.PeriClkSrc, AuxClkConfig.AuxClkConfig}
use Rattle.config.specs.declared.{AuxClkSrc.AuxClkSrc, RtcClkConfig.RtcClkConfig, RoscRange.RoscRange, RefClkSrc.RefClkSrc}
use Rattle.settings.specs.declared.Crystal.{Crystal}
use Rattle.settings.proofs.Decoded.{range-code, ref-code, peri-code, aux-code, sys-code}
use Rattle.wording.specs.Parts.{chip_code, ring_numbers, crystal_numbers, pll_numbers, cycles_numbers}
use Rattle.wording.specs.{Parts.peri_numbers, Parts.aux_numbers, Parts.rtc_numbers, Inside.agree}
use Rattle.wording.proofs.Decode.{chip_at, code-back}
use Rattle.chip.specs.contracts.Chip as chip
use Rattle.pll.specs.contracts.PllConfigPartialEq.TheImpl as pll
use Rattle.config.specs.contracts.RoscRange as range
use Rattle.config.specs.contracts.RefClkSrc as ref_src
use Rattle.config.specs.contracts.SysClkSrc as sys_src
use Rattle.config.specs.contracts.PeriClkSrc as peri_src
use Rattle.config.specs.contracts.AuxClkSrc as aux_src
use Rattle.config.specs.contracts.RoscConfigPartialEq.TheImpl as ring
use Rattle.config.specs.contracts.AuxClkConfigPartialEq.TheImpl as aux
use Rattle.config.specs.contracts.RtcClkConfigPartialEq.TheImpl as rtc

-- Values of an enum with no fields are the same exactly where their codes are, if the codes are read back.
same-code : (D : Declared) → Bare D.parts → (code : D.D → ℕ) (from : ℕ → D.D) → ((x : D.D) → from (code x) ≡ x)
    → (a b : D.D) → sameb D a b ≡ eqb (code a) (code b)
same-code D bare code from back a b =
    either_way (eqb (code a) (code b))
    (λ e. true_same D a b (sym (back a) ∙ ap from (eqb-true (code a) (code b) e) ∙ back b) ∙ sym e)
    (λ e. false_same D bare a b (λ p. eqb-false (code a) (code b) e (ap code p)) ∙ sym e)

pub chip_same : (a b : Chip) → sameb chip.the_type a b ≡ eqb (chip_code a) (chip_code b)
chip_same = same-code chip.the_type tt chip_code chip_at code-back

range_same : (a b : RoscRange) → sameb range.the_type a b ≡ eqb (range_code a) (range_code b)
range_same = same-code range.the_type tt range_code range_from (λ x. (range-code x).0)

pub ref_same : (a b : RefClkSrc) → sameb ref_src.the_type a b ≡ eqb (ref_code a) (ref_code b)
ref_same = same-code ref_src.the_type tt ref_code ref_from (λ x. (ref-code x).0)

pub sys_same : (a b : SysClkSrc) → sameb sys_src.the_type a b ≡ eqb (sys_code a) (sys_code b)
sys_same = same-code sys_src.the_type tt sys_code sys_source_from (λ x. (sys-code x).0)

peri_src_same : (a b : PeriClkSrc) → sameb peri_src.the_type a b ≡ eqb (peri_aux a) (peri_aux b)
peri_src_same = same-code peri_src.the_type tt peri_aux peri_from (λ x. (peri-code x).0)

aux_src_same : (a b : AuxClkSrc) → sameb aux_src.the_type a b ≡ eqb (aux_code a) (aux_code b)
aux_src_same = same-code aux_src.the_type tt aux_code aux_from (λ x. (aux-code x).0)

-- Optional parts are the same exactly where both are absent or both are there and agree in their numbers, of which each has one or more.
optional_same : {A : Type 0} (same : A → A → Bool) (first : A → ℕ) (rest : A → List ℕ)
    → ((x y : A) → same x y ≡ agree (first x ∷ rest x) (first y ∷ rest y)) → (a b : Option A)
    → option_eq same a b ≡ agree (option_map_or (λ x. first x ∷ rest x) a []) (option_map_or (λ x. first x ∷ rest x) b [])
optional_same same first rest each None None = refl
optional_same same first rest each None (Some y) = refl
optional_same same first rest each (Some x) None = refl
optional_same same first rest each (Some x) (Some y) = each x y

pub ring_same : (a b : Option RoscConfig) → option_eq (ring.eq-value).it a b ≡ agree (ring_numbers a) (ring_numbers b)
ring_same = optional_same _ _ _ (λ x y. simp (range_same, and_assoc))

pub pll_same : (a b : Option PllConfig) → option_eq (pll.eq-value).it a b ≡ agree (pll_numbers a) (pll_numbers b)
pll_same = optional_same _ _ _ (λ x y. simp and_assoc)

pub cycles_same : (a b : Option ℕ) → option_eq eqb a b ≡ agree (cycles_numbers a) (cycles_numbers b)
cycles_same = optional_same _ _ _ (λ x y. refl)

pub peri_same : (a b : Option PeriClkSrc) → option_eq (sameb peri_src.the_type) a b ≡ agree (peri_numbers a) (peri_numbers b)
peri_same = optional_same _ _ _ peri_src_same

pub aux_same : (a b : Option AuxClkConfig) → option_eq (aux.eq-value).it a b ≡ agree (aux_numbers a) (aux_numbers b)
aux_same = optional_same _ _ _ (λ x y. simp (aux_src_same, and_assoc))

pub rtc_same : (a b : Option RtcClkConfig) → option_eq (rtc.eq-value).it a b ≡ agree (rtc_numbers a) (rtc_numbers b)
rtc_same = optional_same _ _ _ (λ x y. simp (aux_src_same, and_assoc))

-- of a crystal without its PLLs
abbrev pub hz_and_delay : Option Crystal → Option (ℕ × ℕ)
hz_and_delay = option_map (λ x. (x.hz, x.delay))

pub crystal_same : (a b : Option Crystal)
    → option_eq {T = ℕ × ℕ} (λ x y. eqb x.0 y.0 && eqb x.1 y.1) (hz_and_delay a) (hz_and_delay b)
    ≡ agree (crystal_numbers a) (crystal_numbers b)
crystal_same None None = refl
crystal_same None (Some y) = refl
crystal_same (Some x) None = refl
crystal_same (Some x) (Some y) = refl
