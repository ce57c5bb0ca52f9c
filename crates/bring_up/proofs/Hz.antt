-- The values that the parts write give back each source and each divider of the settings.
use Rattle.std.specs.Prelude.{Option, Some, None, true, false, ◌≡◌, refl, [], ◌∷◌, ℕ, zero, suc, ◌+◌, ◌/◌, ◌%◌, ◌≤◌, ◌<◌, eqb}
use Rattle.std.specs.Prelude.{get_or}
use mathlib.Core.Path.{ap, ap₂, ◌∙◌}
use native.Mathlib.Omega.{arith}
use borrow.Author.Tests.{ne_eqb, not-false}
use Rattle.base.specs.{Choice.pick, Widths.u24}
use Rattle.chip.specs.{declared.Chip.Chip, declared.Chip.TheVariants.Rp2040, declared.Chip.TheVariants.Rp235x, Chips.facts_of}
use Rattle.divider.specs.{Clock.divided_hz, Gpout.gpout_whole}
use Rattle.pll.specs.{declared.PllConfig.PllConfig, Setting.valid_of}
use Rattle.pll.proofs.Valid.{Valid, valid}
use Rattle.config.specs.Codes.{ref_code, sys_select, sys_aux, peri_aux, aux_code}
use Rattle.config.specs.declared.{RefClkSrc.RefClkSrc, RefClkConfig.RefClkConfig, SysClkSrc.SysClkSrc, PeriClkSrc.PeriClkSrc}
use Rattle.config.specs.declared.{AuxClkSrc.AuxClkSrc, AuxClkConfig.AuxClkConfig, RoscConfig.RoscConfig}
use Rattle.settings.specs.Frequencies.{pll_hz, sources_of, ref_source, ref_hz, sys_source, peri_source, aux_source}
use Rattle.settings.specs.{declared.Crystal.Crystal, declared.Sources.Sources, Settings.ring_hz}
use Rattle.settings.proofs.Decoded.{Small}
use Rattle.refusals.specs.Rules.{pll_invalid, sys_pll_invalid, usb_pll_invalid}
use Rattle.registers.specs.Map.{RESET, XOSC_CTRL, ROSC_CTRL, PLL_CS, PLL_PWR, PLL_FBDIV_INT, PLL_PRIM, REF_SRC, SYS_SRC, AUXSRC}
use Rattle.registers.specs.Map.{ENABLE, INT, REFDIV, FBDIV, POSTDIV1, POSTDIV2}
use Rattle.bring_up.specs.{Machine.bits_at, Machine.held, Tree.oscillates, Tree.pll_on, Tree.pll_from, Tree.sources_at}
use Rattle.bring_up.specs.Tree.{int_from, divided_from, ref_from, sys_from, peri_from, aux_from}
use Rattle.bring_up.proofs.Set.{zero-hz, PllSet, CrystalSet, packed, control}

-- ---- dividers

-- a divider is 1, 2, 3 or 4
one-of-four : (P : ℕ → Type 0) → P 1 → P 2 → P 3 → P 4 → (d : ℕ) → Small d → P d
one-of-four P a b c e zero h = absurd (omega (arith, h.0))
one-of-four P a b c e (suc zero) h = a
one-of-four P a b c e (suc (suc zero)) h = b
one-of-four P a b c e (suc (suc (suc zero))) h = c
one-of-four P a b c e (suc (suc (suc (suc zero)))) h = e
one-of-four P a b c e (suc (suc (suc (suc (suc n))))) h = absurd (omega (arith, h.1))

-- of the reference clock, and of USB and ADC
abbrev pub IntBack : Chip → ℕ → Type 0
IntBack c d = (int_from c 8 (INT c (d % 4)) ≡ d) × (int_from c 4 (INT c (d % 4)) ≡ d)

pub int-back : (c : Chip) (d : ℕ) → Small d → IntBack c d
int-back Rp2040 = one-of-four (IntBack Rp2040) (refl, refl) (refl, refl) (refl, refl) (refl, refl)
int-back Rp235x = one-of-four (IntBack Rp235x) (refl, refl) (refl, refl) (refl, refl) (refl, refl)

whole-counts : (w : ℕ) → 1 ≤ w → gpout_whole w ≡ w
whole-counts w h = rw (ne_eqb w 0 (λ e. omega arith))

pub divided-back : (c : Chip) (source w fr : ℕ) → 1 ≤ w → w ≤ (facts_of c).top_whole → fr < (facts_of c).scale
    → divided_from c source (packed c w fr) ≡ divided_hz (facts_of c).scale source w fr
divided-back Rp2040 source w fr least most small =
    let whole : bits_at 8 24 (packed Rp2040 w fr) ≡ w = omega arith in
    let fraction : bits_at 0 8 (packed Rp2040 w fr) ≡ fr = omega arith in
    ap₂ (divided_hz 256 source) (ap gpout_whole whole ∙ whole-counts w least) fraction
divided-back Rp235x source w fr least most small =
    let whole : bits_at 16 16 (packed Rp235x w fr) ≡ w = omega arith in
    let fraction : bits_at 0 16 (packed Rp235x w fr) ≡ fr = omega arith in
    ap₂ (divided_hz 65536 source) (ap gpout_whole whole ∙ whole-counts w least) fraction

-- ---- sources

pub record Read (p : PllConfig) (cs fb prim : ℕ) : Type 0 where
  pub refdiv : bits_at 0 6 cs ≡ p.refdiv
  pub fbdiv : bits_at 0 12 fb ≡ p.fbdiv
  pub post1 : bits_at 16 3 prim ≡ p.post_div1
  pub post2 : bits_at 12 3 prim ≡ p.post_div2

pub pll-read : (p : PllConfig) (hz cs fb prim : ℕ) → Valid p hz → cs ≡ REFDIV p.refdiv → fb ≡ FBDIV p.fbdiv
    → prim ≡ POSTDIV1 p.post_div1 + POSTDIV2 p.post_div2 → Read p cs fb prim
pll-read p hz cs fb prim v e0 e1 e2 =
    record {
      refdiv = omega (arith, e0, v.refdiv);
      fbdiv = omega (arith, e1, v.fbdiv);
      post1 = omega (arith, e2, v.post1, v.post2);
      post2 = omega (arith, e2, v.post1, v.post2);
    }

pub pll-on : (c : Chip) (w : ℕ) (file : ℕ → ℕ) → held c w (file (RESET c)) ≡ false → file (PLL_PWR c w) ≡ 4
    → pll_on c w file ≡ true
pll-on c w file out power = rw (out, power)

pll-true : (c : Chip) (w hz : ℕ) (o : Option PllConfig) (file : ℕ → ℕ) → pll_invalid hz o ≡ false
    → held c w (file (RESET c)) ≡ false → PllSet c w o file → pll_from c w hz file ≡ pll_hz hz o
unfolding pll_hz
pll-true c w hz (Some p) file e out set =
    let is-valid = not-false (valid_of p hz) e in
    let r =
    pll-read p hz (file (PLL_CS c w)) (file (PLL_FBDIV_INT c w)) (file (PLL_PRIM c w)) (valid p hz is-valid)
    set.1 set.2 set.3 in
    rw (pll-on c w file out set.0, is-valid, r.refdiv, r.fbdiv, r.post1, r.post2)
pll-true c w hz None file e out set = rw set

sources-are : (a b x y : ℕ) {a' b' x' y' : ℕ} → a ≡ a' → b ≡ b' → x ≡ x' → y ≡ y'
    → ◌≡◌ {A = Sources} (record { rosc = a; xosc = b; pll_sys = x; pll_usb = y })
    (record { rosc = a'; xosc = b'; pll_sys = x'; pll_usb = y' })
sources-are a b x y e0 e1 e2 e3 = rw (e0, e1, e2, e3)

pub sources-true : (c : Chip) (r : Option RoscConfig) (x : Option Crystal) (file : ℕ → ℕ)
    → sys_pll_invalid x ≡ false → usb_pll_invalid x ≡ false
    → held c 0 (file (RESET c)) ≡ false → held c 1 (file (RESET c)) ≡ false
    → pick (oscillates (file (ROSC_CTRL c))) (ring_hz r) 0 ≡ ring_hz r → CrystalSet c x file
    → sources_at c (sources_of r x).rosc (sources_of r x).xosc file ≡ sources_of r x
unfolding sources_of sys_pll_invalid usb_pll_invalid
sources-true c r (Some x) file e u out0 out1 ring set =
    let on : pick (oscillates (file (XOSC_CTRL c))) x.hz 0 ≡ x.hz = rw set.on in
    sources-are _ _ _ _ ring on
    (ap (λ (hz : ℕ). pll_from c 0 hz file) on ∙ pll-true c 0 x.hz x.sys file e out0 set.sys)
    (ap (λ (hz : ℕ). pll_from c 1 hz file) on ∙ pll-true c 1 x.hz x.usb file u out1 set.usb)
sources-true c r None file e u out0 out1 ring set =
    let xosc : ℕ = pick (oscillates (file (XOSC_CTRL c))) 0 0 in
    sources-are _ _ _ _ ring (zero-hz (oscillates (file (XOSC_CTRL c))))
    (absent c 0 xosc file out0 set.0)
    (absent c 1 xosc file out1 set.1)
  where
    absent : (c : Chip) (w hz : ℕ) (file : ℕ → ℕ) → held c w (file (RESET c)) ≡ false → file (PLL_PWR c w) ≡ 0x2D
        → pll_from c w hz file ≡ 0
    absent c w hz file out h = rw h

-- ---- clocks

ref-source : (f : Sources) (src : RefClkSrc)
    → get_or (f.rosc ∷ get_or (f.pll_usb ∷ []) (bits_at 5 2 (REF_SRC (ref_code src))) 0 ∷ f.xosc ∷ [])
    (bits_at 0 2 (REF_SRC (ref_code src))) 0 ≡ ref_source f src
ref-source f RefClkSrc.Xosc = refl
ref-source f RefClkSrc.Rosc = refl
ref-source f RefClkSrc.PllUsb = refl

pub ref-true : (c : Chip) (f : Sources) (r : RefClkConfig) (ctrl div : ℕ) → Small r.div
    → ctrl ≡ REF_SRC (ref_code r.src) → div ≡ INT c (r.div % 4) → ref_from c f ctrl div ≡ ref_hz f r
unfolding ref_hz
ref-true c f r ctrl div small e0 e1 =
    ap₂ (ref_from c f) e0 e1 ∙ ap₂ ◌/◌ (ref-source f r.src) (int-back c r.div small).0

sys-source : (f : Sources) (reference : ℕ) (src : SysClkSrc) → let ctrl = AUXSRC (sys_aux src) + SYS_SRC (sys_select src) in
    get_or (reference ∷ get_or (f.pll_sys ∷ f.pll_usb ∷ f.rosc ∷ f.xosc ∷ []) (bits_at 5 3 ctrl) 0 ∷ []) (bits_at 0 1 ctrl) 0
    ≡ sys_source f reference src
sys-source f reference SysClkSrc.Ref = refl
sys-source f reference SysClkSrc.PllSys = refl
sys-source f reference SysClkSrc.PllUsb = refl
sys-source f reference SysClkSrc.Rosc = refl
sys-source f reference SysClkSrc.Xosc = refl

pub sys-true : (c : Chip) (f : Sources) (reference : ℕ) (src : SysClkSrc) (w fr ctrl div : ℕ)
    → 1 ≤ w → w ≤ (facts_of c).top_whole → fr < (facts_of c).scale
    → ctrl ≡ AUXSRC (sys_aux src) + SYS_SRC (sys_select src) → div ≡ packed c w fr
    → sys_from c f reference ctrl div ≡ divided_hz (facts_of c).scale (sys_source f reference src) w fr
sys-true c f reference src w fr ctrl div least most small e0 e1 =
    ap₂ (sys_from c f reference) e0 e1
    ∙ ap (λ (hz : ℕ). divided_from c hz (packed c w fr)) (sys-source f reference src)
    ∙ divided-back c (sys_source f reference src) w fr least most small

over-one : (n : ℕ) → n / 1 ≡ n
over-one n = omega arith

peri-source : (f : Sources) (system : ℕ) (src : PeriClkSrc)
    → peri_from f system (AUXSRC (peri_aux src) + ENABLE) 1 ≡ peri_source f system src
peri-source f system PeriClkSrc.Sys = over-one system
peri-source f system PeriClkSrc.PllSys = over-one f.pll_sys
peri-source f system PeriClkSrc.PllUsb = over-one f.pll_usb
peri-source f system PeriClkSrc.Rosc = over-one f.rosc
peri-source f system PeriClkSrc.Xosc = over-one f.xosc

pub peri-true : (f : Sources) (system : ℕ) (src : PeriClkSrc) (ctrl divider : ℕ)
    → ctrl ≡ AUXSRC (peri_aux src) + ENABLE → divider ≡ 1 → peri_from f system ctrl divider ≡ peri_source f system src
peri-true f system src ctrl divider e0 e1 = ap₂ (peri_from f system) e0 e1 ∙ peri-source f system src

-- the fields of USB's, ADC's and RTC's control
control-read : (phase k : ℕ) → k < 8 → (bits_at 10 2 (control phase k) ≡ 2) × (bits_at 5 3 (control phase k) ≡ k)
control-read phase k h = (omega arith, omega arith)

aux-source : (f : Sources) (src : AuxClkSrc) (phase : ℕ) → aux_from f (control phase (aux_code src)) ≡ aux_source f src
aux-source f src phase =
    let read = control-read phase (aux_code src) (few src) in
    ap₂ (λ (n m : ℕ). pick (eqb n 2) (get_or (f.pll_usb ∷ f.pll_sys ∷ f.rosc ∷ f.xosc ∷ []) m 0) 0) read.0 read.1 ∙ code src
  where
    few : (src : AuxClkSrc) → aux_code src < 8
    few AuxClkSrc.PllUsb = omega arith
    few AuxClkSrc.PllSys = omega arith
    few AuxClkSrc.Rosc = omega arith
    few AuxClkSrc.Xosc = omega arith

    code : (src : AuxClkSrc)
        → get_or (f.pll_usb ∷ f.pll_sys ∷ f.rosc ∷ f.xosc ∷ []) (aux_code src) 0 ≡ aux_source f src
    code AuxClkSrc.PllUsb = refl
    code AuxClkSrc.PllSys = refl
    code AuxClkSrc.Rosc = refl
    code AuxClkSrc.Xosc = refl

pub aux-true : (c : Chip) (f : Sources) (a : AuxClkConfig) (ctrl div : ℕ) → Small a.div
    → ctrl ≡ control a.phase (aux_code a.src) → div ≡ INT c (a.div % 4)
    → aux_from f ctrl / int_from c 4 div ≡ aux_source f a.src / a.div
aux-true c f a ctrl div small e0 e1 =
    ap₂ ◌/◌ (ap (aux_from f) e0 ∙ aux-source f a.src a.phase) (ap (int_from c 4) e1 ∙ (int-back c a.div small).1)

pub rtc-true : (f : Sources) (src : AuxClkSrc) (phase w fr ctrl div : ℕ) → 1 ≤ w → w ≤ u24 → fr < 256
    → ctrl ≡ control phase (aux_code src) → div ≡ packed Rp2040 w fr
    → divided_from Rp2040 (aux_from f ctrl) div ≡ divided_hz 256 (aux_source f src) w fr
rtc-true f src phase w fr ctrl div least most small e0 e1 =
    ap₂ (divided_from Rp2040) (ap (aux_from f) e0 ∙ aux-source f src phase) e1
    ∙ divided-back Rp2040 (aux_source f src) w fr least most small
