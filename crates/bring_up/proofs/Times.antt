-- The stored frequencies are true: the last part that writes a register of the clock tree fixes its value, and that
-- value gives the stored frequency.
use Rattle.std.specs.Prelude.{Option, Some, None, false, ◌≡◌, refl, ℕ, ◌/◌}
use mathlib.Core.Path.{ap, ◌∙◌}
use native.Mathlib.Omega.{arith}
use Rattle.base.specs.Choice.{pick}
use Rattle.chip.specs.{declared.Chip.Chip, declared.Chip.TheVariants.Rp2040, declared.Chip.TheVariants.Rp235x, Chips.facts_of}
use Rattle.config.specs.declared.{ChipConfig.ChipConfig, AuxClkConfig.AuxClkConfig, RtcClkConfig.RtcClkConfig}
use Rattle.config.specs.{declared.PeriClkSrc.PeriClkSrc, ChipSettings.chip_of}
use Rattle.pll.specs.declared.PllConfig.{PllConfig}
use Rattle.settings.specs.Frequencies.{sys_hz, peri_hz, aux_hz, rtc_hz, sources_in, ref_in, sys_in, frequencies_of}
use Rattle.settings.specs.declared.{Settings.Settings, Sources.Sources, Frequencies.Frequencies}
use Rattle.settings.specs.{declared.Crystal.Crystal, Settings.settings_of, Settings.ring_hz, Typed.Typed, Typed.RtcTyped}
use Rattle.settings.proofs.Decoded.{AuxSmall}
use Rattle.refusals.specs.{Rules.rtc_bad, Refusals.refusal_of}
use Rattle.refusals.proofs.Accepted.{accepted-by, divider-good, whole-good, rtc-good}
use Rattle.sheet.proofs.Facts.{aux-fits, aux-divider}
use Rattle.registers.specs.Map.{RESET, CLK_REF_CTRL, CLK_REF_DIV, CLK_SYS_CTRL, CLK_SYS_DIV, CLK_PERI_CTRL, CLK_USB_CTRL}
use Rattle.registers.specs.Map.{CLK_USB_DIV, CLK_ADC_CTRL, CLK_ADC_DIV, CLK_RTC_CTRL, CLK_RTC_DIV, XOSC_CTRL, ROSC_CTRL, PLL_CS}
use Rattle.registers.specs.Map.{PLL_PWR, PLL_FBDIV_INT, PLL_PRIM}
use Rattle.sheet.specs.Steps.{crystal_part, peri_part, rtc_part, release_mask, clocks_part, steps_of}
use Rattle.bring_up.specs.Machine.{held, carried_out}
use Rattle.bring_up.specs.Tree.{oscillates, sources_at, ref_at, sys_at, rtc_at, sys_from, peri_from, aux_from, CLK_PERI_DIV}
use Rattle.bring_up.specs.Tree.{int_from, peri_divider}
use Rattle.std.specs.Option.{is_some}
use Rattle.bring_up.specs.Times.{Runs, AllTrue, TimesAreTrue}
use Rattle.bring_up.proofs.Parts.{Aux, Usb, Adc, aux_control, aux_divider, aux_of}
use Rattle.bring_up.proofs.Sheet.{up_to, holds, stays}
use Rattle.bring_up.proofs.Set.{head-sets, ring-sets, PllSet, CrystalSet, crystal-sets, pll-moves, ref-sets, sys-sets, peri-sets}
use Rattle.bring_up.proofs.Set.{aux-sets, rtc-sets, peri-absent, aux-absent, rtc-absent, last-sets}
use Rattle.bring_up.proofs.Hz.{sources-true, ref-true, sys-true, peri-true, aux-true, rtc-true}

-- ---- the sources

-- no PLL is in reset
pub held_none : (c : Chip) (reset : ℕ) → reset ≡ 0 → (held c 0 reset ≡ false) × (held c 1 reset ≡ false)
held_none Rp2040 reset e = (ap (held Rp2040 0) e, ap (held Rp2040 1) e)
held_none Rp235x reset e = (ap (held Rp235x 0) e, ap (held Rp235x 1) e)

-- nothing is in reset before the last part, nor after it; and it keeps PWR
reset-before : (reading : ℕ) (s : Settings) (before : ℕ → ℕ) → up_to 12 reading s before (RESET s.chip.model) ≡ 0
reset-before reading s before =
    let c : Chip = s.chip.model in
    holds 12 1 reading s before RESET refl refl ∙ (head-sets c (up_to 1 reading s before)).0

pub record Ended (reading : ℕ) (s : Settings) (before : ℕ → ℕ) : Type 0 where
  pub reset : up_to 13 reading s before (RESET s.chip.model) ≡ 0
  pub sys : up_to 13 reading s before (PLL_PWR s.chip.model 0) ≡ up_to 12 reading s before (PLL_PWR s.chip.model 0)
  pub usb : up_to 13 reading s before (PLL_PWR s.chip.model 1) ≡ up_to 12 reading s before (PLL_PWR s.chip.model 1)

pub ended : (reading : ℕ) (s : Settings) (before : ℕ → ℕ) → Ended reading s before
ended reading s before =
    let c : Chip = s.chip.model in
    let mask : ℕ = release_mask c s.peri s.usb s.adc s.chip.rtc in
    let set = last-sets c mask (up_to 12 reading s before) (reset-before reading s before) in
    record {
      reset = holds 13 12 reading s before RESET refl refl ∙ set.0;
      sys = holds 13 12 reading s before (λ c. PLL_PWR c 0) refl refl ∙ set.1;
      usb = holds 13 12 reading s before (λ c. PLL_PWR c 1) refl refl ∙ set.2;
    }

-- the crystal's part and its PLLs, at the sheet's end
crystal-moves : (c : Chip) (x : Option Crystal) (f g : ℕ → ℕ) → f (XOSC_CTRL c) ≡ g (XOSC_CTRL c)
    → ((o : Option PllConfig) → PllSet c 0 o g → PllSet c 0 o f) → ((o : Option PllConfig) → PllSet c 1 o g → PllSet c 1 o f)
    → CrystalSet c x g → CrystalSet c x f
crystal-moves c (Some x) f g e sys usb h =
    record { on = ap oscillates e ∙ h.on; sys = sys x.sys h.sys; usb = usb x.usb h.usb }
crystal-moves c None f g e sys usb h = (sys None h.0, usb None h.1)

pub crystal-ends : (reading : ℕ) (s : Settings) (before : ℕ → ℕ)
    → CrystalSet s.chip.model s.xosc (up_to 13 reading s before)
crystal-ends reading s before =
    let c : Chip = s.chip.model in
    let f : ℕ → ℕ = up_to 13 reading s before in
    let start : ℕ → ℕ = up_to 4 reading s before in
    let g : ℕ → ℕ = carried_out c (crystal_part s.xosc) start in
    let headed = head-sets c (up_to 1 reading s before) in
    let off0 = holds 4 1 reading s before (λ c. PLL_PWR c 0) refl refl ∙ headed.1 in
    let off1 = holds 4 1 reading s before (λ c. PLL_PWR c 1) refl refl ∙ headed.2 in
    let end = ended reading s before in
    crystal-moves c s.xosc f g (holds 13 4 reading s before XOSC_CTRL refl refl)
    (λ o.
    pll-moves c 0 o f g (end.sys ∙ holds 12 4 reading s before (λ c. PLL_PWR c 0) refl refl)
    (holds 13 4 reading s before (λ c. PLL_CS c 0) refl refl)
    (holds 13 4 reading s before (λ c. PLL_FBDIV_INT c 0) refl refl)
    (holds 13 4 reading s before (λ c. PLL_PRIM c 0) refl refl))
    (λ o.
    pll-moves c 1 o f g (end.usb ∙ holds 12 4 reading s before (λ c. PLL_PWR c 1) refl refl)
    (holds 13 4 reading s before (λ c. PLL_CS c 1) refl refl)
    (holds 13 4 reading s before (λ c. PLL_FBDIV_INT c 1) refl refl)
    (holds 13 4 reading s before (λ c. PLL_PRIM c 1) refl refl))
    (crystal-sets c s.xosc start off0 off1)

sources-are : (reading : ℕ) (s : Settings) (before : ℕ → ℕ) → refusal_of s reading ≡ None
    → sources_at s.chip.model (sources_in s).rosc (sources_in s).xosc (up_to 13 reading s before) ≡ sources_in s
sources-are reading s before ok =
    let c : Chip = s.chip.model in
    let a = accepted-by s reading ok in
    let after : ℕ → ℕ = up_to 13 reading s before in
    let out = held_none c (after (RESET c)) (ended reading s before).reset in
    let ring = holds 13 2 reading s before ROSC_CTRL refl refl in
    sources-true c s.rosc s.xosc after (a 5) (a 6) out.0 out.1
    (ap (λ (ctrl : ℕ). pick (oscillates ctrl) (ring_hz s.rosc) 0) ring
    ∙ ring-sets c (facts_of c).pass s.rosc (up_to 2 reading s before))
    (crystal-ends reading s before)

-- ---- the clocks that may be absent: the registers after the part of each, by whether the plan has it

divider-same : (c : Chip) (f g : ℕ → ℕ) → f CLK_PERI_DIV ≡ g CLK_PERI_DIV → peri_divider c f ≡ peri_divider c g
divider-same Rp2040 f g e = refl
divider-same Rp235x f g e = ap (int_from Rp235x 2) e

-- the peripheral clock where its divider is 1, and without it at any divider
peri-runs : (c : Chip) (hz : ℕ) (o : Option PeriClkSrc) (f : Sources) (now system divider : ℕ) (file before after : ℕ → ℕ)
    → after (CLK_PERI_CTRL c) ≡ carried_out c (peri_part hz o) file (CLK_PERI_CTRL c)
    → file (CLK_PERI_CTRL c) ≡ before (CLK_PERI_CTRL c) → now ≡ system
    → (divider ≡ 1
    → Runs (is_some o) (peri_from f now (after (CLK_PERI_CTRL c)) divider) (peri_hz f system o) (CLK_PERI_CTRL c) before after)
    × (is_some o ≡ false → after (CLK_PERI_CTRL c) ≡ before (CLK_PERI_CTRL c))
peri-runs c hz (Some src) f now system divider file before after e0 e1 e2 = (
  λ one. ap (λ (n : ℕ). peri_from f n (after (CLK_PERI_CTRL c)) divider) e2
      ∙ peri-true f system src (after (CLK_PERI_CTRL c)) divider (e0 ∙ peri-sets c hz src file) one,
  λ off. let z : ◌≡◌ {A = ℕ} 0 1 = cc in absurd (omega arith),
)
peri-runs c hz None f now system divider file before after e0 e1 e2 =
    let kept = e0 ∙ peri-absent c hz file (CLK_PERI_CTRL c) ∙ e1 in (λ one. kept, λ off. kept)

aux-runs : (c : Chip) (k : Aux) (hz : ℕ) (o : Option AuxClkConfig) (f : Sources) (file before after : ℕ → ℕ) → AuxSmall o
    → let set = carried_out c (aux_of k hz o) file in
    after (aux_control c k) ≡ set (aux_control c k) → after (aux_divider c k) ≡ set (aux_divider c k)
    → file (aux_control c k) ≡ before (aux_control c k)
    → Runs (is_some o) (aux_from f (after (aux_control c k)) / int_from c 4 (after (aux_divider c k))) (aux_hz f o)
    (aux_control c k) before after
aux-runs c k hz (Some a) f file before after small e0 e1 e2 =
    let set = aux-sets c k hz a file in
    aux-true c f a (after (aux_control c k)) (after (aux_divider c k)) small (e0 ∙ set.0) (e1 ∙ set.1)
aux-runs c k hz None f file before after small e0 e1 e2 =
    e0 ∙ aux-absent c k hz file (aux_control c k) ∙ e2

-- only a plan for the RP2040 has an RTC
abbrev RtcOf : Chip → Option RtcClkConfig → Type 0
RtcOf Rp2040 o = Unit {0}
RtcOf Rp235x (Some r) = ⊥
RtcOf Rp235x None = Unit {0}

rtc-of : (k : ChipConfig) → RtcOf (chip_of k).model (chip_of k).rtc
rtc-of (ChipConfig.Rp2040 k) = tt
rtc-of (ChipConfig.Rp235x k) = tt

rtc-runs : (c : Chip) (source hz : ℕ) (o : Option RtcClkConfig) (f : Sources) (file before after : ℕ → ℕ)
    → RtcOf c o → RtcTyped o → rtc_bad source hz o ≡ false
    → let set = carried_out c (rtc_part c hz o) file in
    after CLK_RTC_CTRL ≡ set CLK_RTC_CTRL → after CLK_RTC_DIV ≡ set CLK_RTC_DIV → file CLK_RTC_CTRL ≡ before CLK_RTC_CTRL
    → Runs (is_some o) (rtc_at f after) (rtc_hz f o) CLK_RTC_CTRL before after
rtc-runs Rp2040 source hz (Some r) f file before after one typed good e0 e1 e2 =
    let set = rtc-sets hz r file in
    let w = rtc-good source hz r good in
    rtc-true f r.src r.phase r.div_int r.div_frac (after CLK_RTC_CTRL) (after CLK_RTC_DIV) w.0 w.1 typed
    (e0 ∙ set.0) (e1 ∙ set.1)
rtc-runs Rp235x source hz (Some r) f file before after one typed good e0 e1 e2 = absurd one
rtc-runs c source hz None f file before after one typed good e0 e1 e2 =
    e0 ∙ rtc-absent c hz file CLK_RTC_CTRL ∙ e2

-- ---- all clocks, over the sources that the sheet stores

true_of : (reading : ℕ) (s : Settings) (before : ℕ → ℕ) → refusal_of s reading ≡ None → Typed s → RtcOf s.chip.model s.chip.rtc
    → (now : Sources) → now ≡ sources_in s
    → AllTrue s (frequencies_of s) s.chip.model now before (up_to 13 reading s before)
unfolding sys_hz
true_of reading s before ok t one now same =
    let c : Chip = s.chip.model in
    let a = accepted-by s reading ok in
    let f : Frequencies = frequencies_of s in
    let after : ℕ → ℕ = up_to 13 reading s before in
    let r = ref-sets c f.reference s.reference (up_to 6 reading s before) in
    let y = sys-sets s.chip f.sys s.sys (up_to 7 reading s before) in
    let whole = whole-good (facts_of c).top_whole s.chip.whole (a 9) in
    let reference : ref_at c (sources_in s) after ≡ ref_in s =
    ref-true c (sources_in s) s.reference (after (CLK_REF_CTRL c)) (after (CLK_REF_DIV c)) (divider-good s.reference.div (a 7))
    (holds 13 6 reading s before CLK_REF_CTRL refl refl ∙ r.0)
    (holds 13 6 reading s before CLK_REF_DIV refl refl ∙ r.1) in
    let system : sys_at c (sources_in s) after ≡ sys_in s =
    ap (λ (n : ℕ). sys_from c (sources_in s) n (after (CLK_SYS_CTRL c)) (after (CLK_SYS_DIV c))) reference
    ∙ sys-true c (sources_in s) (ref_in s) s.sys s.chip.whole s.chip.fraction (after (CLK_SYS_CTRL c))
    (after (CLK_SYS_DIV c)) whole.0 whole.1 t.fraction
    (holds 13 7 reading s before CLK_SYS_CTRL refl refl ∙ y.0)
    (holds 13 7 reading s before CLK_SYS_DIV refl refl ∙ y.1) in
    let divider = divider-same c after before (stays 13 reading s before (λ c. CLK_PERI_DIV) refl refl) in
    let peri =
    peri-runs c f.peri s.peri (sources_in s) (sys_at c (sources_in s) after) (sys_in s) (peri_divider c after)
    (up_to 8 reading s before) before after
    (holds 13 8 reading s before CLK_PERI_CTRL refl refl)
    (stays 8 reading s before CLK_PERI_CTRL refl refl) system in
    rw same
    (record {
      sources = refl;
      reference = reference;
      sys = system;
      peri = λ one. peri.0 (divider ∙ one);
      peri_off = peri.1;
      peri_divider_kept = divider;
      usb =
          aux-runs c Usb f.usb s.usb (sources_in s) (up_to 9 reading s before) before after
          (aux-divider s.usb (aux-fits f.usb_source s.usb (a 12)))
          (holds 13 9 reading s before CLK_USB_CTRL refl refl)
          (holds 13 9 reading s before CLK_USB_DIV refl refl)
          (stays 9 reading s before CLK_USB_CTRL refl refl);
      adc =
          aux-runs c Adc f.adc s.adc (sources_in s) (up_to 10 reading s before) before after
          (aux-divider s.adc (aux-fits f.adc_source s.adc (a 13)))
          (holds 13 10 reading s before CLK_ADC_CTRL refl refl)
          (holds 13 10 reading s before CLK_ADC_DIV refl refl)
          (stays 10 reading s before CLK_ADC_CTRL refl refl);
      rtc =
          rtc-runs c f.rtc_source f.rtc s.chip.rtc (sources_in s) (up_to 11 reading s before) before after
          one t.rtc (a 14)
          (holds 13 11 reading s before (λ c. CLK_RTC_CTRL) refl refl)
          (holds 13 11 reading s before (λ c. CLK_RTC_DIV) refl refl)
          (stays 11 reading s before (λ c. CLK_RTC_CTRL) refl refl);
    })

pub times-are-true : TimesAreTrue
unfolding steps_of clocks_part
times-are-true p reading ok t before =
    let s = settings_of p reading in
    true_of reading s before ok t (rtc-of p.chip)
    (sources_at s.chip.model (sources_in s).rosc (sources_in s).xosc (up_to 13 reading s before))
    (sources-are reading s before ok)
