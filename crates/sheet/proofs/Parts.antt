-- The laws of each part of a sheet, in the order of the sheet. The cases of a part are split once, for all of its laws.
use Rattle.std.specs.Prelude.{Option, Some, None, ◌≡◌, refl, Bool, true, false, ◌&&◌, List, [], ◌∷◌, ◌++◌, ℕ, ◌+◌, ◌/◌, ◌≤◌, ◌<◌}
use Rattle.std.specs.Prelude.{◌^◌, eqb}
use mathlib.Core.List.{append_assoc}
use native.Mathlib.{Omega.arith, Decide.ℕ_discrete as dec_eq}
use lib.Dec.{le→leb}
use borrow.Author.Tests.{ltb-false, not-false, eq-eqb, ne_eqb}
use Rattle.base.specs.Choice.{pick}
use Rattle.std.proofs.Math.Nat.{add-sub_cancel}
use Rattle.chip.specs.{declared.Chip.Chip, declared.Chip.TheVariants.Rp2040, declared.Chip.TheVariants.Rp235x, Chips.facts_of}
use Rattle.pll.specs.{Setting.valid_of, declared.PllConfig.PllConfig}
use Rattle.pll.proofs.Valid.{valid}
use Rattle.step.specs.{declared.Step.Step, Kinds.is, Layout.widths, Steps.storable}
use Rattle.config.specs.declared.{ChipSettings.ChipSettings, RoscConfig.RoscConfig, RefClkConfig.RefClkConfig, SysClkSrc.SysClkSrc}
use Rattle.config.specs.declared.{PeriClkSrc.PeriClkSrc, AuxClkConfig.AuxClkConfig, RtcClkConfig.RtcClkConfig}
use Rattle.config.specs.declared.SysClkSrc.TheVariants.{Ref as sys_ref}
use Rattle.settings.specs.Frequencies.{sources_of, tenth_of}
use Rattle.settings.specs.{declared.Crystal.Crystal, declared.Sources.Sources, Settings.ring_hz, Typed.RtcTyped}
use Rattle.settings.proofs.Small.{Hz, AllHz}
use Rattle.settings.proofs.Decoded.{range-code, ref-code, peri-code, aux-code, AuxSmall, div-back}
use Rattle.refusals.specs.Rules.{strengths_over, ring_divider_over, settling_over, startup_over, pll_invalid, sys_pll_invalid}
use Rattle.refusals.specs.Rules.{usb_pll_invalid, rtc_bad}
use Rattle.refusals.proofs.Accepted.{strengths-few, rtc-good}
use Rattle.sheet.specs.Steps.{step1, step2, store_step, mark_steps, head_part, ring_part, settling_steps, voltage_part, pll_steps}
use Rattle.sheet.specs.Steps.{crystal_part, source_part, tick_steps, ref_part, switch_steps, sys_part, peri_part, aux_part}
use Rattle.sheet.specs.Steps.{rtc_part, last_part}
use Rattle.sheet.specs.Stores.{stores_from}
use Rattle.sheet.specs.Read.{part, step_at, read_chip, read_ring, read_voltage, past_tick, read_pll, read_crystal, read_sys}
use Rattle.sheet.specs.Read.{read_peri, read_aux, read_rtc}
use Rattle.sheet.proofs.Facts.{AuxFits}
use Rattle.sheet.proofs.Laws.{Laws, ◌given◌, ◌and◌, mark_kinds, head_kinds, ring_kinds, voltage_kinds, pll_kinds, crystal_kinds}
use Rattle.sheet.proofs.Laws.{source_kinds, tick_kinds, ref_kinds, sys_kinds, peri_kinds, aux_kinds, rtc_kinds, last_kinds}
use Rattle.step.specs.declared.kind.Kind.TheVariants as kind

pub mark-laws : (chip : Chip) → Laws (Unit {0}) (mark_steps chip) (mark_kinds chip) []
    ((ys : List Step) → read_chip (mark_steps chip ++ (head_part chip ++ ys)) ≡ part chip (head_part chip ++ ys))
unfolding head_part widths storable
mark-laws Rp2040 = record { good = λ h. tt; most = λ w. omega arith; stores = refl; back = λ ys. refl }
mark-laws Rp235x = record { good = λ h. omega arith; most = λ w. omega arith; stores = refl; back = λ ys. refl }

-- The masks have 25 bits.
pub masks : (chip : Chip) → ((facts_of chip).first < 2 ^ 25) × ((facts_of chip).plls < 2 ^ 25) × ((facts_of chip).last < 2 ^ 25)
masks Rp2040 = omega arith
masks Rp235x = omega arith

pub head-laws : (chip : Chip) → Laws (Unit {0}) (head_part chip) head_kinds [] (Unit {0})
unfolding head_part widths storable
head-laws chip = record { good = λ h. omega (arith, masks chip); most = λ w. omega arith; stores = refl; back = tt }

pub ring-source : (r : Option RoscConfig) (o : Option Crystal) → (sources_of r o).rosc ≡ ring_hz r
unfolding sources_of
ring-source r (Some x) = refl
ring-source r None = refl

pub ring-laws : (pass : ℕ) (o : Option RoscConfig) (x : Option Crystal)
    → Laws (Hz (sources_of o x).rosc × (strengths_over o ≡ false) × (ring_divider_over pass o ≡ false)) (ring_part pass o) ring_kinds
    (store_step 0 (sources_of o x).rosc ∷ []) ((ys : List Step) → read_ring pass (ring_part pass o ++ ys) ≡ part o ys)
unfolding ring_part strengths_over ring_divider_over widths storable
ring-laws pass (Some r) x =
    let code = range-code r.range in
    let same = ring-source (Some r) x in
    record {
      good = λ h. omega (arith, strengths-few r.drive_strength h.1, ltb-false _ (r.div + pass) h.2);
      most = λ w. omega arith;
      stores = rw same;
      back = λ ys. rw (code.0, add-sub_cancel r.div pass);
    }
ring-laws pass None x =
    record { good = λ h. omega arith; most = λ w. omega arith; stores = rw (ring-source None x); back = λ ys. refl }

module _ (reading code brownout : ℕ) where
  -- The voltage is read back where a voltage that stays has no settling step and the next part does not begin with a voltage.
  abbrev VoltageLaws : Chip → Option ℕ → List Step → Type 0
  VoltageLaws chip o xs =
      Laws ((code < 16) × (brownout < 16) × (settling_over o ≡ false)) xs (voltage_kinds chip) []
      ((ys : List Step) → (code ≡ reading → o ≡ None) → is (step_at ys 0).kind (facts_of chip).voltage ≡ false
      → read_voltage (facts_of chip).voltage reading (xs ++ ys) ≡ part (record { code = code; settling = o }) ys)

  changed : (chip : Chip) (o : Option ℕ)
      → VoltageLaws chip o (step1 (facts_of chip).voltage code ∷ (settling_steps o ++ (step1 (facts_of chip).brownout brownout ∷ [])))
  unfolding settling_over widths storable
  changed Rp2040 None = record { good = λ h. omega arith; most = λ w. omega arith; stores = refl; back = λ ys still next. refl }
  changed Rp235x None = record { good = λ h. omega arith; most = λ w. omega arith; stores = refl; back = λ ys still next. refl }
  changed Rp2040 (Some n) =
      record { good = λ h. omega (arith, ltb-false _ n h.2); most = λ w. omega arith; stores = refl; back = λ ys still next. refl }
  changed Rp235x (Some n) =
      record { good = λ h. omega (arith, ltb-false _ n h.2); most = λ w. omega arith; stores = refl; back = λ ys still next. refl }

pub voltage-laws : (reading : ℕ) (b : ChipSettings) (o : Option ℕ)
    → VoltageLaws reading b.volts.code b.volts.brownout b.model o (voltage_part reading b o)
unfolding voltage_part
voltage-laws reading b o = elim (dec_eq b.volts.code reading) [
  | yes same ↦
      rw (eq-eqb b.volts.code reading same)
      (record { good = λ h. tt; most = λ w. omega arith; stores = refl; back = λ ys still next. rw (next, still same, same) })
  | no other ↦ rw (ne_eqb b.volts.code reading other) (changed reading b.volts.code b.volts.brownout b.model o)
]

-- A PLL is read back where the step after it is not one of the same PLL.
pll-laws : (which hz : ℕ) (o : Option PllConfig) → Laws ((which < 2) × (pll_invalid hz o ≡ false)) (pll_steps which o) pll_kinds []
    ((ys : List Step) → (is (step_at ys 0).kind kind.PllPower && eqb (step_at ys 0).f0 which) ≡ false
    → read_pll which (pll_steps which o ++ ys) ≡ part o ys)
unfolding widths storable
pll-laws which hz (Some p) =
    record {
      good = λ h. omega (arith, valid p hz (not-false (valid_of p hz) h.1));
      most = λ w. omega arith;
      stores = refl;
      back = λ ys next. rw (eq-eqb which which refl);
    }
pll-laws which hz None = record { good = λ h. tt; most = λ w. omega arith; stores = refl; back = λ ys next. rw next }

abbrev CrystalFits : Option Crystal → Type 0
CrystalFits o = (startup_over o ≡ false) × (sys_pll_invalid o ≡ false) × (usb_pll_invalid o ≡ false)

pub crystal-laws : (r : Option RoscConfig) (o : Option Crystal) → Laws (CrystalFits o) (crystal_part o) crystal_kinds []
    ((ys : List Step) → read_crystal (crystal_part o ++ (store_step 1 (sources_of r o).xosc ∷ ys))
    ≡ part o (store_step 1 (sources_of r o).xosc ∷ ys))
unfolding crystal_part startup_over sys_pll_invalid usb_pll_invalid sources_of widths storable
crystal-laws r (Some x) =
    let sys = pll-laws 0 x.hz x.sys in
    let usb = pll-laws 1 x.hz x.usb in
    let plls = sys given (λ (h : CrystalFits (Some x)). (omega arith, h.1)) and usb given (λ h. (omega arith, h.2)) in
    record {
      good = λ h. (omega (arith, ltb-false 16383 x.delay h.0), (omega arith, (omega arith, plls.good h)));
      most = λ w. omega (arith, plls.most w);
      stores = plls.stores;
      back = λ ys. rw (append_assoc (pll_steps 0 x.sys) (pll_steps 1 x.usb), sys.back _ (next x.usb ys), usb.back _ refl);
    }
  where
    next : (u : Option PllConfig) (ys : List Step)
        → (is (step_at (pll_steps 1 u ++ (store_step 1 x.hz ∷ ys)) 0).kind kind.PllPower
        && eqb (step_at (pll_steps 1 u ++ (store_step 1 x.hz ∷ ys)) 0).f0 0) ≡ false
    next (Some q) ys = refl
    next None ys = refl
crystal-laws r None = record { good = λ h. tt; most = λ w. omega arith; stores = refl; back = λ ys. refl }

-- Neither the part of the crystal nor the store after it begins with a voltage.
pub crystal-next : (chip : Chip) (o : Option Crystal) (hz : ℕ) (ys : List Step)
    → is (step_at (crystal_part o ++ (store_step 1 hz ∷ ys)) 0).kind (facts_of chip).voltage ≡ false
unfolding crystal_part
crystal-next Rp2040 (Some x) hz ys = refl
crystal-next Rp2040 None hz ys = refl
crystal-next Rp235x (Some x) hz ys = refl
crystal-next Rp235x None hz ys = refl

pub source-laws : (f : Sources) → Laws (AllHz f) (source_part f) source_kinds (source_part f) (Unit {0})
unfolding widths storable
source-laws f = record { good = λ h. omega arith; most = λ w. omega arith; stores = refl; back = tt }

tick-laws : (chip : Chip) (mhz : ℕ) → Laws (mhz < 512) (tick_steps chip mhz) (tick_kinds chip) []
    ((ys : List Step) → past_tick chip (tick_steps chip mhz ++ ys) ≡ ys)
unfolding widths storable
tick-laws Rp2040 mhz = record { good = λ h. omega arith; most = λ w. omega arith; stores = refl; back = λ ys. refl }
tick-laws Rp235x mhz = record { good = λ h. omega arith; most = λ w. omega arith; stores = refl; back = λ ys. refl }

-- The source and the divider of the reference are read back from their codes; its ticks are passed over.
pub ref-laws : (chip : Chip) (hz : ℕ) (c : RefClkConfig)
    → Laws (hz < 512000000) (ref_part chip hz c) (ref_kinds chip) (store_step 4 hz ∷ [])
    ((ys : List Step) → past_tick chip (tick_steps chip (hz / 1000000) ++ ys) ≡ ys)
unfolding widths storable
ref-laws chip hz c =
    let tick = tick-laws chip (hz / 1000000) in
    let code = (ref-code c.src).1 in
    record {
      good = λ h. (omega arith, (omega arith, (omega arith, (omega arith, tick.good (omega arith)))));
      most = λ w. omega (arith, tick.most w);
      stores = rw tick.stores;
      back = tick.back;
    }

-- The divider is not read as 28, which follows 6 where the source is not the reference clock.
divider-laws : (chip : Chip) (w f : ℕ)
    → Laws ((w ≤ (facts_of chip).top_whole) × (f < (facts_of chip).scale)) (step2 (facts_of chip).divider w f ∷ [])
    ((facts_of chip).divider ∷ []) [] (is (facts_of chip).divider kind.SysControl ≡ false)
unfolding widths storable
divider-laws Rp2040 w f = record { good = λ h. omega arith; most = λ k. omega arith; stores = refl; back = refl }
divider-laws Rp235x w f = record { good = λ h. omega arith; most = λ k. omega arith; stores = refl; back = refl }

pub sys-laws : (b : ChipSettings) (hz : ℕ) (src : SysClkSrc)
    → Laws (Hz hz × (b.whole ≤ (facts_of b.model).top_whole) × (b.fraction < (facts_of b.model).scale)) (sys_part b hz src)
    (sys_kinds b.model) (store_step 5 hz ∷ [])
    ((ys : List Step) → read_sys (sys_part b hz src ++ ys) ≡ part (record { src = src; whole = b.whole; fraction = b.fraction }) ys)
unfolding sys_part switch_steps widths storable
sys-laws b hz sys_ref =
    let divider = divider-laws b.model b.whole b.fraction in
    record {
      good = λ h. (omega arith, (omega arith, (omega arith, divider.good (h.1, h.2))));
      most = λ w. omega arith;
      stores = rw divider.stores;
      back = λ ys. rw divider.back;
    }
sys-laws b hz src =
    let divider = divider-laws b.model b.whole b.fraction in
    record {
      good = λ h. (omega arith, (omega arith, (omega arith, (omega arith, (omega arith, divider.good (h.1, h.2))))));
      most = λ w. omega arith;
      stores = rw divider.stores;
      back = λ ys. refl;
    }

pub peri-laws : (hz : ℕ) (o : Option PeriClkSrc) → Laws (Hz hz) (peri_part hz o) peri_kinds (store_step 6 hz ∷ [])
    ((ys : List Step) → read_peri (peri_part hz o ++ ys) ≡ part o ys)
unfolding peri_part widths storable
peri-laws hz (Some src) =
    let code = peri-code src in
    record { good = λ h. omega arith; most = λ w. omega arith; stores = refl; back = λ ys. rw code.0 }
peri-laws hz None = record { good = λ h. omega arith; most = λ w. omega arith; stores = refl; back = λ ys. refl }

-- The steps of the USB clock where `usb` is true, else of the ADC clock.
abbrev aux_of : (usb : Bool) → ℕ → Option AuxClkConfig → List Step
aux_of true hz o = aux_part kind.UsbDivider kind.UsbControl 7 hz o
aux_of false hz o = aux_part kind.AdcDivider kind.AdcControl 8 hz o

pub aux-laws : (usb : Bool) (hz : ℕ) (o : Option AuxClkConfig)
    → Laws (Hz hz × AuxFits o) (aux_of usb hz o) (aux_kinds usb) (store_step (pick usb 7 8) hz ∷ [])
    (AuxSmall o → (ys : List Step) → read_aux (pick usb kind.UsbDivider kind.AdcDivider) (aux_of usb hz o ++ ys) ≡ part o ys)
unfolding aux_part widths storable
aux-laws true hz None = record { good = λ h. omega arith; most = λ w. omega arith; stores = refl; back = λ d ys. refl }
aux-laws false hz None = record { good = λ h. omega arith; most = λ w. omega arith; stores = refl; back = λ d ys. refl }
aux-laws true hz (Some a) =
    let code = aux-code a.src in
    record { good = λ h. omega arith; most = λ w. omega arith; stores = refl; back = λ d ys. rw (code.0, div-back a.div d) }
aux-laws false hz (Some a) =
    let code = aux-code a.src in
    record { good = λ h. omega arith; most = λ w. omega arith; stores = refl; back = λ d ys. rw (code.0, div-back a.div d) }

-- The part of the RTC with the last release. The RP235x has no RTC, so its part is empty and is read back as no RTC.
pub last-laws : (chip : Chip) (source hz mask : ℕ) (o : Option RtcClkConfig)
    → Laws ((mask < 2 ^ 25) × (hz ≤ 65535) × RtcTyped o × (rtc_bad source hz o ≡ false)) (rtc_part chip hz o ++ last_part mask)
    (rtc_kinds chip ++ last_kinds) (stores_from 9 (tenth_of chip hz))
    ((chip ≡ Rp235x → o ≡ None) → read_rtc (rtc_part chip hz o ++ last_part mask) ≡ o)
unfolding rtc_part rtc_bad widths storable
last-laws Rp2040 source hz mask (Some r) =
    let code = aux-code r.src in
    record {
      good = λ h. let good = rtc-good source hz r h.3 in omega (arith, le→leb, code.1);
      most = λ w. omega arith;
      stores = refl;
      back = λ none. rw code.0;
    }
last-laws Rp2040 source hz mask None =
    record { good = λ h. omega (arith, le→leb); most = λ w. omega arith; stores = refl; back = λ none. refl }
last-laws Rp235x source hz mask o =
    record { good = λ h. omega arith; most = λ w. omega arith; stores = refl; back = λ none. rw (none refl) }
