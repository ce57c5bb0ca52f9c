-- The laws of a whole sheet. No sheet weighs more than one with everything present. It stores the frequencies of the settings, one
-- for each clock in the order of the clocks: ten, on the RP235x nine. The settings of an accepted plan are read back from its steps,
-- and each of these steps is well formed.
use Rattle.std.specs.Prelude.{◌≡◌, refl, true, false, List, [], ◌∷◌, None, ℕ, ◌≤◌, ◌<◌, length}
use native.Mathlib.Omega.{arith}
use Rattle.chip.specs.{declared.Chip.Chip, declared.Chip.TheVariants.Rp2040, declared.Chip.TheVariants.Rp235x, Chips.facts_of}
use Rattle.config.specs.declared.ChipConfig.TheVariants.{Rp2040 as on2040, Rp235x as on235x}
use Rattle.config.specs.{declared.ChipConfig.ChipConfig, declared.ClockConfig.ClockConfig, ChipSettings.chip_of}
use Rattle.step.specs.{declared.Step.Step, declared.kind.Kind.Kind, Sheet.AllFormed, Sheet.max_steps}
use Rattle.settings.specs.Frequencies.{frequencies_of, stored_of}
use Rattle.settings.specs.{declared.Settings.Settings, Settings.settings_of, Typed.Typed}
use Rattle.settings.proofs.Decoded.{ref-code, div-back, chip-back, volts-small, Small, AuxSmall}
use Rattle.refusals.specs.Refusals.{tests_of, Accepted}
use Rattle.refusals.proofs.Accepted.{test_of, accepted-by, divider-good, whole-good, reference-good}
use Rattle.refusals.proofs.Stored.{Stored, stored}
use Rattle.sheet.specs.Steps.{head_part, release_mask, clocks_part, steps_of, most_steps}
use Rattle.sheet.specs.{Read.settings_from, Stores.stores_in, Stores.stores_from}
use Rattle.sheet.proofs.Facts.{aux-fits, aux-divider, settling-none}
use Rattle.sheet.proofs.Laws.{all-formed, weight, weigh, Laws, ◌given◌, ◌and◌, clocks_kinds, sheet_kinds}
use Rattle.sheet.proofs.Parts.{mark-laws, masks, head-laws, ring-laws, voltage-laws, crystal-laws, crystal-next, source-laws}
use Rattle.sheet.proofs.Parts.{ref-laws, sys-laws, peri-laws, aux-laws, last-laws}

-- What is known of the settings of an accepted plan.
pub record Known (reading : ℕ) (s : Settings) : Type 0 where
  pub rules : (n : ℕ) → test_of n (tests_of s (frequencies_of s) reading) ≡ false
  pub typed : Typed s
  pub stored : Stored (frequencies_of s)
  pub volts : (s.chip.volts.code < 16) × (s.chip.volts.brownout < 16)

pub sheet-laws : (reading : ℕ) (s : Settings)
    → Laws (Known reading s) (steps_of reading s) (sheet_kinds s.chip.model) (stores_from 0 (stored_of s)) (Unit {0})
unfolding steps_of clocks_part sheet_kinds clocks_kinds stored_of release_mask
sheet-laws reading s =
    let b = s.chip in
    let chip = b.model in
    let f = frequencies_of s in
    mark-laws chip given (λ (k : Known reading s). tt)
    and head-laws chip given (λ k. tt)
    and ring-laws (facts_of chip).pass s.rosc s.xosc given (λ k. (k.typed.rosc, k.rules 1, k.rules 2))
    and voltage-laws reading b s.settling given (λ k. (k.volts.0, k.volts.1, k.rules 3))
    and crystal-laws s.rosc s.xosc given (λ k. (k.rules 4, k.rules 5, k.rules 6))
    and source-laws f.sources given (λ k. k.stored.sources)
    and ref-laws chip f.reference s.reference given (λ k. reference-good f.reference (k.rules 8))
    and sys-laws b f.sys s.sys given (λ k. (k.stored.sys, (whole-good _ b.whole (k.rules 9)).1, k.typed.fraction))
    and peri-laws f.peri s.peri given (λ k. k.stored.peri)
    and aux-laws true f.usb s.usb given (λ k. (k.stored.usb, aux-fits _ _ (k.rules 12)))
    and aux-laws false f.adc s.adc given (λ k. (k.stored.adc, aux-fits _ _ (k.rules 13)))
    and last-laws chip f.rtc_source f.rtc (release_mask chip s.peri s.usb s.adc b.rtc) b.rtc
    given (λ k. (omega (arith, (masks chip).2), k.stored.rtc, k.typed.rtc, k.rules 14))

pub steps-formed : (p : ClockConfig) (reading : ℕ) → Accepted p reading → Typed (settings_of p reading)
    → AllFormed (steps_of reading (settings_of p reading))
steps-formed p reading ok t =
    let s = settings_of p reading in
    all-formed (steps_of reading s)
    ((sheet-laws reading s).good
    (record { rules = accepted-by s reading ok; typed = t; stored = stored s reading t ok; volts = volts-small p.chip }))

pub sheet-stores : (reading : ℕ) (s : Settings) → stores_in (steps_of reading s) ≡ stores_from 0 (stored_of s)
sheet-stores reading s = (sheet-laws reading s).stores

pub steps-most : (w : Kind → ℕ) (reading : ℕ) (s : Settings) → weigh w (steps_of reading s) ≤ weight w (sheet_kinds s.chip.model)
steps-most w reading s = (sheet-laws reading s).most w

-- With weight 1 a sheet weighs the number of its steps.
counted : (xs : List Step) → weigh (λ k. 1) xs ≡ length xs
counted [] = omega arith
counted (x ∷ xs) = omega (arith, counted xs)

chip-count : (chip : Chip) → (weight (λ k. 1) (sheet_kinds chip) ≡ most_steps chip) × (most_steps chip ≤ max_steps)
unfolding sheet_kinds clocks_kinds
chip-count Rp2040 = (refl, omega arith)
chip-count Rp235x = (refl, omega arith)

-- A sheet has at most the steps of its chip: 65 on the RP2040, 66 on the RP235x.
pub chip-few : (reading : ℕ) (s : Settings) → length (steps_of reading s) ≤ most_steps s.chip.model
chip-few reading s =
    omega (arith, steps-most (λ k. 1) reading s, counted (steps_of reading s), (chip-count s.chip.model).0)

pub steps-few : (reading : ℕ) (s : Settings) → length (steps_of reading s) ≤ max_steps
steps-few reading s = omega (arith, chip-few reading s, (chip-count s.chip.model).1)

-- The condition under which settings are read back; the settings of every accepted plan meet it.
pub record Readable (reading : ℕ) (s : Settings) : Type 0 where
  pub still : s.chip.volts.code ≡ reading → s.settling ≡ None
  pub reference : Small s.reference.div
  pub usb : AuxSmall s.usb
  pub adc : AuxSmall s.adc

no-rtc : (c : ChipConfig) → (chip_of c).model ≡ Rp235x → (chip_of c).rtc ≡ None
no-rtc (on2040 c) e = absurd cc
no-rtc (on235x c) e = refl

pub readable-back : (reading : ℕ) (p : ClockConfig) → Readable reading (settings_of p reading)
    → settings_from reading (steps_of reading (settings_of p reading)) ≡ settings_of p reading
unfolding settings_from steps_of head_part clocks_part
readable-back reading p h =
    let s = settings_of p reading in
    let b = s.chip in
    let chip = b.model in
    let f = frequencies_of s in
    rw (
      (mark-laws chip).back,
      (ring-laws (facts_of chip).pass s.rosc s.xosc).back,
      (voltage-laws reading b s.settling).back _ h.still (crystal-next chip s.xosc _ _),
      (crystal-laws s.rosc s.xosc).back,
      (ref-code s.reference.src).0,
      div-back s.reference.div h.reference,
      (ref-laws chip f.reference s.reference).back,
      (sys-laws b f.sys s.sys).back,
      (peri-laws f.peri s.peri).back,
      (aux-laws true f.usb s.usb).back h.usb,
      (aux-laws false f.adc s.adc).back h.adc,
      (last-laws chip f.rtc_source f.rtc _ b.rtc).back (no-rtc p.chip),
      chip-back p.chip,
    )

pub settings-back : (p : ClockConfig) (reading : ℕ) → Accepted p reading
    → settings_from reading (steps_of reading (settings_of p reading)) ≡ settings_of p reading
settings-back p reading ok =
    let s = settings_of p reading in
    let a = accepted-by s reading ok in
    readable-back reading p
    (record {
      still = settling-none reading (chip_of p.chip).volts.code _ _;
      reference = divider-good p.ref_clk.div (a 7);
      usb = aux-divider s.usb (aux-fits _ _ (a 12));
      adc = aux-divider s.adc (aux-fits _ _ (a 13));
    })
