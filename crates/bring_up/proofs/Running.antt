-- The sources that run after each part, up to the crystal's part: the ring runs from the start, the crystal and the
-- PLLs of the plan from their part on.
use Rattle.std.specs.Prelude.{Option, Some, None, Bool, true, false, ◌&&◌, not, ◌≡◌, refl, [], ◌∷◌, ℕ, zero, suc, ◌+◌, eqb, get_or}
use mathlib.Core.Path.{ap, ◌∙◌}
use Rattle.std.proofs.lemmas.Bool.{and_parts}
use Rattle.chip.specs.declared.Chip.{Chip, TheVariants.Rp2040, TheVariants.Rp235x}
use Rattle.pll.specs.declared.PllConfig.{PllConfig}
use Rattle.config.specs.declared.{ChipSettings.ChipSettings, RoscRange.RoscRange, RoscConfig.RoscConfig}
use Rattle.config.specs.Codes.{range_code}
use Rattle.settings.specs.{declared.Crystal.Crystal, declared.Sources.Sources, Frequencies.pll_hz, Frequencies.sources_of}
use Rattle.registers.specs.Access.{has, access_of}
use Rattle.registers.specs.Map.{RESET, XOSC_CTRL, ROSC_CTRL, CLK_REF_CTRL, PLL_PWR, FREQ_RANGE, OSCILLATOR_ON}
use Rattle.sheet.specs.Steps.{mark_steps, head_part, ring_part, voltage_part, crystal_part}
use Rattle.bring_up.specs.ClockWaits.{all_waits, pll_runs, ref_runs, source_runs, Awake}
use Rattle.bring_up.specs.{Machine.bits_at, Machine.held, Machine.carried_out, Tree.oscillates}
use Rattle.bring_up.proofs.Parts.{voltage_own, crystal_own, crystal_steps, voltage as voltage-calm, crystal as crystal_on}
use Rattle.bring_up.proofs.Set.{range-on, PllSet, CrystalSet, crystal-sets}
use Rattle.bring_up.proofs.{Hz.pll-on, Times.held_none, ClockWaits.sys-cleared, ClockWaits.ref-cleared, Walk.Walk, Walk.keeps}

-- ---- the file between the parts, over the values of its registers: a part that keeps these keeps the record

pub record HeadedAt (rosc resets pwr0 pwr1 : ℕ) : Type 0 where
  pub ring : oscillates rosc ≡ true
  pub reset : resets ≡ 0
  pub sys : pwr0 ≡ 0x2D
  pub usb : pwr1 ≡ 0x2D

abbrev pub Headed : Chip → (ℕ → ℕ) → Type 0
Headed c file = HeadedAt (file (ROSC_CTRL c)) (file (RESET c)) (file (PLL_PWR c 0)) (file (PLL_PWR c 1))

abbrev pub NonZero : ℕ → Type 0
NonZero hz = hz ≡ 0 → ⊥

-- each source of the plan that has a frequency runs
pub record RunningAt (f : Sources) (rosc crystal : ℕ) (pll0 pll1 : Bool) : Type 0 where
  pub ring : oscillates rosc ≡ true
  pub xosc : NonZero f.xosc → oscillates crystal ≡ true
  pub sys : NonZero f.pll_sys → pll0 ≡ true
  pub usb : NonZero f.pll_usb → pll1 ≡ true

abbrev pub Running : Chip → Sources → (ℕ → ℕ) → Type 0
Running c f file = RunningAt f (file (ROSC_CTRL c)) (file (XOSC_CTRL c)) (pll_runs c 0 file) (pll_runs c 1 file)

pub record Referred (c : Chip) (f : Sources) (file : ℕ → ℕ) : Type 0 where
  pub sources : Running c f file
  pub reference : ref_runs c file ≡ true

-- ---- the parts

pub mark : (c : Chip) → Walk c (source_runs c) (Awake c) (Awake c) (mark_steps c)
unfolding access_of has
mark Rp2040 = record { walk = λ file p. (refl, p) }
mark Rp235x = record { walk = λ file p. (refl, record { ring = p.ring; reference = p.reference }) }

-- a PLL that ran still runs if it is out of reset
out-of-reset : (p q u v h : Bool) → (p && ((q && (u && not h)) && v)) ≡ true → (p && ((q && (u && true)) && v)) ≡ true
out-of-reset true true true v h e = (and_parts (not h) v e).1
out-of-reset p q u v h e = e

runs_on : (m n : ℕ) (ring xosc : Bool) {a b : Bool} → (a ≡ true → b ≡ true)
    → get_or (ring ∷ get_or (a ∷ []) n false ∷ xosc ∷ []) m false ≡ true
    → get_or (ring ∷ get_or (b ∷ []) n false ∷ xosc ∷ []) m false ≡ true
runs_on zero n ring xosc f e = e
runs_on (suc zero) zero ring xosc f e = f e
runs_on (suc zero) (suc n) ring xosc f e = e
runs_on (suc (suc m)) n ring xosc f e = e

on-released : (c : Chip) (file : ℕ → ℕ) → ref_runs c file ≡ true
    → let ctrl = file (CLK_REF_CTRL c) in let pwr = file (PLL_PWR c 1) in
    get_or (oscillates (file (ROSC_CTRL c))
    ∷ get_or ((oscillates (file (XOSC_CTRL c))
    && ((eqb (bits_at 0 1 pwr) 0 && (eqb (bits_at 5 1 pwr) 0 && true)) && eqb (bits_at 3 1 pwr) 0)) ∷ []) (bits_at 5 2 ctrl) false
    ∷ oscillates (file (XOSC_CTRL c)) ∷ []) (bits_at 0 2 ctrl) false ≡ true
on-released c file e =
    let ctrl : ℕ = file (CLK_REF_CTRL c) in
    let pwr : ℕ = file (PLL_PWR c 1) in
    let xosc : Bool = oscillates (file (XOSC_CTRL c)) in
    runs_on (bits_at 0 2 ctrl) (bits_at 5 2 ctrl) (oscillates (file (ROSC_CTRL c))) xosc
    (out-of-reset xosc (eqb (bits_at 0 1 pwr) 0) (eqb (bits_at 5 1 pwr) 0) (eqb (bits_at 3 1 pwr) 0) (held c 1 (file (RESET c)))) e

headed : {rosc : ℕ} → oscillates rosc ≡ true → HeadedAt rosc 0 0x2D 0x2D
headed on = record { ring = on; reset = refl; sys = refl; usb = refl }

pub head : (c : Chip) → Walk c (source_runs c) (Awake c) (Headed c) (head_part c)
unfolding access_of has head_part
head Rp2040 =
    record { walk = λ file p. (rw (sys-cleared, ref-cleared, on-released Rp2040 file p.reference, p.ring), headed p.ring) }
head Rp235x =
    record { walk = λ file p. (rw (sys-cleared, ref-cleared, on-released Rp235x file p.reference, p.ring), headed p.ring) }

turned-on : {rosc resets pwr0 pwr1 : ℕ} (r : RoscRange) → HeadedAt rosc resets pwr0 pwr1
    → HeadedAt (FREQ_RANGE (range_code r) + OSCILLATOR_ON) resets pwr0 pwr1
turned-on r p = record { ring = range-on r; reset = p.reset; sys = p.sys; usb = p.usb }

pub ring : (c : Chip) (pass : ℕ) (r : Option RoscConfig) → Walk c (source_runs c) (Headed c) (Headed c) (ring_part pass r)
unfolding access_of has ring_part
ring Rp2040 pass (Some r) = record { walk = λ file p. (refl, turned-on r.range p) }
ring Rp235x pass (Some r) = record { walk = λ file p. (refl, turned-on r.range p) }
ring c pass r = record { walk = λ file p. (refl, p) }

pub voltage : (reading : ℕ) (b : ChipSettings) (settling : Option ℕ)
    → Walk b.model (source_runs b.model) (Headed b.model) (Headed b.model) (voltage_part reading b settling)
voltage reading b settling =
    let c : Chip = b.model in
    let part = voltage-calm reading b settling in
    record {
      walk = λ file p. (
        part.calm (source_runs c) file,
        record {
          ring = ap oscillates (keeps voltage_own part.on file ROSC_CTRL refl refl) ∙ p.ring;
          reset = keeps voltage_own part.on file RESET refl refl ∙ p.reset;
          sys = keeps voltage_own part.on file (λ c. PLL_PWR c 0) refl refl ∙ p.sys;
          usb = keeps voltage_own part.on file (λ c. PLL_PWR c 1) refl refl ∙ p.usb;
        },
      );
    }

-- the crystal's part waits for no source
crystal-quiet : (c : Chip) (delay : ℕ) (a b : Option PllConfig) (file : ℕ → ℕ)
    → all_waits c (source_runs c) (crystal_steps delay a b) file ≡ true
unfolding access_of has
crystal-quiet Rp2040 delay (Some p) (Some q) file = refl
crystal-quiet Rp2040 delay None (Some q) file = refl
crystal-quiet Rp235x delay (Some p) (Some q) file = refl
crystal-quiet Rp235x delay None (Some q) file = refl
crystal-quiet c delay a b file = refl

pll-runs : (c : Chip) (w hz : ℕ) (o : Option PllConfig) (file : ℕ → ℕ) → oscillates (file (XOSC_CTRL c)) ≡ true
    → held c w (file (RESET c)) ≡ false → PllSet c w o file → NonZero (pll_hz hz o) → pll_runs c w file ≡ true
unfolding pll_hz
pll-runs c w hz (Some p) file on out set nonzero = rw (on, pll-on c w file out set.0)
pll-runs c w hz None file on out set nonzero = absurd (nonzero refl)

pub running : (c : Chip) (r : Option RoscConfig) (x : Option Crystal) (file : ℕ → ℕ) → oscillates (file (ROSC_CTRL c)) ≡ true
    → file (RESET c) ≡ 0 → CrystalSet c x file → Running c (sources_of r x) file
unfolding sources_of
running c r (Some x) file on reset set =
    let out = held_none c (file (RESET c)) reset in
    record {
      ring = on;
      xosc = λ nonzero. set.on;
      sys = pll-runs c 0 x.hz x.sys file set.on out.0 set.sys;
      usb = pll-runs c 1 x.hz x.usb file set.on out.1 set.usb;
    }
running c r None file on reset set =
    record {
      ring = on;
      xosc = λ nonzero. absurd (nonzero refl);
      sys = λ nonzero. absurd (nonzero refl);
      usb = λ nonzero. absurd (nonzero refl);
    }

quiet : (c : Chip) (x : Option Crystal) (file : ℕ → ℕ) → all_waits c (source_runs c) (crystal_part x) file ≡ true
unfolding crystal_part
quiet c (Some x) file = crystal-quiet c x.delay x.sys x.usb file
quiet c None file = refl

pub crystal : (c : Chip) (r : Option RoscConfig) (x : Option Crystal)
    → Walk c (source_runs c) (Headed c) (Running c (sources_of r x)) (crystal_part x)
crystal c r x =
    let part = crystal_on c x in
    record {
      walk = λ file p. (
        quiet c x file,
        running c r x (carried_out c (crystal_part x) file)
            (ap oscillates (keeps crystal_own part file ROSC_CTRL refl refl) ∙ p.ring)
            (keeps crystal_own part file RESET refl refl ∙ p.reset)
            (crystal-sets c x file p.sys p.usb),
      );
    }
