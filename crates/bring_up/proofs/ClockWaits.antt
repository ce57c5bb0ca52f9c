-- No wait of a sheet is endless, since this holds of each part. From the head on nothing is in reset, which the PLLs
-- and the last release need; every other condition of a wait is set in its own part.
use Rattle.std.specs.Prelude.{Option, Some, None, Bool, true, false, ◌&&◌, not, ◌≡◌, refl, List, [], ◌∷◌, ℕ, ◌+◌, ◌-◌, ◌%◌, ◌^◌}
use Rattle.std.specs.Prelude.{eqb, take}
use mathlib.Core.Path.{ap, ◌∙◌}
use native.Mathlib.Omega.{arith}
use lib.Bits.{bit_and, and_mask}
use borrow.Author.Tests.{eq-eqb, not-false}
use Rattle.base.specs.Choice.{bit}
use Rattle.base.proofs.Bools.{range-true}
use Rattle.chip.specs.{declared.Chip.Chip, declared.Chip.TheVariants.Rp2040, declared.Chip.TheVariants.Rp235x, Chips.facts_of}
use Rattle.step.specs.declared.Step.{Step}
use Rattle.pll.specs.Ranges.{reference_min, reference_max, vco_min, vco_max}
use Rattle.pll.specs.{declared.PllConfig.PllConfig, Setting.reference_of, Setting.vco_of, Setting.valid_of}
use Rattle.pll.proofs.Valid.{valid}
use Rattle.config.specs.Codes.{ref_code, sys_select, sys_aux}
use Rattle.config.specs.declared.{RefClkConfig.RefClkConfig, SysClkSrc.SysClkSrc, ChipSettings.ChipSettings, RoscConfig.RoscConfig}
use Rattle.settings.specs.Frequencies.{sources_of, sources_in, frequencies_of}
use Rattle.settings.specs.{declared.Crystal.Crystal, declared.Frequencies.Frequencies, Settings.settings_of}
use Rattle.refusals.specs.Rules.{pll_invalid, sys_pll_invalid, usb_pll_invalid}
use Rattle.refusals.proofs.Accepted.{accepted-by}
use Rattle.registers.specs.{Access.has, Access.access_of, Map.RESET, Map.XOSC_CTRL, Map.CLK_REF_CTRL, Map.CLK_SYS_CTRL, Map.PLL_CS}
use Rattle.registers.specs.Map.{PLL_FBDIV_INT, BLOCKS, REF_SRC, SYS_SRC, AUXSRC, REFDIV, FBDIV}
use Rattle.sheet.specs.Steps.{head_part, pll_steps, crystal_part, ref_part, switch_steps, sys_part, release_mask, last_part}
use Rattle.sheet.specs.Steps.{clocks_part, steps_of, step0, step1}
use Rattle.bring_up.specs.{Machine.bits_at, Machine.held, Machine.carried_out, Tree.oscillates, Tree.vco_on, ClockWaits.locks}
use Rattle.bring_up.specs.ClockWaits.{can_come, NoEndlessWait}
use Rattle.bring_up.proofs.Parts.{Calm, ring_own, voltage_own, system_steps, mark, ring, voltage, source, peri, aux, Usb, Adc, rtc}
use Rattle.bring_up.proofs.Parts.{peri_own, aux_own, rtc_own}
use Rattle.bring_up.proofs.{Addresses.Apart, Walk.Walk, Walk.◌then◌, Walk.Any, Walk.calmly, Walk.keeps, Set.last-sets}
use Rattle.step.specs.declared.kind.Kind.TheVariants as kind

-- nothing is in reset
abbrev Released : Chip → (ℕ → ℕ) → Type 0
Released c file = file (RESET c) ≡ 0

abbrev Comes : Chip → ℕ → List Step → Type 0
Comes c hz xs = Walk c (can_come c hz) (Released c) (Released c) xs

-- a part without a wait that does not write RESET, which computes on each chip
still : {c : Chip} {xs : List Step} (hz : ℕ) (own : Chip → List ℕ) → Calm c (own c) xs
    → Apart own RESET Rp2040 → Apart own RESET Rp235x → Comes c hz xs
still {c} hz own h a b = record { walk = λ file p. (h.calm (can_come c hz) file, keeps own h.on file RESET a b ∙ p) }

-- a source field that was set to 0 reads 0
pub sys-cleared : (v : ℕ) → bits_at 0 1 (v - bit_and v 1 + 0) ≡ 0
sys-cleared v = let low : bit_and v 1 ≡ v % 2 = and_mask v 1 in omega arith

pub ref-cleared : (v : ℕ) → bits_at 0 2 (v - bit_and v 3 + 0) ≡ 0
ref-cleared v = let low : bit_and v 3 ≡ v % 4 = and_mask v 2 in omega arith

-- both waits of the head for a source
both-selected : (v w : ℕ)
    → (eqb 1 (2 ^ bits_at 0 1 (v - bit_and v 1 + 0)) && (eqb 1 (2 ^ bits_at 0 2 (w - bit_and w 3 + 0)) && true)) ≡ true
both-selected v w = rw (sys-cleared v, ref-cleared w)

head : (c : Chip) (hz : ℕ) → Walk c (can_come c hz) Any (Released c) (head_part c)
unfolding access_of has head_part
head Rp2040 hz = record { walk = λ file p. (both-selected (file (CLK_SYS_CTRL Rp2040)) (file (CLK_REF_CTRL Rp2040)), refl) }
head Rp235x hz = record { walk = λ file p. (both-selected (file (CLK_SYS_CTRL Rp235x)) (file (CLK_REF_CTRL Rp235x)), refl) }

-- ---- the PLLs

-- nothing is in reset, and the crystal oscillates
abbrev Lit : Chip → (ℕ → ℕ) → Type 0
Lit c file = (file (RESET c) ≡ 0) × (oscillates (file (XOSC_CTRL c)) ≡ true)

-- the wait for lock, by what the steps before it leave in the file
pll-locks : (c : Chip) (w hz : ℕ) (p : PllConfig) (file : ℕ → ℕ) → pll_invalid hz (Some p) ≡ false → Lit c file
    → vco_on c w file ≡ not (held c w (file (RESET c))) → held c w 0 ≡ false → file (PLL_CS c w) ≡ REFDIV p.refdiv
    → file (PLL_FBDIV_INT c w) ≡ FBDIV p.fbdiv → (locks c w hz file && true) ≡ true
pll-locks c w hz p file e lit power out e0 e1 =
    let v = valid p hz (not-false (valid_of p hz) e) in
    let refdiv : bits_at 0 6 (file (PLL_CS c w)) ≡ p.refdiv = omega (arith, e0, v.refdiv) in
    let fbdiv : bits_at 0 12 (file (PLL_FBDIV_INT c w)) ≡ p.fbdiv = omega (arith, e1, v.fbdiv) in
    let reference = range-true reference_min reference_max (reference_of p hz) v.reference.0 v.reference.1 in
    let vco = range-true vco_min vco_max (vco_of p hz) v.vco.0 v.vco.1 in
    let on : vco_on c w file ≡ true = power ∙ ap (λ (v : ℕ). not (held c w v)) lit.0 ∙ ap not out in
    rw (lit.1, on, refdiv, fbdiv, reference, vco)

-- the steps before the wait for lock
abbrev powered : ℕ → PllConfig → List Step
powered w p = take 5 (pll_steps w (Some p))

-- a PLL's steps, by whether it is the USB PLL
pll : (c : Chip) (usb : Bool) (hz : ℕ) (o : Option PllConfig) → pll_invalid hz o ≡ false
    → Walk c (can_come c hz) (Lit c) (Lit c) (pll_steps (bit usb) o)
unfolding access_of has
pll Rp2040 false hz (Some p) e =
    record { walk = λ file lit. (pll-locks Rp2040 0 hz p (carried_out Rp2040 (powered 0 p) file) e lit refl refl refl refl, lit) }
pll Rp2040 true hz (Some p) e =
    record { walk = λ file lit. (pll-locks Rp2040 1 hz p (carried_out Rp2040 (powered 1 p) file) e lit refl refl refl refl, lit) }
pll Rp235x false hz (Some p) e =
    record { walk = λ file lit. (pll-locks Rp235x 0 hz p (carried_out Rp235x (powered 0 p) file) e lit refl refl refl refl, lit) }
pll Rp235x true hz (Some p) e =
    record { walk = λ file lit. (pll-locks Rp235x 1 hz p (carried_out Rp235x (powered 1 p) file) e lit refl refl refl refl, lit) }
pll c usb hz None e = record { walk = λ file lit. (refl, lit) }

-- the steps before the PLLs
started : (c : Chip) (hz delay : ℕ)
    → Walk c (can_come c hz) (Released c) (Lit c) (step1 kind.Startup delay ∷ step0 kind.CrystalOn ∷ step0 kind.WaitStable ∷ [])
unfolding access_of has
started Rp2040 hz delay = record { walk = λ file p. (refl, (p, refl)) }
started Rp235x hz delay = record { walk = λ file p. (refl, (p, refl)) }

crystal : (c : Chip) (r : Option RoscConfig) (x : Option Crystal) → sys_pll_invalid x ≡ false → usb_pll_invalid x ≡ false
    → Comes c (sources_of r x).xosc (crystal_part x)
unfolding crystal_part sources_of sys_pll_invalid usb_pll_invalid
crystal c r (Some x) e u =
    record {
      walk = λ file p.
          let end = (started c x.hz x.delay then (pll c false x.hz x.sys e then pll c true x.hz x.usb u)).walk file p in
          (end.0, end.1.0);
    }
crystal c r None e u = record { walk = λ file p. (refl, p) }

-- ---- the clocks

-- the wait is for the source that was written
same-selected : (m n : ℕ) → m ≡ n → (eqb (2 ^ m) (2 ^ n) && true) ≡ true
same-selected m n e = ap (λ (b : Bool). b && true) (eq-eqb (2 ^ m) (2 ^ n) (ap (λ (k : ℕ). 2 ^ k) e))

ref-selected : (k : ℕ) → (eqb (2 ^ (k % 4)) (2 ^ bits_at 0 2 (REF_SRC k)) && true) ≡ true
ref-selected k = same-selected (k % 4) (bits_at 0 2 (REF_SRC k)) (omega arith)

sys-selected : (aux k : ℕ) → (eqb (2 ^ (k % 2)) (2 ^ bits_at 0 1 (AUXSRC aux + SYS_SRC k)) && true) ≡ true
sys-selected aux k = same-selected (k % 2) (bits_at 0 1 (AUXSRC aux + SYS_SRC k)) (omega arith)

reference : (c : Chip) (hz stored : ℕ) (r : RefClkConfig) → Comes c hz (ref_part c stored r)
unfolding access_of has
reference Rp2040 hz stored r = record { walk = λ file p. (ref-selected (ref_code r.src), p) }
reference Rp235x hz stored r = record { walk = λ file p. (ref-selected (ref_code r.src), p) }

system-of : (c : Chip) (hz : ℕ) (same : Bool) (stored aux select whole fraction : ℕ)
    → Comes c hz (system_steps c same stored aux select whole fraction)
unfolding access_of has
system-of Rp2040 hz true stored aux select whole fraction = record { walk = λ file p. (sys-selected aux select, p) }
system-of Rp235x hz true stored aux select whole fraction = record { walk = λ file p. (sys-selected aux select, p) }
system-of c hz same stored aux select whole fraction = record { walk = λ file p. (sys-selected aux select, p) }

system : (hz : ℕ) (b : ChipSettings) (stored : ℕ) (src : SysClkSrc) → Comes b.model hz (sys_part b stored src)
unfolding sys_part switch_steps
system hz b stored src =
    system-of b.model hz (eqb (sys_select src) 0) stored (sys_aux src) (sys_select src) b.whole b.fraction

-- the blocks that are released are out of reset
none-held : (mask v : ℕ) → v ≡ 0 → (eqb (bit_and (v - bit_and v (BLOCKS mask) + 0) (BLOCKS mask)) 0 && true) ≡ true
none-held mask v e = rw e

last : (c : Chip) (hz mask : ℕ) → Comes c hz (last_part mask)
unfolding access_of has
last Rp2040 hz mask =
    record { walk = λ file p. (none-held mask (file (RESET Rp2040)) p, (last-sets Rp2040 mask file p).0) }
last Rp235x hz mask =
    record { walk = λ file p. (none-held mask (file (RESET Rp235x)) p, (last-sets Rp235x mask file p).0) }

-- ---- the sheet

pub no-endless-wait : NoEndlessWait
unfolding steps_of clocks_part
no-endless-wait p reading ok before =
    let s = settings_of p reading in
    let c : Chip = s.chip.model in
    let hz : ℕ = (sources_in s).xosc in
    let f : Frequencies = frequencies_of s in
    let a = accepted-by s reading ok in
    ((calmly (mark c)
    then head c hz
    then still hz ring_own (ring c (facts_of c).pass s.rosc) refl refl
    then still hz voltage_own (voltage reading s.chip s.settling) refl refl
    then crystal c s.rosc s.xosc (a 5) (a 6)
    then still hz (λ c. []) (source c f.sources) refl refl
    then reference c hz f.reference s.reference
    then system hz s.chip f.sys s.sys
    then still hz peri_own (peri c f.peri s.peri) refl refl
    then still hz (aux_own Usb) (aux c Usb f.usb s.usb) refl refl
    then still hz (aux_own Adc) (aux c Adc f.adc s.adc) refl refl
    then still hz rtc_own (rtc c f.rtc s.chip.rtc) refl refl
    then last c hz (release_mask c s.peri s.usb s.adc s.chip.rtc)).walk before tt).0
