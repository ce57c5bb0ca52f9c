-- The source that a clock is switched to runs, since the reference and system clocks of an accepted plan have no
-- source of 0 Hz.
use Rattle.std.specs.Prelude.{Bool, true, false, ◌&&◌, ◌≡◌, refl, [], ◌∷◌, ℕ, ◌+◌, ◌*◌, ◌/◌, eqb, get_or}
use mathlib.Core.Path.{ap}
use native.Mathlib.{Nat.div-le_self, Omega.arith}
use borrow.Author.Tests.{eqb-false}
use Rattle.std.proofs.lemmas.Bool.{or_parts}
use Rattle.chip.specs.{declared.Chip.Chip, declared.Chip.TheVariants.Rp2040, declared.Chip.TheVariants.Rp235x, Chips.facts_of}
use Rattle.divider.specs.Clock.{divided_hz}
use Rattle.config.specs.Codes.{ref_code, sys_select, sys_aux}
use Rattle.config.specs.declared.{RefClkSrc.RefClkSrc, RefClkConfig.RefClkConfig, SysClkSrc.SysClkSrc, ChipSettings.ChipSettings}
use Rattle.settings.specs.Frequencies.{ref_source, ref_hz, sys_source, sys_hz, sources_in, ref_in, frequencies_of}
use Rattle.settings.specs.{declared.Sources.Sources, declared.Frequencies.Frequencies, Settings.settings_of}
use Rattle.refusals.specs.Rules.{reference_bad}
use Rattle.refusals.proofs.Accepted.{accepted-by}
use Rattle.registers.specs.Access.{has, access_of}
use Rattle.registers.specs.Map.{XOSC_CTRL, ROSC_CTRL, CLK_REF_CTRL, REF_SRC, AUXSRC, SYS_SRC}
use Rattle.sheet.specs.Steps.{source_part, ref_part, switch_steps, sys_part, release_mask, last_part, clocks_part, steps_of}
use Rattle.bring_up.specs.ClockWaits.{pll_runs, ref_runs, source_runs, SourcesRun}
use Rattle.bring_up.specs.{Machine.bits_at, Machine.carried_out, Tree.oscillates}
use Rattle.bring_up.proofs.Parts.{Usb, Adc, system_steps, peri, aux, rtc}
use Rattle.bring_up.proofs.Walk.{Walk, ◌then◌, Any, calmly}
use Rattle.bring_up.proofs.Running.{NonZero, Running, Referred, mark, head, ring, voltage, crystal}

source : (c : Chip) (f : Sources) → Walk c (source_runs c) (Running c f) (Running c f) (source_part f)
unfolding access_of has
source Rp2040 f = record { walk = λ file p. (refl, p) }
source Rp235x f = record { walk = λ file p. (refl, p) }

-- the source that the reference part selects runs
pub selected : (c : Chip) (f : Sources) (src : RefClkSrc) (file : ℕ → ℕ) → file (CLK_REF_CTRL c) ≡ REF_SRC (ref_code src)
    → Running c f file → NonZero (ref_source f src) → ref_runs c file ≡ true
selected c f RefClkSrc.Rosc file e p nonzero = rw e p.ring
selected c f RefClkSrc.Xosc file e p nonzero = rw e (p.xosc nonzero)
selected c f RefClkSrc.PllUsb file e p nonzero = rw e (p.usb nonzero)

referred : (c : Chip) (f : Sources) (r : RefClkConfig) → NonZero (ref_source f r.src) → (file : ℕ → ℕ)
    → file (CLK_REF_CTRL c) ≡ REF_SRC (ref_code r.src) → Running c f file → ((ref_runs c file && true) ≡ true) × Referred c f file
referred c f r nonzero file e p =
    let runs = selected c f r.src file e p nonzero in
    (ap (λ (b : Bool). b && true) runs, record { sources = p; reference = runs })

ref-runs : (c : Chip) (f : Sources) (stored : ℕ) (r : RefClkConfig) → NonZero (ref_source f r.src)
    → Walk c (source_runs c) (Running c f) (Referred c f) (ref_part c stored r)
unfolding access_of has
ref-runs Rp2040 f stored r nonzero =
    record { walk = λ file p. referred Rp2040 f r nonzero (carried_out Rp2040 (ref_part Rp2040 stored r) file) refl p }
ref-runs Rp235x f stored r nonzero =
    record { walk = λ file p. referred Rp235x f r nonzero (carried_out Rp235x (ref_part Rp235x stored r) file) refl p }

-- the source that the system part selects runs
sys-selected : (c : Chip) (f : Sources) (reference : ℕ) (src : SysClkSrc) → NonZero (sys_source f reference src) → (file : ℕ → ℕ)
    → Referred c f file → let ctrl = AUXSRC (sys_aux src) + SYS_SRC (sys_select src) in
    get_or (ref_runs c file
    ∷ get_or (pll_runs c 0 file ∷ pll_runs c 1 file ∷ oscillates (file (ROSC_CTRL c)) ∷ oscillates (file (XOSC_CTRL c)) ∷ [])
    (bits_at 5 3 ctrl) false ∷ []) (bits_at 0 1 ctrl) false ≡ true
sys-selected c f reference SysClkSrc.Ref nonzero file p = p.reference
sys-selected c f reference SysClkSrc.PllSys nonzero file p = p.sources.sys nonzero
sys-selected c f reference SysClkSrc.PllUsb nonzero file p = p.sources.usb nonzero
sys-selected c f reference SysClkSrc.Rosc nonzero file p = p.sources.ring
sys-selected c f reference SysClkSrc.Xosc nonzero file p = p.sources.xosc nonzero

-- both waits of a part that switches to the reference clock and then to its source
both : {a b : Bool} → a ≡ true → b ≡ true → (a && (b && true)) ≡ true
both h k = rw (h, k)

-- with the switch to the reference clock, or without it where that is the source already
sys-runs : (c : Chip) (f : Sources) (reference stored whole fraction : ℕ) (src : SysClkSrc) → NonZero (sys_source f reference src)
    → (same : Bool)
    → Walk c (source_runs c) (Referred c f) Any (system_steps c same stored (sys_aux src) (sys_select src) whole fraction)
unfolding access_of has
sys-runs Rp2040 f reference stored whole fraction src nonzero true =
    record { walk = λ file p. (ap (λ (b : Bool). b && true) (sys-selected Rp2040 f reference src nonzero file p), tt) }
sys-runs Rp2040 f reference stored whole fraction src nonzero false =
    record { walk = λ file p. (both p.reference (sys-selected Rp2040 f reference src nonzero file p), tt) }
sys-runs Rp235x f reference stored whole fraction src nonzero true =
    record { walk = λ file p. (ap (λ (b : Bool). b && true) (sys-selected Rp235x f reference src nonzero file p), tt) }
sys-runs Rp235x f reference stored whole fraction src nonzero false =
    record { walk = λ file p. (both p.reference (sys-selected Rp235x f reference src nonzero file p), tt) }

system : (b : ChipSettings) (f : Sources) (reference stored : ℕ) (src : SysClkSrc) → NonZero (sys_source f reference src)
    → Walk b.model (source_runs b.model) (Referred b.model f) Any (sys_part b stored src)
unfolding sys_part switch_steps
system b f reference stored src nonzero =
    sys-runs b.model f reference stored b.whole b.fraction src nonzero (eqb (sys_select src) 0)

-- the last part waits for no source
last : (c : Chip) (mask : ℕ) → Walk c (source_runs c) Any Any (last_part mask)
unfolding access_of has
last Rp2040 mask = record { walk = λ file p. (refl, tt) }
last Rp235x mask = record { walk = λ file p. (refl, tt) }

-- ---- an accepted plan's reference and system clock have a source

zero-over : (n d : ℕ) → n ≡ 0 → n / d ≡ 0
zero-over n d e = omega (arith, e, div-le_self n d)

pub ref-source : (f : Sources) (r : RefClkConfig) → reference_bad (ref_hz f r) ≡ false → NonZero (ref_source f r.src)
unfolding reference_bad ref_hz
ref-source f r e still =
    eqb-false (ref_hz f r) 0 (or_parts (eqb (ref_hz f r) 0) _ e).0 (zero-over (ref_source f r.src) r.div still)

sys-source : (b : ChipSettings) (f : Sources) (reference : ℕ) (src : SysClkSrc) → eqb (sys_hz b f reference src) 0 ≡ false
    → NonZero (sys_source f reference src)
unfolding sys_hz divided_hz
sys-source b f reference src e still =
    let scale : ℕ = (facts_of b.model).scale in
    let none : sys_source f reference src * scale ≡ 0 = rw still (omega arith) in
    eqb-false (sys_hz b f reference src) 0 e (zero-over (sys_source f reference src * scale) (b.whole * scale + b.fraction) none)

pub sources-run : SourcesRun
unfolding steps_of clocks_part
sources-run p reading ok before on awake =
    let s = settings_of p reading in
    let c : Chip = s.chip.model in
    let f : Frequencies = frequencies_of s in
    let a = accepted-by s reading ok in
    ((mark c
    then head c
    then ring c (facts_of c).pass s.rosc
    then voltage reading s.chip s.settling
    then crystal c s.rosc s.xosc
    then source c f.sources
    then ref-runs c (sources_in s) f.reference s.reference (ref-source (sources_in s) s.reference (a 8))
    then system s.chip (sources_in s) (ref_in s) f.sys s.sys (sys-source s.chip (sources_in s) (ref_in s) s.sys (a 10))
    then calmly (peri c f.peri s.peri)
    then calmly (aux c Usb f.usb s.usb)
    then calmly (aux c Adc f.adc s.adc)
    then calmly (rtc c f.rtc s.chip.rtc)
    then last c (release_mask c s.peri s.usb s.adc s.chip.rtc)).walk before
    (record { ring = on; reference = awake })).0
