-- A sheet is its parts one after another, and the last part that has a register decides its value.
use Rattle.std.specs.Prelude.{false, ◌≡◌, refl, List, [], ◌∷◌, ◌++◌, ℕ, zero, suc, get_or, take, drop}
use mathlib.Core.Path.{sym, ap, ◌∙◌}
use Rattle.chip.specs.{declared.Chip.Chip, declared.Chip.TheVariants.Rp2040, declared.Chip.TheVariants.Rp235x, Chips.facts_of}
use Rattle.step.specs.declared.Step.{Step}
use Rattle.settings.specs.{declared.Settings.Settings, declared.Frequencies.Frequencies, Frequencies.frequencies_of}
use Rattle.sheet.specs.Steps.{mark_steps, head_part, ring_part, voltage_part, crystal_part, source_part, ref_part, sys_part}
use Rattle.sheet.specs.Steps.{peri_part, rtc_part, release_mask, last_part}
use Rattle.bring_up.specs.Machine.{carried_out}
use Rattle.bring_up.proofs.Addresses.{Apart, apart, member, member-append, outside, reach, steps-keep, append}
use Rattle.bring_up.proofs.Parts.{On, owns, mark, head, ring, voltage, crystal, source, reference, system, peri, Usb, Adc, aux_of}
use Rattle.bring_up.proofs.Parts.{aux, rtc, last}

abbrev pub joined : {A : Type 0} → List (List A) → List A
joined [] = []
joined (x ∷ xs) = x ++ joined xs

-- each part, in turn, has its registers
infixr 20 ◌also◌
pub data All (c : Chip) : List (List ℕ) → List (List Step) → Type 0 where
  none : All c [] []
  ◌also◌ : {o : List ℕ} {p : List Step} {os : List (List ℕ)} {ps : List (List Step)} → On c o p → All c os ps → All c (o ∷ os) (p ∷ ps)

all_take : {c : Chip} {os : List (List ℕ)} {ps : List (List Step)} (n : ℕ) → All c os ps → All c (take n os) (take n ps)
all_take zero all = none
all_take (suc n) none = none
all_take (suc n) (on also all) = on also all_take n all

parts-keep : {c : Chip} {os : List (List ℕ)} {ps : List (List Step)} → All c os ps
    → (x : ℕ) → member x (joined os) ≡ false → (file : ℕ → ℕ) → carried_out c (joined ps) file x ≡ file x
parts-keep none x h file = refl
parts-keep {c} (◌also◌ {o} {p} {os} {ps} on all) x h file =
    let both = member-append x o (joined os) h in
    ap (λ (g : ℕ → ℕ). g x) (append c p (joined ps) file)
    ∙ parts-keep all x both.1 (carried_out c p file)
    ∙ steps-keep c p file x (outside x (reach c p) o on.inside both.0)

-- a register that no later part has keeps the value of part k
wins : {c : Chip} {os : List (List ℕ)} {ps : List (List Step)} (k : ℕ) → All c os ps
    → (x : ℕ) → member x (joined (drop (suc k) os)) ≡ false → (file : ℕ → ℕ)
    → carried_out c (joined ps) file x ≡ carried_out c (get_or ps k []) (carried_out c (joined (take k ps)) file) x
wins zero none x h file = refl
wins (suc k) none x h file = refl
wins {c} zero (◌also◌ {o} {p} {os} {ps} on all) x h file =
    ap (λ (g : ℕ → ℕ). g x) (append c p (joined ps) file) ∙ parts-keep all x h (carried_out c p file)
wins {c} (suc k) (◌also◌ {o} {p} {os} {ps} on all) x h file =
    ap (λ (g : ℕ → ℕ). g x) (append c p (joined ps) file)
    ∙ wins k all x h (carried_out c p file)
    ∙ ap (λ (g : ℕ → ℕ). carried_out c (get_or ps k []) g x) (sym (append c p (joined (take k ps)) file))

-- the parts of the sheet of settings
abbrev pub parts_of : ℕ → Settings → List (List Step)
parts_of reading s =
    let c = s.chip.model in
    let f = frequencies_of s in
    mark_steps c
    ∷ head_part c
    ∷ ring_part (facts_of c).pass s.rosc
    ∷ voltage_part reading s.chip s.settling
    ∷ crystal_part s.xosc
    ∷ source_part f.sources
    ∷ ref_part c f.reference s.reference
    ∷ sys_part s.chip f.sys s.sys
    ∷ peri_part f.peri s.peri
    ∷ aux_of Usb f.usb s.usb
    ∷ aux_of Adc f.adc s.adc
    ∷ rtc_part c f.rtc s.chip.rtc
    ∷ last_part (release_mask c s.peri s.usb s.adc s.chip.rtc)
    ∷ []

pub all-parts : (reading : ℕ) (s : Settings) → All s.chip.model (owns s.chip.model) (parts_of reading s)
all-parts reading s =
    let c : Chip = s.chip.model in
    let f : Frequencies = frequencies_of s in
    (mark c).on
    also head c
    also (ring c (facts_of c).pass s.rosc).on
    also (voltage reading s.chip s.settling).on
    also crystal c s.xosc
    also (source c f.sources).on
    also reference c f.reference s.reference
    also system s.chip f.sys s.sys
    also (peri c f.peri s.peri).on
    also (aux c Usb f.usb s.usb).on
    also (aux c Adc f.adc s.adc).on
    also (rtc c f.rtc s.chip.rtc).on
    also last c (release_mask c s.peri s.usb s.adc s.chip.rtc)
    also none

-- the file after the first n parts
abbrev pub up_to : ℕ → ℕ → Settings → (ℕ → ℕ) → (ℕ → ℕ)
up_to n reading s before = carried_out s.chip.model (joined (take n (parts_of reading s))) before

-- a register that no part from k + 1 to n has keeps the value of part k
abbrev pub later : ℕ → ℕ → Chip → List ℕ
later n k c = joined (drop (suc k) (take n (owns c)))

pub holds-one : (n k reading : ℕ) (s : Settings) (before : ℕ → ℕ) (x : ℕ) → member x (later n k s.chip.model) ≡ false
    → up_to n reading s before x
    ≡ carried_out s.chip.model (get_or (take n (parts_of reading s)) k [])
    (carried_out s.chip.model (joined (take k (take n (parts_of reading s)))) before) x
holds-one n k reading s before x h = wins k (all_take n (all-parts reading s)) x h before

-- the same where no such part has it on either chip, which computes
pub holds : (n k reading : ℕ) (s : Settings) (before : ℕ → ℕ) (x : Chip → ℕ)
    → Apart (later n k) x Rp2040 → Apart (later n k) x Rp235x
    → up_to n reading s before (x s.chip.model)
    ≡ carried_out s.chip.model (get_or (take n (parts_of reading s)) k [])
    (carried_out s.chip.model (joined (take k (take n (parts_of reading s)))) before) (x s.chip.model)
holds n k reading s before x a b =
    let c : Chip = s.chip.model in
    holds-one n k reading s before (x c) (apart (later n k) x a b c)

-- a register that none of the first n parts has is unchanged
abbrev pub first : ℕ → Chip → List ℕ
first n c = joined (take n (owns c))

pub stays-one : (n reading : ℕ) (s : Settings) (before : ℕ → ℕ) (x : ℕ) → member x (first n s.chip.model) ≡ false
    → up_to n reading s before x ≡ before x
stays-one n reading s before x h = parts-keep (all_take n (all-parts reading s)) x h before

pub stays : (n reading : ℕ) (s : Settings) (before : ℕ → ℕ) (x : Chip → ℕ)
    → Apart (first n) x Rp2040 → Apart (first n) x Rp235x → up_to n reading s before (x s.chip.model) ≡ before (x s.chip.model)
stays n reading s before x a b =
    let c : Chip = s.chip.model in
    stays-one n reading s before (x c) (apart (first n) x a b c)
