-- After a sheet the ring and the source of the reference clock run: both are set, or left, by one part of the sheet, and no later
-- part changes them.
use Rattle.std.specs.Prelude.{Option, Some, None, true, ◌≡◌, refl, [], ◌∷◌, ℕ}
use mathlib.Core.Path.{subst, ap, ◌∙◌}
use Rattle.chip.specs.{declared.Chip.Chip, declared.Chip.TheVariants.Rp2040, declared.Chip.TheVariants.Rp235x, Chips.facts_of}
use Rattle.config.specs.declared.RoscConfig.{RoscConfig}
use Rattle.settings.specs.{declared.Settings.Settings, Settings.settings_of, Frequencies.sources_in, Frequencies.frequencies_of}
use Rattle.refusals.specs.Refusals.{refusal_of}
use Rattle.refusals.proofs.Accepted.{accepted-by}
use Rattle.registers.specs.{Access.has, Access.access_of, Map.ROSC_CTRL, Map.CLK_REF_CTRL}
use Rattle.sheet.specs.Steps.{ring_part, clocks_part, steps_of}
use Rattle.bring_up.specs.{Machine.carried_out, Tree.oscillates, ClockWaits.Awake, ClockWaits.StaysAwake}
use Rattle.bring_up.proofs.{Sheet.up_to, Sheet.holds, Sheet.stays, Set.range-on, Set.ref-sets, Times.ended, Times.crystal-ends}
use Rattle.bring_up.proofs.{Running.running, Switched.selected, Switched.ref-source}

-- a ring that oscillates still does after the ring's part
ring-stays : (c : Chip) (pass : ℕ) (r : Option RoscConfig) (file : ℕ → ℕ) → oscillates (file (ROSC_CTRL c)) ≡ true
    → oscillates (carried_out c (ring_part pass r) file (ROSC_CTRL c)) ≡ true
unfolding access_of has ring_part
ring-stays Rp2040 pass (Some r) file on = range-on r.range
ring-stays Rp235x pass (Some r) file on = range-on r.range
ring-stays c pass r file on = on

-- one sheet
awake-after : (reading : ℕ) (s : Settings) → refusal_of s reading ≡ None → (before : ℕ → ℕ)
    → oscillates (before (ROSC_CTRL s.chip.model)) ≡ true → Awake s.chip.model (carried_out s.chip.model (steps_of reading s) before)
unfolding steps_of clocks_part
awake-after reading s ok before on =
    let c : Chip = s.chip.model in
    let after : ℕ → ℕ = up_to 13 reading s before in
    let start = ap oscillates (stays 2 reading s before ROSC_CTRL refl refl) ∙ on in
    let ring : oscillates (after (ROSC_CTRL c)) ≡ true =
    ap oscillates (holds 13 2 reading s before ROSC_CTRL refl refl)
    ∙ ring-stays c (facts_of c).pass s.rosc (up_to 2 reading s before) start in
    record {
      ring = ring;
      reference =
          selected c (sources_in s) s.reference.src after
          (holds 13 6 reading s before CLK_REF_CTRL refl refl
          ∙ (ref-sets c (frequencies_of s).reference s.reference (up_to 6 reading s before)).0)
          (running c s.rosc s.xosc after ring (ended reading s before).reset (crystal-ends reading s before))
          (ref-source (sources_in s) s.reference (accepted-by s reading ok 8));
    }

pub stays-awake : StaysAwake
stays-awake c [] before h = h
stays-awake c (x ∷ xs) before h =
    let s = settings_of x.plan x.reading in
    let after : ℕ → ℕ = carried_out c (steps_of x.reading s) before in
    let next : Awake c after =
    subst (λ (k : Chip). oscillates (before (ROSC_CTRL k)) ≡ true → Awake k (carried_out k (steps_of x.reading s) before)) x.chip
    (awake-after x.reading s x.accepted before) h.ring in
    stays-awake c xs after next
