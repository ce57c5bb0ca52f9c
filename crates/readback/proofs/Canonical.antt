-- The plan that `plan_of` makes of a plan's settings has no larger multiplier or time, and where the plan's fraction fits its
-- chip's bits, it has the same settings.
use Rattle.std.specs.Prelude.{Option, Some, None, ◌≡◌, refl, false, List, ℕ, ◌%◌, ◌^◌, ◌≤◌, eqb}
use mathlib.Core.Path.{sym, ap, ◌∙◌}
use native.Mathlib.{Nat.mod-eq_of_lt, Omega.arith}
use borrow.Author.Tests.{ltb-false}
use Rattle.base.proofs.Bools.{either_way}
use Rattle.divider.specs.Delay.{settling_cycles, delay_of}
use Rattle.config.specs.ChipSettings.{chip_of, config_of, FractionFits}
use Rattle.config.specs.declared.{ClockConfig.ClockConfig, XoscConfig.XoscConfig}
use Rattle.settings.specs.{declared.Settings.Settings, Settings.crystal_of, Settings.ring_hz, Settings.settling_step}
use Rattle.settings.specs.{Settings.settings_of, LeastPlan.xosc_for, LeastPlan.time_for, LeastPlan.plan_with, LeastPlan.plan_of}
use Rattle.settings.proofs.Decoded.{config-back, code-back}
use Rattle.refusals.specs.{Rules.startup_over, Rules.settling_over, Refusals.Accepted}
use Rattle.refusals.proofs.Accepted.{accepted-by, whole-good}
use lib.Seq.{take_all}
use Rattle.step.specs.Sheet.{max_steps, encoded}
use Rattle.sheet.specs.{Steps.steps_of, Writer.sheet_bytes}
use Rattle.sheet.proofs.Sheets.{settings-back, steps-formed, steps-few}
use Rattle.readback.specs.Law.{Gives, multiplier_in, multiplier_of, time_of, Back}
use Rattle.readback.specs.{Steps.steps_in, Steps.steps_read, Read.plan_in}
use Rattle.readback.proofs.{Numbers.smallest, Numbers.time-back, Decoded.steps-encoded, Fixed.settings-fixed}

crystal-kept : (x : Option XoscConfig) → startup_over (crystal_of x) ≡ false
    → (crystal_of (xosc_for (crystal_of x)) ≡ crystal_of x) × (multiplier_in (xosc_for (crystal_of x)) ≤ multiplier_in x)
unfolding startup_over
crystal-kept (Some x) ok =
    let d : ℕ = delay_of x.hz x.delay_multiplier in
    let few : d ≤ 16383 = ltb-false 16383 d ok in
    let same : d % 2 ^ 14 ≡ d = mod-eq_of_lt (omega arith) in
    let least = smallest x.hz x.delay_multiplier in
    (rw (same, least.gives), rw same least.most)
crystal-kept None ok = (refl, omega arith)

-- The time that is found for a settling step gives the same step and is at most the original time.
record Settled (reading code time hz : ℕ) : Type 0 where
  kept : settling_step reading code (time_for hz (settling_step reading code time hz)) hz ≡ settling_step reading code time hz
  most : time_for hz (settling_step reading code time hz) ≤ time
  still : settling_step reading code time hz ≡ None → time_for hz (settling_step reading code time hz) ≡ 0

settled : (reading code time hz : ℕ) → settling_over (settling_step reading code time hz) ≡ false → Settled reading code time hz
unfolding settling_step settling_over time_for
settled reading code time hz ok =
    let n : ℕ = settling_cycles time hz in
    either_way (eqb code reading) (λ e. record { kept = rw e; most = rw e (omega arith); still = rw e (λ _. refl) })
    (λ e.
    either_way (eqb time 0) (λ z. record { kept = rw (e, z); most = rw (e, z) (omega arith); still = rw (e, z) (λ _. refl) })
    (λ z.
    let few : n ≤ 4294967295 = ltb-false 4294967295 n (rw (e, z) at ok) in
    let same : n % 2 ^ 32 ≡ n = mod-eq_of_lt (omega arith) in
    record {
      kept = rw (e, z, same, time-back, z);
      most = rw (e, z, same, time-back) (omega arith);
      still = rw (e, z) (λ h. cc);
    }))

module _ (q : ClockConfig) (reading : ℕ) (ok : Accepted q reading) where
  abbrev mine : ClockConfig
  mine = plan_of (settings_of q reading)

  settled-of : Settled reading (chip_of q.chip).volts.code (time_of q) (ring_hz q.rosc)
  settled-of = settled _ _ _ _ (accepted-by (settings_of q reading) reading ok 3)

  crystal-of : (crystal_of (xosc_for (crystal_of q.xosc)) ≡ crystal_of q.xosc)
      × (multiplier_in (xosc_for (crystal_of q.xosc)) ≤ multiplier_in q.xosc)
  crystal-of = crystal-kept q.xosc (accepted-by (settings_of q reading) reading ok 4)

  module _ (fits : FractionFits (chip_of q.chip)) where
    chip-of : config_of (chip_of q.chip) ≡ q.chip
    chip-of =
        let b = chip_of q.chip in
        config-back q.chip (whole-good _ b.whole (accepted-by (settings_of q reading) reading ok 9)).1 fits

    -- A plan is the one with its own settings, crystal and time.
    pub planned : plan_with (settings_of q reading) q.xosc q.voltage_stabilization_delay_us ≡ q
    planned = rw chip-of

    pub settings-kept : settings_of mine reading ≡ settings_of q reading
    unfolding plan_of
    settings-kept = rw (chip-of, crystal-of.0, settled-of.kept)

  pub multiplier-most : multiplier_of mine ≤ multiplier_of q
  unfolding plan_of
  multiplier-most = crystal-of.1

  pub time-most : time_of mine ≤ time_of q
  unfolding plan_of
  time-most = settled-of.most

  pub time-still : (settings_of mine reading).settling ≡ None → time_of mine ≡ 0
  unfolding plan_of
  time-still e = settled-of.still (sym settled-of.kept ∙ (rw (code-back q.chip) at e))

given-in : (sheet : List ℕ) (reading : ℕ)
    → (plan_in sheet reading).voltage_stabilization_delay_us ≡ Some (time_of (plan_in sheet reading))
unfolding plan_in plan_of
given-in sheet reading = refl

-- The steps in the bytes of a plan's sheet are the plan's steps.
steps-in : {sheet : List ℕ} {reading : ℕ} {q : ClockConfig} → Gives sheet reading q
    → steps_in sheet ≡ steps_of reading (settings_of q reading)
unfolding sheet_bytes
steps-in {sheet} {reading} {q} g =
    rw (← g.bytes) (steps-encoded (steps_of reading (settings_of q reading)) (steps-formed q reading g.accepted g.typed))

-- They are at most 66, so all of them are read.
read-in : {sheet : List ℕ} {reading : ℕ} {q : ClockConfig} → Gives sheet reading q
    → steps_read sheet ≡ steps_of reading (settings_of q reading)
unfolding steps_read
read-in {sheet} {reading} {q} g = rw (steps-in g) (take_all max_steps _ (steps-few reading (settings_of q reading)))

-- Where some plan gives the bytes, the plan that is read is the one of that plan's settings.
pub plan-in : {sheet : List ℕ} {reading : ℕ} {q : ClockConfig} → Gives sheet reading q
    → plan_in sheet reading ≡ plan_of (settings_of q reading)
unfolding plan_in
plan-in {sheet} {reading} {q} g =
    rw (read-in g, settings-back q reading g.accepted, settings-fixed q reading g.accepted g.typed)

module _ {sheet : List ℕ} {reading : ℕ} where
  -- The plan that is read from the bytes has the settings of every plan that gives them.
  pub settings-in : (q : ClockConfig) → Gives sheet reading q → settings_of (plan_in sheet reading) reading ≡ settings_of q reading
  settings-in q g = rw (plan-in g) (settings-kept q reading g.accepted g.typed.fraction)

  pub gives-in : (q : ClockConfig) → Gives sheet reading q → Gives sheet reading (plan_in sheet reading)
  unfolding sheet_bytes
  gives-in q g =
      let e = settings-in q g in
      record {
        typed = rw e g.typed;
        accepted = rw e g.accepted;
        bytes = ap (λ (s : Settings). encoded (steps_of reading s)) e ∙ g.bytes;
      }

  -- Where the plan that is read gives the bytes, it is the one that the law states.
  pub back_in : Gives sheet reading (plan_in sheet reading) → Back sheet reading (plan_in sheet reading)
  back_in g =
      record {
        gives = g;
        multiplier = λ q h. rw (plan-in h) (multiplier-most q reading h.accepted);
        time = λ q h. rw (plan-in h) (time-most q reading h.accepted);
        is_given = given-in sheet reading;
        still = rw (plan-in g) (time-still (plan_in sheet reading) reading g.accepted);
      }
