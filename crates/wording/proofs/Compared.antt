-- The two outcomes of the test of an order: it is refused, or the settings that differ decide.
use Rattle.std.specs.Prelude.{◌≡◌, ℕ, Ok, Err, refl}
use Rattle.base.specs.{declared.refusal.Refusal.Refusal, Refusals.number_of}
use Rattle.config.specs.declared.ClockConfig.{ClockConfig}
use Rattle.settings.specs.{declared.Frequencies.Frequencies, Settings.settings_of}
use Rattle.refusals.specs.Refusals.{examined_of}
use Rattle.refusals.proofs.Examined.{examined-refused, examined-accepted}
use Rattle.wording.specs.{Differences.differences_of, Verdict.order_refused, Verdict.by_bits, Verdict.compared}

module _ (reading : ℕ) (p q : ClockConfig) where
  pub refused_order : (reason : Refusal) → Err reason ≡ examined_of (settings_of q reading) reading
      → compared reading p q ≡ order_refused (number_of reason)
  unfolding compared
  refused_order reason e = rw (examined-refused (settings_of q reading) reading reason e) refl

  pub accepted_order : (f : Frequencies) → Ok f ≡ examined_of (settings_of q reading) reading
      → compared reading p q ≡ by_bits (differences_of (settings_of p reading) (settings_of q reading)) p q
  unfolding compared
  accepted_order f e = let found = examined-accepted (settings_of q reading) reading f e in rw found.0 refl
