-- What the answer of `examine` says: a refusal is that of the settings, and frequencies are theirs, which are accepted.
use Rattle.std.specs.Prelude.{◌≡◌, refl, ℕ, Option, Some, None, Ok, Err}
use Rattle.base.specs.declared.refusal.Refusal.{Refusal}
use Rattle.settings.specs.{declared.Settings.Settings, declared.Frequencies.Frequencies, Frequencies.frequencies_of}
use Rattle.refusals.specs.Refusals.{refusal_of, unless_refused, examined_of}

module _ (s : Settings) (reading : ℕ) where
  pub examined-refused : (reason : Refusal) → Err reason ≡ examined_of s reading → refusal_of s reading ≡ Some reason
  examined-refused reason = go (refusal_of s reading)
    where
      go : (found : Option Refusal) → Err reason ≡ unless_refused found (frequencies_of s) → found ≡ Some reason
      go (Some held) e = cc
      go None e = absurd cc

  pub examined-accepted : (f : Frequencies) → Ok f ≡ examined_of s reading
      → (refusal_of s reading ≡ None) × (f ≡ frequencies_of s)
  examined-accepted f = go (refusal_of s reading)
    where
      go : (found : Option Refusal) → Ok f ≡ unless_refused found (frequencies_of s) → (found ≡ None) × (f ≡ frequencies_of s)
      go (Some held) e = absurd cc
      go None e = (refl, cc)
