-- Bounds for the numbers of a plan that the refusals do not exclude.
use Rattle.std.specs.Prelude.{Option, Some, None, ◌≡◌, false, ◌||◌, ℕ, ◌<◌, eqb}
use native.Mathlib.Omega.{arith}
use borrow.Author.Tests.{eq-eqb}
use Rattle.std.proofs.lemmas.Bool.{or_parts}
use Rattle.config.specs.declared.AuxClkConfig.{AuxClkConfig}
use Rattle.settings.specs.Settings.{settling_step}
use Rattle.refusals.specs.Rules.{divider_bad, aux_bad}
use Rattle.refusals.proofs.Accepted.{none_more, divider-good}
use Rattle.settings.proofs.Decoded.{Small, AuxSmall}

-- The divider and the phase of a present clock fit their fields.
abbrev pub AuxFits : Option AuxClkConfig → Type 0
AuxFits (Some a) = Small a.div × (a.phase < 4)
AuxFits None = Unit {0}

pub aux-fits : (source : ℕ) (o : Option AuxClkConfig) → aux_bad source o ≡ false → AuxFits o
unfolding aux_bad
aux-fits source (Some a) e =
    let h = none_more (eqb source 0 || divider_bad a.div) 3 a.phase e in
    (divider-good a.div (or_parts (eqb source 0) (divider_bad a.div) h.0).1, omega (arith, h.1))
aux-fits source None e = tt

pub aux-divider : (o : Option AuxClkConfig) → AuxFits o → AuxSmall o
aux-divider (Some a) h = h.0
aux-divider None h = tt

-- There is no settling step where the voltage stays.
pub settling-none : (reading code time hz : ℕ) → code ≡ reading → settling_step reading code time hz ≡ None
unfolding settling_step
settling-none reading code time hz e = rw (eq-eqb code reading e)
