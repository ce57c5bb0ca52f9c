-- The frequencies after the steps of a sheet are its stored values, since only its stores set them.
use Rattle.std.specs.Prelude.{false, List, [], ◌∷◌, ◌≡◌, refl, ℕ, replicate}
use mathlib.Core.Path.{ap, ◌∙◌}
use Rattle.base.proofs.Bools.{either_way}
use Rattle.step.specs.{declared.Step.Step, Kinds.is}
use Rattle.config.specs.declared.ChipConfig.TheVariants.{Rp2040 as on2040, Rp235x as on235x}
use Rattle.config.specs.{declared.ChipConfig.ChipConfig, declared.ClockConfig.ClockConfig, ChipSettings.chip_of}
use Rattle.settings.specs.Frequencies.{rtc_hz, tenth_of, stored_of, ten_of}
use Rattle.settings.specs.{declared.Sources.Sources, Settings.settings_of}
use Rattle.sheet.specs.{Steps.steps_of, Stores.stores_in, Stores.stores_from}
use Rattle.sheet.proofs.Sheets.{sheet-stores}
use Rattle.runner.specs.{Run.stored_by, Calls.stores_of}
use Rattle.step.specs.declared.kind.Kind.TheVariants as kind

no_store : (x : Step) (freqs : List ℕ) → is x.kind kind.Store ≡ false → stored_by x freqs ≡ freqs
unfolding stored_by
no_store x freqs k = simp k

stores-alone : (xs : List Step) (freqs : List ℕ) → stores_of xs freqs ≡ stores_of (stores_in xs) freqs
stores-alone [] freqs = refl
stores-alone (x ∷ xs) freqs =
    let rest = stores-alone xs (stored_by x freqs) in
    either_way (is x.kind kind.Store) (λ k. rw k rest)
    (λ k. rw k (rest ∙ ap (stores_of (stores_in xs)) (no_store x freqs k)))

-- an RTC for which nothing is stored has 0 Hz
tenth : (c : ChipConfig) (f : Sources) (a₀ a₁ a₂ a₃ a₄ a₅ a₆ a₇ a₈ : ℕ)
    → stores_of (stores_from 9 (tenth_of (chip_of c).model (rtc_hz f (chip_of c).rtc)))
    (a₀ ∷ a₁ ∷ a₂ ∷ a₃ ∷ a₄ ∷ a₅ ∷ a₆ ∷ a₇ ∷ a₈ ∷ 0 ∷ [])
    ≡ a₀ ∷ a₁ ∷ a₂ ∷ a₃ ∷ a₄ ∷ a₅ ∷ a₆ ∷ a₇ ∷ a₈ ∷ rtc_hz f (chip_of c).rtc ∷ []
unfolding stored_by
tenth (on2040 c) f a₀ a₁ a₂ a₃ a₄ a₅ a₆ a₇ a₈ = refl
tenth (on235x c) f a₀ a₁ a₂ a₃ a₄ a₅ a₆ a₇ a₈ = refl

pub steps-store : (reading : ℕ) (p : ClockConfig)
    → stores_of (steps_of reading (settings_of p reading)) (replicate 10 0) ≡ ten_of (settings_of p reading)
unfolding stored_of ten_of stored_by
steps-store reading p =
    let s = settings_of p reading in
    stores-alone (steps_of reading s) (replicate 10 0)
    ∙ ap (λ (xs : List Step). stores_of xs (replicate 10 0)) (sheet-stores reading s)
    ∙ tenth p.chip _ _ _ _ _ _ _ _ _ _
