-- Each position of a sheet has the step that `read_at` gives there, and the steps of a plan's sheet are the plan's steps.
use Rattle.std.specs.Prelude.{◌≡◌, refl, List, [], ◌∷◌, ℕ, zero, suc, ◌+◌, ◌*◌, ◌/◌, ◌≤◌, ◌<◌, length}
use mathlib.Core.Path.{sym, ap, ◌∙◌}
use native.Mathlib.{Decide.dec_lt, Nat.add-zero, Nat.zero-add, Omega.arith}
use borrow.Author.Tests.{lt-ltb, le-ltb}
use lib.Seq.{ext_get_or}
use Rattle.step.specs.{declared.Step.Step, Sheet.encoded, Sheet.AllFormed, Access.read_at}
use Rattle.step.proofs.Sheets.{length-encoded, read-encoded}
use Rattle.sheet.specs.{Steps.step0, Read.step_at}
use Rattle.readback.specs.Steps.{step_or, steps_from, steps_in, taken_at, step_in}
use Rattle.step.specs.declared.kind.Kind.TheVariants as kind

pub length_from : (sheet : List ℕ) (i n : ℕ) → length (steps_from sheet i n) ≡ n
length_from sheet i zero = refl
length_from sheet i (suc n) = ap suc (length_from sheet (suc i) n)

at_from : (sheet : List ℕ) (i n k : ℕ) → k < n → step_at (steps_from sheet i n) k ≡ step_or (read_at sheet (8 * (i + k)))
at_from sheet i zero k h = absurd (omega arith)
at_from sheet i (suc n) zero h = rw (add-zero i)
at_from sheet i (suc n) (suc k) h =
    let e : suc i + k ≡ i + suc k = omega arith in
    at_from sheet (suc i) n k (omega arith) ∙ ap (λ (j : ℕ). step_or (read_at sheet (8 * j))) e

pub past_end : (xs : List Step) (k : ℕ) → length xs ≤ k → step_at xs k ≡ step0 (kind.Unknown 0)
past_end [] k h = refl
past_end (x ∷ xs) zero h = absurd (omega arith)
past_end (x ∷ xs) (suc k) h = past_end xs k (omega arith)

module _ (sheet : List ℕ) (k : ℕ) where
  pub step-inside : k < length sheet / 8 → step_at (steps_in sheet) k ≡ step_or (read_at sheet (8 * k))
  unfolding steps_in
  step-inside h = rw zero-add at (at_from sheet 0 (length sheet / 8) k h)

  pub step_past : length sheet / 8 ≤ k → step_at (steps_in sheet) k ≡ step0 (kind.Unknown 0)
  unfolding steps_in
  step_past h = past_end (steps_from sheet 0 (length sheet / 8)) k (omega (arith, length_from sheet 0 (length sheet / 8)))

-- What is at a position has the step that the sheet has there.
pub step_taken : (sheet : List ℕ) (at : ℕ) → step_in (taken_at sheet at) ≡ step_at (steps_in sheet) at
step_taken sheet at = elim (dec_lt at (length sheet / 8)) [
  | yes h ↦ rw (lt-ltb at (length sheet / 8) h) (sym (step-inside sheet at h))
  | no n ↦
      let h : length sheet / 8 ≤ at = omega arith in
      rw (le-ltb at (length sheet / 8) h) (sym (step_past sheet at h))
]

pub steps-encoded : (xs : List Step) → AllFormed xs → steps_in (encoded xs) ≡ xs
unfolding steps_in
steps-encoded xs f =
    ext_get_or (step0 (kind.Unknown 0)) (steps_in (encoded xs)) xs long
    (λ i h.
    let inside : i < length xs = omega (arith, long) in
    step-inside (encoded xs) i (omega (arith, length-encoded xs)) ∙ ap step_or (read-encoded xs (step0 (kind.Unknown 0)) i f inside))
  where
    long : length (steps_in (encoded xs)) ≡ length xs
    long = length_from (encoded xs) 0 (length (encoded xs) / 8) ∙ omega (arith, length-encoded xs)
