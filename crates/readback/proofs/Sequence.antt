-- The steps that a reader gives one after another are the steps of the sheet.
use Rattle.std.specs.Prelude.{None, ◌≡◌, refl, List, ◌∷◌, ℕ, zero, suc, ◌+◌, ◌/◌, ◌≤◌, ◌<◌, length, take, drop}
use mathlib.Core.Path.{ap, ◌∙◌}
use native.Mathlib.Omega.{arith}
use lib.Seq.{drop-cons, take_all}
use borrow.Author.Tests.{lt-ltb, le-ltb}
use denote.Ref.{Bor}
use Rattle.step.specs.declared.Step.{Step}
use Rattle.sheet.specs.{Steps.step0, Read.step_at}
use Rattle.readback.specs.{declared.Reader.Reader, Steps.steps_in, Steps.taken_at, Steps.next_step, Steps.moved, Steps.nexts}
use Rattle.readback.proofs.Decoded.{length_from, step_past}
use Rattle.step.specs.declared.kind.Kind.TheVariants as kind

module _ (s : Bor (List ℕ)) where
  abbrev pub reader_at : ℕ → Reader
  reader_at n = record { sheet = s; at = n }

  abbrev steps : List Step
  steps = steps_in s.now

  pub long : length steps ≡ length s.now / 8
  unfolding steps_in
  long = length_from s.now 0 (length s.now / 8)

  pub next-is : (n : ℕ) → next_step (reader_at n) ≡ step_at steps n
  next-is n = refl

  pub moves-on : (n : ℕ) → n < length s.now / 8 → moved (reader_at n) ≡ reader_at (suc n)
  moves-on n h = rw (lt-ltb n (length s.now / 8) h) (ap reader_at (omega arith))

  -- At the end nothing is given, which counts as a step of kind 0, and the reader stays.
  pub stops : (n : ℕ) → length s.now / 8 ≤ n
      → (taken_at s.now n ≡ None) × (next_step (reader_at n) ≡ step0 (kind.Unknown 0)) × (moved (reader_at n) ≡ reader_at n)
  stops n h =
      let over = le-ltb n (length s.now / 8) h in
      (rw over, step_past s.now n h, rw over)

  from_place : (n i : ℕ) → i + n ≤ length s.now / 8 → nexts n (reader_at i) ≡ take n (drop i steps)
  unfolding nexts
  from_place zero i h = refl
  from_place (suc n) i h =
      let inside : i < length steps = omega (arith, long) in
      rw (drop-cons steps i (step0 (kind.Unknown 0)) inside, next-is i, moves-on i (omega arith))
      (ap (λ (xs : List Step). step_at steps i ∷ xs) (from_place n (suc i) (omega arith)))

  -- From the start n calls of `next` give the first n steps, so one call for each step gives the whole sheet.
  pub one-after-another : (n : ℕ) → n ≤ length s.now / 8 → nexts n (reader_at 0) ≡ take n steps
  one-after-another n h = from_place n 0 (omega arith)

  pub all-steps : nexts (length s.now / 8) (reader_at 0) ≡ steps
  all-steps = one-after-another (length s.now / 8) (omega arith) ∙ take_all (length s.now / 8) steps (omega (arith, long))
