-- A runner follows only the sheet that it was started with: any other sheet is refused and changes nothing.
use Rattle.std.specs.Prelude.{Bool, false, List, [], ◌∷◌, ◌≡◌, refl, ℕ, take}
use mathlib.Core.Path.{sym, ap, ◌∙◌}
use Rattle.base.specs.Answer.{refusal}
use Rattle.base.proofs.Bools.{either_way}
use Rattle.runner.specs.Run.{outcome, outside, turn_of, stepper_of, started_with, advance_of}
use Rattle.runner.specs.{declared.Runner.Runner, Calls.after, Calls.Call, Calls.call, Calls.after_calls, Calls.flags_of}
use Rattle.text.specs.Ascii.{same}
use Rattle.text.proofs.Same.{same_true}
use Rattle.runner.proofs.Starts.{kept-sheet}

module _ (r : Runner) (sheet : List ℕ) (ready : Bool) (other : same (take r.len r.kept) sheet ≡ false) where
  -- any other sheet is refused, with 27 where neither 21 nor 22 comes first
  pub other-refused : outside r.stepper.state r.len ≡ false → r.stepper.state.stopped ≡ false
      → advance_of r sheet ready ≡ outcome (refusal 27) r
  unfolding advance_of stepper_of turn_of
  other-refused o t = simp (o, t, other)

  -- a call with another sheet leaves the runner as it is
  pub other-leaves : (advance_of r sheet ready).next ≡ r
  unfolding advance_of stepper_of turn_of
  other-leaves =
      either_way (outside r.stepper.state r.len) (λ o. simp o)
      (λ o. either_way r.stepper.state.stopped (λ t. simp (o, t)) (λ t. simp (o, t, other)))

-- after calls with any sheets, the runner is the same as after only the calls with the kept sheet
kept-alone : (sheet : List ℕ) (calls : List Call) (r : Runner) → take r.len r.kept ≡ sheet
    → after_calls r calls ≡ after r sheet (flags_of sheet calls)
unfolding advance_of
kept-alone sheet [] r e = refl
kept-alone sheet (call given ready ∷ calls) r e =
    either_way (same sheet given)
    (λ s.
    rw s
    (kept-alone sheet calls (advance_of r given ready).next e
    ∙ ap (λ (x : List ℕ). after (advance_of r x ready).next sheet (flags_of sheet calls)) (sym (same_true sheet given s))))
    (λ s. rw (s, other-leaves r given ready (rw e s)) (kept-alone sheet calls r e))

pub one-sheet : (sheet : List ℕ) (calls : List Call)
    → after_calls (started_with sheet) calls ≡ after (started_with sheet) sheet (flags_of sheet calls)
one-sheet sheet calls = kept-alone sheet calls (started_with sheet) (kept-sheet sheet)
