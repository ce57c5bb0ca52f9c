-- A runner that answers done stays as it is, and answers done at every later call.
use Rattle.std.specs.Prelude.{Bool, true, false, not, List, ◌⊎◌, ◌≡◌, refl, ℕ, ◌+◌, ◌*◌, ltb, leb, length, take}
use mathlib.Core.Logic.{inl, inr}
use Rattle.base.specs.{Answer.Answer, Answer.value, Answer.refusal, Choice.pick}
use Rattle.step.specs.{declared.Step.Step, Kinds.is, Access.read_at}
use Rattle.runner.specs.declared.Reply.TheVariants.{Done, Handed, Passed, Waiting}
use Rattle.runner.specs.Run.{Outcome, outcome, is_wait, unready, take_step, take_read, outside, onward_of, turn_of, stepper_of}
use Rattle.runner.specs.Run.{advance_of}
use Rattle.runner.specs.declared.{State.State, Runner.Runner, Reply.Reply}
use Rattle.text.specs.Ascii.{same}
use Rattle.runner.proofs.Calls.{both}
use Rattle.step.specs.declared.kind.Kind.TheVariants as kind

abbrev NotDone : Answer Reply → Type 0
NotDone (value Done) = ⊥
NotDone (value (Handed step)) = Unit {0}
NotDone (value Passed) = Unit {0}
NotDone (value Waiting) = Unit {0}
NotDone (refusal n) = Unit {0}

not-at-step : (s : State) (a : Answer Step) (ready : Bool) → NotDone (take_read s a ready).answer
unfolding take_read take_step unready
not-at-step s (value step) ready =
    let N : Outcome State → Type 0 = λ x. NotDone x.answer in
    both N (is_wait step.kind) _ _
    (both N ready _ _ tt
    (both N (not (is step.kind kind.WaitLock)) _ _ tt (both N (ltb (s.lock_polls + 1) 1000000) _ _ tt tt)))
    tt
not-at-step s (refusal n) ready = tt

-- a call does not answer done, or every call does
either : (s : State) (len : ℕ) (kept sheet : List ℕ) (heard ready : Bool)
    → NotDone (turn_of s len kept sheet heard).answer ⊎ (turn_of s len kept sheet ready ≡ outcome (value Done) s)
unfolding turn_of onward_of
either s len kept sheet heard ready =
    go (outside s len) s.stopped (not (same (take len kept) sheet)) (leb (length sheet) (8 * s.position)) _ _
    (not-at-step s (read_at sheet (8 * s.position)) heard)
  where
    calls : Bool → Bool → Bool → Bool → Outcome State → Outcome State
    calls a b c d x =
        pick a (outcome (refusal 21) s)
        (pick b (outcome (refusal 22) s) (pick c (outcome (refusal 27) s) (pick d (outcome (value Done) s) x)))

    go : (a b c d : Bool) (x y : Outcome State) → NotDone x.answer
        → NotDone (calls a b c d x).answer ⊎ (calls a b c d y ≡ outcome (value Done) s)
    go true b c d x y n = inl tt
    go false true c d x y n = inl tt
    go false false true d x y n = inl tt
    go false false false true x y n = inr refl
    go false false false false x y n = inl n

-- a runner that answers done answers done at each call, ready or not, and stays as it is
pub done-stays : (r : Runner) (sheet : List ℕ) (heard ready : Bool) → (advance_of r sheet heard).answer ≡ value Done
    → advance_of r sheet ready ≡ outcome (value Done) r
unfolding advance_of stepper_of
done-stays r sheet heard ready e = go (either s r.len r.kept sheet heard ready)
  where
    s : State
    s = r.stepper.state

    go : NotDone (turn_of s r.len r.kept sheet heard).answer
        ⊎ (turn_of s r.len r.kept sheet ready ≡ outcome (value Done) s)
        → advance_of r sheet ready ≡ outcome (value Done) r
    go (inl n) = absurd (rw e at n)
    go (inr t) = rw t
