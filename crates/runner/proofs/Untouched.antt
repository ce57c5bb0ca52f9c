-- A refusal leaves the runner as it was, except at the lock timeout.
use mathlib.Core.{Bool.Bool, Bool.true, List.List, List.[], List.◌∷◌, Logic.inl, Logic.inr, Path.◌≡◌, Path.refl}
use Prim.Native.Nat.{ℕ}
use Rattle.base.{specs.Answer.Answer, specs.Answer.value, specs.Answer.refusal, specs.Choice.pick, proofs.Bools.either_way}
use Rattle.runner.specs.declared.{State.State, Stepper.Stepper, Runner.Runner}
use Rattle.runner.specs.declared.Reply.{Reply}
use Rattle.runner.specs.Run.{Outcome, outcome, polled, outside, turn_of, joined, stepper_of, in_runner, advance_of}
use Rattle.runner.specs.Calls.{after, Untouched, stepper_timed_out, timed_out}
use Rattle.runner.proofs.Calls.{every-turn}

-- a stopped runner is refused at each call, with 21 where that comes first, and stays as it is
pub stopped-stays : (r : Runner) (sheet : List ℕ) (ready : Bool) → r.stepper.state.stopped ≡ true
    → advance_of r sheet ready ≡ outcome (refusal (pick (outside r.stepper.state r.len) 21 22)) r
unfolding advance_of stepper_of turn_of
stopped-stays r sheet ready e = either_way (outside r.stepper.state r.len) (λ o. simp o) (λ o. simp (o, e))

pub stopped-for-good : (r : Runner) (sheet : List ℕ) (flags : List Bool) → r.stepper.state.stopped ≡ true
    → after r sheet flags ≡ r
stopped-for-good r sheet [] e = refl
stopped-for-good r sheet (ready ∷ flags) e = simp (stopped-stays r sheet ready e) (stopped-for-good r sheet flags e)

abbrev Kept : State → Outcome State → Type 0
Kept s = Untouched s (polled s s.lock_polls true)

turn-keeps : (s : State) (len : ℕ) (kept sheet : List ℕ) (ready : Bool) → Kept s (turn_of s len kept sheet ready)
turn-keeps s len kept sheet ready =
    every-turn (Kept s) s len kept sheet ready (λ n. inl refl) tt tt (λ polls. tt) (inr (refl, refl)) (λ step e. tt)

with-freqs : (b : Stepper) (t : Outcome State) → Kept b.state t
    → Untouched b (stepper_timed_out b) (joined t b.freqs)
with-freqs b t = go t.answer t.next
  where
    go : (a : Answer Reply) (s : State) → Kept b.state (outcome a s)
        → Untouched b (stepper_timed_out b) (joined (outcome a s) b.freqs)
    go (value p) s k = tt
    go (refusal n) s (inl e) = inl (rw e)
    go (refusal n) s (inr (number, e)) = inr (number, rw e)

-- a refusal leaves the stepper unchanged, except at the lock timeout
pub stepper-keeps : (b : Stepper) (len : ℕ) (kept sheet : List ℕ) (ready : Bool)
    → Untouched b (stepper_timed_out b) (stepper_of b len kept sheet ready)
unfolding stepper_of
stepper-keeps b len kept sheet ready =
    with-freqs b (turn_of b.state len kept sheet ready) (turn-keeps b.state len kept sheet ready)

with-kept : (r : Runner) (x : Outcome Stepper) → Untouched r.stepper (stepper_timed_out r.stepper) x
    → Untouched r (timed_out r) (in_runner r x)
with-kept r x = go x.answer x.next
  where
    go : (a : Answer Reply) (b : Stepper) → Untouched r.stepper (stepper_timed_out r.stepper) (outcome a b)
        → Untouched r (timed_out r) (in_runner r (outcome a b))
    go (value p) b k = tt
    go (refusal n) b (inl e) = inl (rw e)
    go (refusal n) b (inr (number, e)) = inr (number, rw e)

-- so a refusal leaves the runner unchanged, except at the lock timeout; the kept sheet never changes
pub refusal-keeps : (r : Runner) (sheet : List ℕ) (ready : Bool) → Untouched r (timed_out r) (advance_of r sheet ready)
unfolding advance_of
refusal-keeps r sheet ready =
    with-kept r (stepper_of r.stepper r.len r.kept sheet ready)
    (stepper-keeps r.stepper r.len r.kept sheet ready)
