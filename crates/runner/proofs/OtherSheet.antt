-- After any calls, a started runner refuses any other sheet with 27, or with 22 once it is stopped.
use Rattle.std.specs.Prelude.{Bool, true, false, not, List, [], ◌∷◌, ◌≡◌, refl, ℕ, ◌+◌, ◌*◌, ◌%◌, ◌≤◌, ◌<◌, eqb, ltb, leb, length}
use Rattle.std.specs.Prelude.{take}
use native.Mathlib.Omega.{arith}
use borrow.Author.Tests.{leb-false, ltb-true, eqb-true, le-ltb, not-false}
use lib.ListN.{length-take}
use Rattle.base.specs.{Answer.Answer, Answer.value, Answer.refusal, Choice.pick}
use Rattle.base.proofs.Bools.{either_way}
use Rattle.std.proofs.lemmas.Bool.{or_parts}
use Rattle.step.specs.Sheet.{max_steps, max_bytes}
use Rattle.step.specs.{declared.Step.Step, Kinds.is, declared.kind.Kind.Kind, Access.read_at, Size.bad_size}
use Rattle.text.specs.Ascii.{same}
use Rattle.text.proofs.Same.{same_length}
use Rattle.runner.specs.Run.{Outcome, outcome, unready, is_wait, take_step, take_read, outside, onward_of, turn_of, stepper_of}
use Rattle.runner.specs.Run.{padded, started_with, advance_of}
use Rattle.runner.specs.{declared.State.State, declared.Runner.Runner, Calls.Call, Calls.call, Calls.after_calls}
use Rattle.runner.proofs.{Calls.both, Starts.kept-sheet, Untouched.stopped-stays, OneSheet.other-refused}
use Rattle.step.proofs.Sizes.{size_fits}
use Rattle.step.specs.declared.kind.Kind.TheVariants as kind

either : {A : Type 0} (P : A → Type 0) (b : Bool) (x y : A) → (b ≡ true → P x) → (b ≡ false → P y) → P (pick b x y)
either P true x y p q = p refl
either P false x y p q = q refl

-- the position is at most that past the last step, and the lock polls are below the timeout
abbrev InRange : ℕ → State → Type 0
InRange len s = (8 * s.position ≤ len) × (s.lock_polls < 1000000)

whole-steps : (len : ℕ) → bad_size len ≡ false → len % 8 ≡ 0
whole-steps len e =
    eqb-true (len % 8) 0 (not-false (eqb (len % 8) 0) (or_parts (ltb max_bytes len) (not (eqb (len % 8) 0)) e).1)

in-range : (s : State) (len : ℕ) → bad_size len ≡ false → InRange len s → outside s len ≡ false
unfolding outside
in-range s len e (at, few) =
    let fits = size_fits len e in
    simp (le-ltb max_steps s.position (omega arith), le-ltb 999999 s.lock_polls (omega arith), e)

-- a call leaves the state in range
module _ (s : State) (len : ℕ) (kept sheet : List ℕ) (ready : Bool) (good : bad_size len ≡ false) (ranged : InRange len s) where
  abbrev Stays : Outcome State → Type 0
  Stays x = InRange len x.next

  unready-in : (wait : Kind) → Stays (unready s wait)
  unfolding unready
  unready-in wait =
      both Stays (not (is wait kind.WaitLock)) _ _ ranged
      (either Stays (ltb (s.lock_polls + 1) 1000000) _ _ (λ e. (ranged.0, ltb-true _ _ e)) (λ e. ranged))

  read-in : 8 * s.position + 8 ≤ len → (a : Answer Step) → Stays (take_read s a ready)
  unfolding take_read take_step
  read-in h (value step) =
      both Stays (is_wait step.kind) _ _
      (both Stays ready _ _ (omega (arith, h), omega arith) (unready-in step.kind))
      (omega (arith, h), ranged.1)
  read-in h (refusal n) = ranged

  turn_in : Stays (turn_of s len kept sheet ready)
  unfolding turn_of onward_of
  turn_in =
      both Stays (outside s len) _ _ ranged
      (both Stays s.stopped _ _ ranged
      (either Stays (not (same (take len kept) sheet)) _ _ (λ e. ranged)
      (λ e. either Stays (leb (length sheet) (8 * s.position)) _ _ (λ l. ranged)
      (λ l. read-in (before e l) (read_at sheet (8 * s.position))))))
    where
      before : not (same (take len kept) sheet) ≡ false → leb (length sheet) (8 * s.position) ≡ false → 8 * s.position + 8 ≤ len
      before e l =
          let size = same_length (take len kept) sheet (not-false _ e) in
          let long : length sheet ≤ len = rw (← size) (omega (arith, length-take len kept)) in
          omega (arith, long, leb-false (length sheet) (8 * s.position) l, whole-steps len good)

-- after any calls a runner keeps its sheet and is in range
record Going (sheet : List ℕ) (r : Runner) : Type 0 where
  len : r.len ≡ length sheet
  kept : r.kept ≡ padded sheet
  ranged : InRange r.len r.stepper.state

calls-going : (sheet : List ℕ) → bad_size (length sheet) ≡ false → (calls : List Call) (r : Runner) → Going sheet r
    → Going sheet (after_calls r calls)
unfolding advance_of stepper_of
calls-going sheet good [] r g = g
calls-going sheet good (call given ready ∷ calls) r g =
    calls-going sheet good calls (advance_of r given ready).next
    (record {
      len = g.len;
      kept = g.kept;
      ranged = turn_in r.stepper.state r.len r.kept given ready (rw g.len good) g.ranged;
    })

pub another-refused : (sheet : List ℕ) → bad_size (length sheet) ≡ false → (calls : List Call) (given : List ℕ) (ready : Bool)
    → same sheet given ≡ false → let r = after_calls (started_with sheet) calls in
    advance_of r given ready ≡ outcome (refusal (pick r.stepper.state.stopped 22 27)) r
another-refused sheet good calls given ready other =
    let r = after_calls (started_with sheet) calls in
    let g = calls-going sheet good calls (started_with sheet)
    (record { len = refl; kept = refl; ranged = (omega arith, omega arith) }) in
    let o = in-range r.stepper.state r.len (rw g.len good) g.ranged in
    let different : same (take r.len r.kept) given ≡ false = rw (g.len, g.kept, kept-sheet sheet) other in
    either_way r.stepper.state.stopped (λ e. rw e (rw o at (stopped-stays r given ready e)))
    (λ e. rw e (other-refused r given ready different o e))
