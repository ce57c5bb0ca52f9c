-- The rules of a call by cases: each test picks one equation of `turn_of`, and a property of all outcomes holds of
-- every call.
use Rattle.std.specs.Prelude.{Bool, true, false, ◌||◌, not, List, ◌≡◌, refl, ℕ, ◌+◌, ◌*◌, ◌<◌, ◌≤◌, ltb, leb, length, take, min}
use borrow.Author.Tests.{le-leb, lt-leb, ltb-false}
use native.Mathlib.Omega.{arith}
use Rattle.base.specs.{Answer.Answer, Answer.value, Answer.refusal, Choice.pick}
use Rattle.std.proofs.{lemmas.Bool.or_parts, Common.rules, lemmas.Bool.Decides.nat_tests}
use Rattle.step.specs.Sheet.{max_steps, max_bytes}
use Rattle.step.specs.{declared.Step.Step, Kinds.is, declared.kind.Kind.Kind, Access.read_at, Size.bad_size}
use Rattle.step.proofs.Sizes.{size_fits}
use Rattle.runner.specs.Run.{Outcome, outcome, moved_on, polled, waits, is_wait, one_more, unready, take_step, take_read, outside}
use Rattle.runner.specs.Run.{onward_of, turn_of}
use Rattle.runner.specs.declared.{State.State, Reply.TheVariants.Done, Reply.TheVariants.Handed, Reply.TheVariants.Passed}
use Rattle.text.specs.Ascii.{same}
use Rattle.step.specs.declared.kind.Kind.TheVariants as kind

module _ (s : State) (len : ℕ) (o : outside s len ≡ false) where
  ranged : ((ltb max_steps s.position || ltb 999999 s.lock_polls) ≡ false) × (bad_size len ≡ false)
  unfolding outside
  ranged = or_parts (ltb max_steps s.position || ltb 999999 s.lock_polls) (bad_size len) o

  pub inside : (s.position ≤ max_steps) × (s.lock_polls < 1000000)
  inside =
      let both = or_parts (ltb max_steps s.position) (ltb 999999 s.lock_polls) ranged.0 in
      (ltb-false max_steps s.position both.0, omega (arith, ltb-false 999999 s.lock_polls both.1))

  pub len_fits : len ≤ max_bytes
  len_fits = size_fits len ranged.1

-- what holds of a call whose numbers are in range
pub ruleset ranges = (inside, len_fits)

module _ (s : State) (sheet : List ℕ) (ready : Bool) where
  pub onward-done : length sheet ≤ 8 * s.position → outcome (value Done) s ≡ onward_of s sheet ready
  unfolding onward_of
  onward-done h = simp (le-leb _ _ h)

  pub onward-read : 8 * s.position < length sheet → (a : Answer Step) → read_at sheet (8 * s.position) ≡ a
      → take_read s a ready ≡ onward_of s sheet ready
  unfolding onward_of
  onward-read h a e = simp (lt-leb _ _ h, e)

module _ (s : State) (len : ℕ) (kept sheet : List ℕ) (ready : Bool) where
  pub call-outside : outside s len ≡ true → outcome (refusal 21) s ≡ turn_of s len kept sheet ready
  unfolding turn_of
  call-outside o = simp o

  module _ (o : outside s len ≡ false) where
    pub call-stopped : s.stopped ≡ true → outcome (refusal 22) s ≡ turn_of s len kept sheet ready
    unfolding turn_of
    call-stopped t = simp (o, t)

    module _ (t : s.stopped ≡ false) where
      pub call-differs : same (take len kept) sheet ≡ false → outcome (refusal 27) s ≡ turn_of s len kept sheet ready
      unfolding turn_of
      call-differs d = simp (o, t, d)

      pub call-goes : same (take len kept) sheet ≡ true → onward_of s sheet ready ≡ turn_of s len kept sheet ready
      unfolding turn_of
      call-goes d = simp (o, t, d)

pub both : {A : Type 0} (P : A → Type 0) (b : Bool) (x y : A) → P x → P y → P (pick b x y)
both P true x y p q = p
both P false x y p q = q

-- a property of every outcome that the rules name holds of a call
module _ (P : Outcome State → Type 0) (s : State) (len : ℕ) (kept sheet : List ℕ) (ready : Bool)
    (refuses : (n : ℕ) → P (outcome (refusal n) s))
    (ends : P (outcome (value Done) s)) (passes : P (outcome (value Passed) (moved_on s 0)))
    (stays : (polls : ℕ) → P (waits s polls)) (stops : P (outcome (refusal 22) (polled s s.lock_polls true)))
    (hands : (step : Step) → read_at sheet (8 * s.position) ≡ value step
    → P (outcome (value (Handed step)) (moved_on s s.lock_polls))) where
  polls : (wait : Kind) → P (unready s wait)
  unfolding unready
  polls wait =
      both P (not (is wait kind.WaitLock)) _ _ (stays _)
      (both P (ltb (s.lock_polls + 1) 1000000) _ _ (stays _) stops)

  reads : (a : Answer Step) → read_at sheet (8 * s.position) ≡ a → P (take_read s a ready)
  unfolding take_read take_step
  reads (value step) e =
      both P (is_wait step.kind) _ _ (both P ready _ _ passes (polls step.kind)) (hands step e)
  reads (refusal n) e = refuses n

  pub every-turn : P (turn_of s len kept sheet ready)
  unfolding turn_of onward_of
  every-turn =
      both P (outside s len) _ _ (refuses 21)
      (both P s.stopped _ _ (refuses 22)
      (both P (not (same (take len kept) sheet)) _ _ (refuses 27)
      (both P (leb (length sheet) (8 * s.position)) _ _ ends (reads (read_at sheet (8 * s.position)) refl))))

-- the saturating sum of 32 bits
pub one_more_is : (total : ℕ) → total < 4294967296 → min (total + 1) 4294967295 ≡ one_more total
unfolding one_more
one_more_is total h = search (rules, nat_tests)

-- tests on numbers, and the count of polls
pub ruleset counting = (nat_tests, one_more_is)
