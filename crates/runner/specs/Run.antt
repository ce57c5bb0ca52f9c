-- The runner (docs/FORMAT.md, Runner): the answer of a start and of each call, and the runner after it, for every
-- runner, sheet and ready flag.
use Rattle.std.specs.Prelude.{ℕ, ◌+◌, ◌-◌, ◌*◌, Bool, true, false, ◌||◌, not, List, ◌++◌, ltb, leb, length, get_or, set, take}
use Rattle.std.specs.Prelude.{replicate}
use Rattle.base.specs.{Answer.Answer, Answer.value, Answer.refusal, Choice.pick}
use Rattle.text.specs.Ascii.{same}
use Rattle.step.specs.Sheet.{max_steps, max_bytes}
use Rattle.step.specs.{declared.Step.Step, Kinds.is, declared.kind.Kind.Kind, Access.read_at, Steps.WellFormed, Size.bad_size}
use Rattle.runner.specs.declared.Reply.TheVariants.{Done, Handed, Passed, Waiting}
use Rattle.runner.specs.declared.{Reply.Reply, State.State, Stepper.Stepper, Runner.Runner}
use Rattle.step.specs.declared.kind.Kind.TheVariants as kind

-- the answer of a call or a start, and the state, stepper, runner or bench after it
pub record Leaves (P A : Type 0) : Type 0 where
  pub answer : Answer P
  pub next : A

abbrev pub Outcome : Type 0 → Type 0
Outcome A = Leaves Reply A

-- a start that is not refused answers nothing more
abbrev pub StartOutcome : Type 0 → Type 0
StartOutcome A = Leaves Unit A

abbrev pub outcome : {P A : Type 0} → Answer P → A → Leaves P A
outcome a x = record { answer = a; next = x }

-- all numbers 0, and not stopped
abbrev pub fresh_stepper : Stepper
fresh_stepper =
    record {
      state = record { position = 0; lock_polls = 0; total = 0; stopped = false };
      freqs = replicate 10 0;
    }

-- before any start the kept sheet is empty
abbrev pub fresh : Runner
fresh = record { kept = replicate max_bytes 0; len = 0; stepper = fresh_stepper }

-- the frequency that a runner holds for a clock, by the clock's number
abbrev pub freq_of : Runner → ℕ → ℕ
freq_of r clock = get_or r.stepper.freqs clock 0

-- the waits
abbrev pub is_wait : Kind → Bool
is_wait of =
    is of kind.WaitReleased || is of kind.WaitSys || is of kind.WaitRef || is of kind.WaitStable || is of kind.WaitLock

-- plus one, saturating at 32 bits
unfoldable pub one_more : ℕ → ℕ
one_more total = pick (ltb total 4294967295) (total + 1) total

-- the state one position on, with the given lock polls
abbrev pub moved_on : State → ℕ → State
moved_on s polls =
    record { position = s.position + 1; lock_polls = polls; total = s.total; stopped = s.stopped }

-- the state after an unready poll, which adds one to the total, with the given lock polls and stopped mark
abbrev pub polled : State → ℕ → Bool → State
polled s polls stopped =
    record { position = s.position; lock_polls = polls; total = one_more s.total; stopped = stopped }

abbrev pub waits : State → ℕ → Outcome State
waits s polls = outcome (value Waiting) (polled s polls s.stopped)

-- the unready poll at a wait for lock that is refused, and the most that are counted
abbrev pub lock_timeout : ℕ
lock_timeout = 1000000

abbrev pub most_lock_polls : ℕ
most_lock_polls = lock_timeout - 1

-- rule 8 of a call: unready is waiting, and at the wait for lock adds one lock poll; the 1000000th of these is
-- refused with 22 and stops the runner
unfoldable pub unready : State → Kind → Outcome State
unready s wait =
    pick (not (is wait kind.WaitLock)) (waits s s.lock_polls)
    (pick (ltb (s.lock_polls + 1) lock_timeout) (waits s (s.lock_polls + 1))
    (outcome (refusal 22) (polled s s.lock_polls true)))

-- on ready a wait is passed and the lock polls become 0; any other step is handed out
unfoldable pub take_step : State → Step → Bool → Outcome State
take_step s step ready =
    pick (is_wait step.kind)
    (pick ready (outcome (value Passed) (moved_on s 0)) (unready s step.kind))
    (outcome (value (Handed step)) (moved_on s s.lock_polls))

-- the step at the position, or the refusal of its bytes
unfoldable pub take_read : State → Answer Step → Bool → Outcome State
take_read s (value step) ready = take_step s step ready
take_read s (refusal n) ready = outcome (refusal n) s

-- refusal 21: position over the greatest number of steps, more lock polls than are counted, or a kept length that no sheet has
unfoldable pub outside : State → ℕ → Bool
outside s len = (ltb max_steps s.position || ltb most_lock_polls s.lock_polls) || bad_size len

-- done past the last step, else the step
unfoldable pub onward_of : State → List ℕ → Bool → Outcome State
onward_of s sheet ready =
    pick (leb (length sheet) (8 * s.position)) (outcome (value Done) s)
    (take_read s (read_at sheet (8 * s.position)) ready)

-- a call: refusal 21, then 22 for a stopped runner, then 27 for a sheet other than the kept one, then done or the step
unfoldable pub turn_of : State → ℕ → List ℕ → List ℕ → Bool → Outcome State
turn_of s len kept sheet ready =
    pick (outside s len) (outcome (refusal 21) s)
    (pick s.stopped (outcome (refusal 22) s)
    (pick (not (same (take len kept) sheet)) (outcome (refusal 27) s)
    (onward_of s sheet ready)))

-- the frequencies after a step: a store sets the frequency of its clock
unfoldable pub stored_by : Step → List ℕ → List ℕ
stored_by step freqs = pick (is step.kind kind.Store) (set freqs step.f0 step.f1) freqs

-- the ten frequencies after an answer: a step stores when it is handed out
abbrev pub freqs_after : Answer Reply → List ℕ → List ℕ
freqs_after (value Done) freqs = freqs
freqs_after (value (Handed step)) freqs = stored_by step freqs
freqs_after (value Passed) freqs = freqs
freqs_after (value Waiting) freqs = freqs
freqs_after (refusal n) freqs = freqs

-- a step that is handed out is well-formed
abbrev pub HandsFormed : Answer Reply → Type 0
HandsFormed (value Done) = Unit {0}
HandsFormed (value (Handed step)) = WellFormed step
HandsFormed (value Passed) = Unit {0}
HandsFormed (value Waiting) = Unit {0}
HandsFormed (refusal n) = Unit {0}

abbrev pub joined : Outcome State → List ℕ → Outcome Stepper
joined t freqs = outcome t.answer (record { state = t.next; freqs = freqs_after t.answer freqs })

-- a call on a stepper with a kept sheet
unfoldable pub stepper_of : Stepper → ℕ → List ℕ → List ℕ → Bool → Outcome Stepper
stepper_of b len kept sheet ready = joined (turn_of b.state len kept sheet ready) b.freqs

-- a call leaves the kept sheet as it is
abbrev pub with_stepper : Runner → Stepper → Runner
with_stepper r b = record { kept = r.kept; len = r.len; stepper = b }

abbrev pub in_runner : Runner → Outcome Stepper → Outcome Runner
in_runner r x = outcome x.answer (with_stepper r x.next)

unfoldable pub advance_of : Runner → List ℕ → Bool → Outcome Runner
advance_of r sheet ready = in_runner r (stepper_of r.stepper r.len r.kept sheet ready)

-- the kept form of a sheet: its bytes, followed by zeros
abbrev pub padded : List ℕ → List ℕ
padded sheet = sheet ++ replicate (max_bytes - length sheet) 0

-- a runner that was started with the sheet
abbrev pub started_with : List ℕ → Runner
started_with sheet = record { kept = padded sheet; len = length sheet; stepper = fresh_stepper }

-- a start: refusal 20 for a length that no sheet has, which changes nothing; else a fresh runner with the sheet,
-- whatever it was before
unfoldable pub start_of : Runner → List ℕ → StartOutcome Runner
start_of r sheet = pick (bad_size (length sheet)) (outcome (refusal 20) r) (outcome (value tt) (started_with sheet))
