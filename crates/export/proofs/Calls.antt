-- A runner's numbers read back as the runner, and an exported call leaves the numbers of the runner that the definition leaves.
-- So what holds of runners holds of any sequence of exported calls.
use Rattle.std.specs.Prelude.{Bool, true, false, List, [], ◌∷◌, ◌++◌, map, ◌≡◌, ℕ, zero, suc, ◌≤◌, length, get_or, drop, replicate}
use mathlib.Core.Path.{refl, sym, ap, ◌∙◌}
use native.Mathlib.Omega.{arith}
use lib.ListN.{take-append-drop}
use Rattle.base.specs.Answer.{Answer, value, refusal}
use Rattle.base.proofs.Bools.{either_way}
use Rattle.step.specs.{Sheet.max_bytes, Size.bad_size}
use Rattle.config.specs.declared.ClockConfig.{ClockConfig}
use Rattle.settings.specs.{Settings.settings_of, Typed.Typed}
use Rattle.refusals.specs.Refusals.{Accepted}
use Rattle.sheet.specs.Writer.{sheet_bytes}
use Rattle.runner.specs.declared.Reply.TheVariants.{Done, Handed, Passed, Waiting}
use Rattle.runner.specs.declared.{Runner.Runner, Reply.Reply}
use Rattle.runner.specs.Run.{StartOutcome, HandsFormed, fresh, stepper_of, advance_of, started_with, start_of}
use Rattle.runner.specs.Calls.{Call, call, after, after_calls, flags_of}
use Rattle.runner.proofs.{Starts.start-refused, Starts.start-kept, Steps.turn_formed, OneSheet.one-sheet}
use Rattle.boards.specs.History.{Own, start, poll, single_after, single_answers}
use Rattle.bring_up.specs.Wait.{runner_after, call_answer, OnTheWay}
use Rattle.bring_up.proofs.{ComesUp.comes-up, Run.sheet-size}
use Rattle.numbers.proofs.PartRows.{row-drop}
use Rattle.numbers.specs.Answers.{answer_number}
use Rattle.numbers.specs.Run.{progress_number, with_state, with_freqs, run_number, run_leaves, start_leaves}
use Rattle.export.specs.Calls.{Held, runner_of, held_of, call_leaves, held_after, run_numbers, polls, polls_with, ExportedOneSheet}
use Rattle.export.specs.Calls.{held_from, number_of, ExportedComesUp}
use Rattle.export.proofs.{Ranges.word-from, Rows.mark-back, Rows.mark-same, Rows.mark-good}

-- ---- numbers written and read

pub written_read : (r : Runner) → runner_of (held_of r) ≡ r
written_read r = rw (mark-back r.stepper.state.stopped)

pub read-written : (h : Held) → length h.numbers ≡ 15 → get_or h.numbers 3 0 ≤ 1 → held_of (runner_of h) ≡ h
read-written h long marked =
    let ns = h.numbers in
    let whole : (held_of (runner_of h)).numbers ≡ ns =
    rw (mark-same (get_or ns 3 0) marked)
    (ap (λ (l : List ℕ). l ++ drop 5 ns) (row-drop 5 0 ns (omega arith)) ∙ take-append-drop 5 ns) in
    λ i. record { numbers = whole i; bytes = h.bytes }

-- all zeros are a runner before any start
pub zeros-fresh : runner_of (record { numbers = replicate 15 0; bytes = replicate max_bytes 0 }) ≡ fresh
zeros-fresh = refl

-- ---- one call

module _ (r : Runner) (sheet : List ℕ) (ready : Bool) where
  pub ran : call_leaves (held_of r) (poll sheet ready) ≡ held_of (advance_of r sheet ready).next
  unfolding run_leaves with_state with_freqs advance_of
  ran = rw (mark-good r.stepper.state.stopped, mark-back r.stepper.state.stopped)

  pub ran-number : run_number (held_of r).numbers r.kept sheet ready ≡ answer_number progress_number (advance_of r sheet ready).answer
  unfolding run_number advance_of
  ran-number = rw (mark-good r.stepper.state.stopped, mark-back r.stepper.state.stopped)

  pub formed : HandsFormed (advance_of r sheet ready).answer
  unfolding advance_of stepper_of
  formed = turn_formed _ _ _ _ _

-- the numbers and bytes that a start leaves, by its answer
started_by : Held → StartOutcome Runner → Held
started_by h o = record { numbers = start_leaves o.answer h.numbers o.next.len; bytes = o.next.kept }

module _ (h : Held) (sheet : List ℕ) where
  pub turned : bad_size (length sheet) ≡ true → call_leaves h (start sheet) ≡ h
  unfolding started_by
  turned e = ap (started_by h) (sym (start-refused (runner_of h) sheet e))

  pub taken : bad_size (length sheet) ≡ false → call_leaves h (start sheet) ≡ held_of (started_with sheet)
  unfolding started_by
  taken e = ap (started_by h) (sym (start-kept (runner_of h) sheet e))

begun-held : (r : Runner) (sheet : List ℕ) → call_leaves (held_of r) (start sheet) ≡ held_of (start_of r sheet).next
begun-held r sheet =
    either_way (bad_size (length sheet))
    (λ e. turned (held_of r) sheet e ∙ ap (λ (x : StartOutcome Runner). held_of x.next) (start-refused r sheet e))
    (λ e. taken (held_of r) sheet e ∙ ap (λ (x : StartOutcome Runner). held_of x.next) (start-kept r sheet e))

-- ---- calls one after another

-- the numbers and bytes after any calls are those of the runner after the same calls
pub history : (es : List Own) (r : Runner) → held_after (held_of r) es ≡ held_of (single_after r es)
history [] r = refl
history (start sheet ∷ es) r = ap (λ (h : Held). held_after h es) (begun-held r sheet) ∙ history es (start_of r sheet).next
history (poll sheet ready ∷ es) r =
    ap (λ (h : Held). held_after h es) (ran r sheet ready) ∙ history es (advance_of r sheet ready).next

pub answered : (es : List Own) (r : Runner)
    → run_numbers (held_of r) es ≡ map (answer_number progress_number) (single_answers r es)
answered [] r = refl
answered (start sheet ∷ es) r = ap (λ (h : Held). run_numbers h es) (begun-held r sheet) ∙ answered es (start_of r sheet).next
answered (poll sheet ready ∷ es) r =
    let rest = ap (λ (h : Held). run_numbers h es) (ran r sheet ready) ∙ answered es (advance_of r sheet ready).next in
    λ i. ran-number r sheet ready i ∷ rest i

pub after-start : (h : Held) (sheet : List ℕ) → bad_size (length sheet) ≡ false → (es : List Own)
    → held_after h (start sheet ∷ es) ≡ held_of (single_after (started_with sheet) es)
after-start h sheet ok es = ap (λ (x : Held). held_after x es) (taken h sheet ok) ∙ history es (started_with sheet)

polled : (calls : List Call) (r : Runner) → single_after r (polls calls) ≡ after_calls r calls
polled [] r = refl
polled (call sheet ready ∷ calls) r = polled calls (advance_of r sheet ready).next

polled-with : (sheet : List ℕ) (flags : List Bool) (r : Runner) → after r sheet flags ≡ single_after r (polls_with sheet flags)
polled-with sheet [] r = refl
polled-with sheet (ready ∷ flags) r = polled-with sheet flags (advance_of r sheet ready).next

-- a runner follows the sheet that it was started with and no other
pub exported-one-sheet : ExportedOneSheet
exported-one-sheet h sheet ok calls =
    let r = started_with sheet in
    after-start h sheet ok (polls calls)
    ∙ ap held_of (polled calls r ∙ one-sheet sheet calls ∙ polled-with sheet (flags_of sheet calls) r)
    ∙ sym (after-start h sheet ok (polls_with sheet (flags_of sheet calls)))

-- ---- bring-up

module _ (h : Held) (sheet : List ℕ) (ok : bad_size (length sheet) ≡ false) (ready : ℕ → Bool) where
  held : (i : ℕ) → held_from h sheet ready i ≡ held_of (runner_after sheet ready i)
  unfolding held_from runner_after
  held zero = taken h sheet ok
  held (suc i) = ap (λ (x : Held). call_leaves x (poll sheet (ready i))) (held i) ∙ ran (runner_after sheet ready i) sheet (ready i)

  number_is : (i : ℕ) → number_of h sheet ready i ≡ answer_number progress_number (call_answer sheet ready i)
  number_is i =
      ap (λ (x : Held). run_number x.numbers x.bytes sheet (ready i)) (held i)
      ∙ ran-number (runner_after sheet ready i) sheet (ready i)

  not_done : (i : ℕ) → OnTheWay (call_answer sheet ready i) → number_of h sheet ready i ≡ 0 → ⊥
  not_done i w z = go (call_answer sheet ready i) refl w (formed (runner_after sheet ready i) sheet (ready i))
    where
      go : (a : Answer Reply) → call_answer sheet ready i ≡ a → OnTheWay a → HandsFormed a → ⊥
      go (value Done) e w f = w
      go (value (Handed s)) e w f = omega (arith, z, number_is i, ap (answer_number progress_number) e, word-from s f)
      go (value Passed) e w f = omega (arith, z, number_is i, ap (answer_number progress_number) e)
      go (value Waiting) e w f = omega (arith, z, number_is i, ap (answer_number progress_number) e)
      go (refusal n) e w f = w

-- the sheet of an accepted plan brings the board up by exported calls
pub exported-comes-up : (p : ClockConfig) (reading : ℕ) → Accepted p reading → Typed (settings_of p reading)
    → ExportedComesUp p reading
exported-comes-up p reading ok t h k small ready hears =
    let up = comes-up p reading ok t k small ready hears in
    let sheet = sheet_bytes p reading in
    let size = sheet-size p reading in
    record {
      calls = up.calls;
      few = up.few;
      before = λ i less. not_done h sheet size ready i (up.up.before i less);
      ends = λ i past. number_is h sheet size ready i ∙ ap (answer_number progress_number) (up.up.ends i past);
      holds = λ i past. ap (λ (x : Held). drop 5 x.numbers) (held h sheet size ready i)
          ∙ ap (λ (r : Runner). r.stepper.freqs) (up.up.stays i past) ∙ up.up.holds;
    }
