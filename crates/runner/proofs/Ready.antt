-- A runner that was started with a sheet of well-formed steps, with every call ready, answers each step in order and
-- then done.
use Rattle.std.specs.Prelude.{true, List, [], ◌∷◌, ◌++◌, map, ◌≡◌, ℕ, suc, ◌+◌, ◌*◌, ◌≤◌, ◌<◌, length, get_or, replicate}
use mathlib.Core.Path.{ap, ◌∙◌}
use native.Mathlib.{Nat.add-zero, Nat.zero-add, Numerals.add-one, Omega.arith}
use Rattle.base.specs.Answer.{Answer, value}
use Rattle.base.proofs.Bools.{either_way}
use Rattle.step.specs.{declared.Step.Step, Access.read_at, Sheet.max_steps, Sheet.encoded, Sheet.AllFormed}
use Rattle.step.proofs.Sheets.{length-encoded, read-encoded}
use Rattle.runner.specs.Run.{Outcome, outcome, is_wait, take_step, stored_by, freqs_after, started_with, advance_of}
use Rattle.runner.specs.Calls.{answers, after, ready_answer, stores_of, ready_state, ready_at}
use Rattle.runner.specs.declared.{Runner.Runner, Reply.Reply, Reply.TheVariants.Done}
use Rattle.runner.proofs.Going.{wait-stores, done_at, step-at}
use Rattle.step.specs.declared.kind.Kind.TheVariants as kind

-- a ready call at a step
takes : (step : Step) (p : ℕ) → take_step (ready_state p) step true ≡ outcome (ready_answer step) (ready_state (p + 1))
unfolding take_step
takes step p = either_way (is_wait step.kind) (λ w. simp w) (λ w. simp w)

stores : (step : Step) (freqs : List ℕ) → freqs_after (ready_answer step) freqs ≡ stored_by step freqs
stores step freqs = either_way (is_wait step.kind) (λ w. simp (w, wait-stores step freqs w)) (λ w. simp w)

module _ (sheet : List ℕ) (n : ℕ) (few : n ≤ max_steps) (size : length sheet ≡ 8 * n) where
  ready-at : (step : Step) (p : ℕ) (freqs : List ℕ) → p < n → read_at sheet (8 * p) ≡ value step
      → advance_of (ready_at sheet p freqs) sheet true
      ≡ outcome (ready_answer step) (ready_at sheet (p + 1) (stored_by step freqs))
  ready-at step p freqs h read =
      step-at sheet n few size step p 0 0 freqs true _ h (omega arith) read (takes step p) ∙ rw (stores step freqs)

  -- a runner before the steps ts takes all of them, then answers done
  record Through (p : ℕ) (freqs : List ℕ) (ts : List Step) : Type 0 where
    answered : answers (ready_at sheet p freqs) sheet (replicate (suc (length ts)) true)
        ≡ map ready_answer ts ++ (value Done ∷ [])
    left : after (ready_at sheet p freqs) sheet (replicate (length ts) true) ≡ ready_at sheet n (stores_of ts freqs)

  through : (d : Step) (ts : List Step) (p : ℕ) (freqs : List ℕ) → p + length ts ≡ n
      → ((i : ℕ) → i < length ts → read_at sheet (8 * (p + i)) ≡ value (get_or ts i d)) → Through p freqs ts
  through d [] p freqs e reads =
      let end : p ≡ n = omega arith in
      record { answered = rw (end, done_at sheet n few size 0 freqs true); left = rw end }
  through d (step ∷ ts) p freqs e reads =
      let call = ready-at step p freqs (omega arith) (rw add-zero at (reads 0 (omega arith))) in
      let rest = through d ts (p + 1) (stored_by step freqs) (omega arith)
      (λ i h. let next : p + suc i ≡ p + 1 + i = omega arith in rw next at (reads (suc i) (omega arith))) in
      record {
        answered = rw call (ap (λ (l : List (Answer Reply)). ready_answer step ∷ l) rest.answered);
        left = ap (λ (x : Outcome Runner). after x.next sheet (replicate (length ts) true)) call ∙ rest.left;
      }

all : (xs : List Step) (f : AllFormed xs) (few : length xs ≤ max_steps)
    → Through (encoded xs) (length xs) few (length-encoded xs) 0 (replicate 10 0) xs
all xs f few =
    let none : Step = record { kind = kind.Unknown 0; f0 = 0; f1 = 0; f2 = 0; f3 = 0; f4 = 0 } in
    through (encoded xs) (length xs) few (length-encoded xs) none xs 0 (replicate 10 0) (omega arith)
    (λ i h. simp zero-add (read-encoded xs none i f h))

-- every step is answered in order, then done
pub ready-answers : (xs : List Step) → AllFormed xs → length xs ≤ max_steps
    → answers (started_with (encoded xs)) (encoded xs) (replicate (length xs + 1) true) ≡ map ready_answer xs ++ (value Done ∷ [])
ready-answers xs f few = rw add-one (all xs f few).answered

-- after one call for each step the frequencies are those that the sheet stores
pub ready-stores : (xs : List Step) → AllFormed xs → length xs ≤ max_steps
    → after (started_with (encoded xs)) (encoded xs) (replicate (length xs) true)
    ≡ ready_at (encoded xs) (length xs) (stores_of xs (replicate 10 0))
ready-stores xs f few = (all xs f few).left
