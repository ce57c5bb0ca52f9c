-- 80012 bytes are enough for every output: 8 for each of at most 10000 targets, and 12 for the runner.
use mathlib.Core.{Bool.Bool, List.List}
use Rattle.std.proofs.Common.{ℕ, zero, suc, ◌+◌, ◌*◌, ◌≤◌, arith, ltb-false}
use lib.{Dec.ltb, ListN.length, ListN.drop, ListN.length-append}
use Rattle.base.{specs.Answer.Answer, specs.Answer.value, specs.Answer.refusal, proofs.Bools.either_way}
use Rattle.text.specs.{Decimal.is_number, Decimal.number_of, Words.up_to}
use Rattle.text.proofs.Decimals.{length-decimal}
use Rattle.text.proofs.Refused.{refused-most}
use Rattle.pll.specs.declared.PllConfig.{PllConfig}
use Rattle.pll.proofs.{Inputs.search-finds, Inputs.found-valid, Valid.valid}
use Rattle.runner.specs.declared.{State.State, Runner.Runner}
use Rattle.runner.specs.Run.{Outcome, one_more, turn_of, stepper_of, advance_of}
use Rattle.runner.proofs.Calls.{both, every-turn}
use Rattle.bring_up.specs.Wait.{runner_after}
use Rattle.trial.specs.{Lcg.drawn, Targets.target_line, Targets.target_lines}
use Rattle.trial.specs.Load.{trial_sheet, flags, trial_runner, runner_line, trials, most_count, load_with, load_of}

-- ---- a line

target-most : (x : ℕ) → length (target_line x) ≤ 8
unfolding target_line
target-most x =
    let found = search-finds 12000000 x (omega arith) (omega arith) in
    let c : PllConfig = found.0 in
    let v = valid c 12000000 (found-valid 12000000 x c found.1) in
    let feedback = length-decimal 2 c.fbdiv (omega (arith, v.fbdiv.1)) in
    let first = length-decimal 0 c.post_div1 (omega (arith, v.post1.1)) in
    let second = length-decimal 0 c.post_div2 (omega (arith, v.post2.1)) in
    rw found.1 (simp length-append (omega (arith, feedback.1, first.1, second.1)))

targets-most : (seed n : ℕ) → length (target_lines seed n) ≤ 8 * n
unfolding target_lines
targets-most seed zero = omega arith
targets-most seed (suc n) = simp length-append (omega (arith, targets-most seed n, target-most (drawn seed (suc n))))

-- ---- the runner

-- a call moves the position and the total by at most one
record OneOn (s t : State) : Type 0 where
  position : t.position ≤ s.position + 1
  total : t.total ≤ s.total + 1

one-more : (total : ℕ) → one_more total ≤ total + 1
unfolding one_more
one-more total = both (λ (t : ℕ). t ≤ total + 1) (ltb total 4294967295) _ _ (omega arith) (omega arith)

turn_on : (s : State) (len : ℕ) (kept sheet : List ℕ) (ready : Bool) → OneOn s (turn_of s len kept sheet ready).next
turn_on s len kept sheet ready =
    let stays : OneOn s s = record { position = omega arith; total = omega arith } in
    let polled = one-more s.total in
    every-turn (λ (x : Outcome State). OneOn s x.next) s len kept sheet ready (λ n. stays) stays
    (record { position = omega arith; total = omega arith })
    (λ polls. record { position = omega arith; total = polled })
    (record { position = omega arith; total = polled })
    (λ step e. record { position = omega arith; total = omega arith })

module _ (sheet : List ℕ) (ready : ℕ → Bool) where
  pub calls-most : (i : ℕ) → let s = (runner_after sheet ready i).stepper.state in (s.position ≤ i) × (s.total ≤ i)
  unfolding runner_after advance_of stepper_of
  calls-most zero = (omega arith, omega arith)
  calls-most (suc i) =
      let r = runner_after sheet ready i in
      let on = turn_on r.stepper.state r.len r.kept sheet (ready i) in
      let before = calls-most i in
      (omega (arith, on.position, before.0), omega (arith, on.total, before.1))

runner-most : (r : Runner) → r.stepper.state.position ≤ most_count → r.stepper.state.total ≤ most_count → length (runner_line r) ≤ 12
unfolding runner_line
runner-most r p t =
    let position = length-decimal 4 r.stepper.state.position (omega arith) in
    let total = length-decimal 4 r.stepper.state.total (omega arith) in
    simp length-append (omega (arith, position.1, total.1))

-- ---- an output

trials-most : (seed count : ℕ) → count ≤ most_count → length (trials seed count) ≤ 80012
unfolding trials
trials-most seed count few =
    let calls = calls-most trial_sheet (flags seed) count in
    let last = runner-most (trial_runner seed count) (omega (arith, calls.0)) (omega (arith, calls.1)) in
    simp length-append (omega (arith, targets-most seed count, last))

counted-most : (seed count : ℕ) → length (load_with (value seed) (value count)) ≤ 80012
counted-most seed count =
    either_way (ltb most_count count) (λ e. rw e (omega (arith, refused-most 1 31 (omega arith))))
    (λ e. rw e (trials-most seed count (ltb-false most_count count e)))

-- a property of every value and of refusal 24 holds of every number that is read
read : (P : Answer ℕ → Type 0) (cs : List ℕ) → ((n : ℕ) → P (value n)) → P (refusal 24) → P (number_of cs)
unfolding number_of
read P cs some none = both P (is_number cs) _ _ (some _) none

pub load-most : (input : List ℕ) → length (load_of input) ≤ 80012
unfolding load_of
load-most input =
    let none = refused-most 1 24 (omega arith) in
    let seed = up_to 32 input in
    let count = up_to 10 (drop (length seed + 1) input) in
    read (λ (a : Answer ℕ). length (load_with a (number_of count)) ≤ 80012) seed
    (λ x. read (λ (a : Answer ℕ). length (load_with (value x) a) ≤ 80012) count (counted-most x) (omega arith))
    (omega arith)
