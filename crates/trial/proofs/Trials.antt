-- The runner trial: the runner after its start and after one more draw.
use Rattle.std.specs.Prelude.{Bool, false, List, ◌≡◌, Result}
use mathlib.Core.Path.{sym, ap, ap₂, ◌∙◌}
use Rattle.std.proofs.Common.{ℕ, suc, ◌+◌, length}
use native.Mathlib.Numerals.{add-one}
use Rattle.base.specs.{declared.refusal.Refusal.Refusal, Answer.answer_of}
use Rattle.runner.specs.Run.{Outcome, outcome, advance_of, StartOutcome, started_with, start_of}
use Rattle.runner.specs.declared.{Runner.Runner, Reply.Reply}
use Rattle.step.specs.Size.{bad_size}
use Rattle.runner.proofs.Starts.{start-kept}
use Rattle.bring_up.specs.Wait.{runner_after}
use Rattle.trial.specs.{Lcg.drawn, Lcg.top_bit, Load.flags}

module _ (seed i : ℕ) where
  pub runner-next : (sheet : List ℕ) {y : ℕ} {r : Runner} {ready : Bool} (reply : Result Reply Refusal) (next : Runner)
      → y ≡ drawn seed (i + 1) → r ≡ runner_after sheet (flags seed) i → ready ≡ top_bit y
      → outcome (answer_of reply) next ≡ advance_of r sheet ready → next ≡ runner_after sheet (flags seed) (i + 1)
  unfolding runner_after
  runner-next sheet {y} {r} {ready} reply next drew before heard call =
      let last : y ≡ drawn seed (suc i) = rw add-one at drew in
      let flag : ready ≡ flags seed i = heard ∙ ap top_bit last in
      rw add-one
      (ap (λ (x : Outcome Runner). x.next) call
      ∙ ap₂ (λ (q : Runner) (b : Bool). (advance_of q sheet b).next) before flag)

-- before the first call the runner is started with the sheet
pub begins : (sheet : List ℕ) (r : Runner) (opened : Result Unit Refusal) (next : Runner) → bad_size (length sheet) ≡ false
    → outcome (answer_of opened) next ≡ start_of r sheet → next ≡ started_with sheet
begins sheet r opened next good e = ap (λ (x : StartOutcome Runner). x.next) (e ∙ sym (start-kept r sheet good))
