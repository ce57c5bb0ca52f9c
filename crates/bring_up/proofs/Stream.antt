-- The calls of a runner over the sheet that it was started with, one for each ready flag of a stream: one call, done,
-- and the counts of unready polls.
use Rattle.std.specs.Prelude.{ℕ, zero, suc, ◌+◌, ◌*◌, ◌≤◌, ◌<◌, Bool, true, false, List, ◌≡◌, refl, length}
use native.Mathlib.{Omega.arith, Nat.zero-add}
use mathlib.Core.Path.{ap, ◌∙◌}
use borrow.Author.Tests.{eq-eqb, ne_eqb}
use Rattle.base.specs.Answer.{value}
use Rattle.step.specs.{Access.read_at, Sheet.max_steps, declared.Step.Step}
use Rattle.runner.specs.{declared.Runner.Runner, Run.Outcome, Run.is_wait, Run.advance_of}
use Rattle.runner.proofs.Going.{standing, done_at}
use Rattle.bring_up.specs.Wait.{runner_after, call_answer, unready_poll, heard}

module _ (sheet : List ℕ) (ready : ℕ → Bool) where
  abbrev pub at : ℕ → Runner
  at i = runner_after sheet ready i

  -- the runner after one more call
  pub next : (i : ℕ) (r : Runner) (x : Outcome Runner) → at i ≡ r → advance_of r sheet (ready i) ≡ x
      → at (suc i) ≡ x.next
  unfolding runner_after
  next i r x e c =
      ap (λ (y : Runner). (advance_of y sheet (ready i)).next) e ∙ ap (λ (o : Outcome Runner). o.next) c

  pub answered : (i : ℕ) (r : Runner) (x : Outcome Runner) → at i ≡ r → advance_of r sheet (ready i) ≡ x
      → call_answer sheet ready i ≡ x.answer
  answered i r x e c =
      ap (λ (y : Runner). (advance_of y sheet (ready i)).answer) e ∙ ap (λ (o : Outcome Runner). o.answer) c

  -- after done nothing changes
  pub stays-done : (n : ℕ) → n ≤ max_steps → length sheet ≡ 8 * n → (i total : ℕ) (freqs : List ℕ)
      → at i ≡ standing sheet n 0 total freqs → (d : ℕ) → at (d + i) ≡ standing sheet n 0 total freqs
  stays-done n few size i total freqs e zero = rw zero-add e
  stays-done n few size i total freqs e (suc d) =
      let s : suc d + i ≡ suc (d + i) = omega arith in
      let before = stays-done n few size i total freqs e d in
      rw s (next (d + i) _ _ before (done_at sheet n few size total freqs (ready (d + i))))

  -- no unready poll was at a later position
  pub elsewhere : (i p q : ℕ) → (at i).stepper.state.position ≡ p → p < q → heard sheet ready q i ≡ 0
      → heard sheet ready q (suc i) ≡ 0
  unfolding heard unready_poll
  elsewhere i p q e h z = simp (z, e, ne_eqb p q (λ e. omega arith))

  pub polled-here : (i p c : ℕ) (step : Step) → (at i).stepper.state.position ≡ p → read_at sheet (8 * p) ≡ value step
      → is_wait step.kind ≡ true → ready i ≡ false → heard sheet ready p i ≡ c
      → heard sheet ready p (suc i) ≡ c + 1
  unfolding heard unready_poll
  polled-here i p c step e read w u z = simp (z, e, eq-eqb p p refl, read, w, u)
