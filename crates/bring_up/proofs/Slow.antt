-- The slowest stream gives exactly k unready polls at each wait, so the bound on the calls is reached.
use Rattle.std.specs.Prelude.{ℕ, zero, suc, ◌+◌, ◌*◌, ◌≤◌, ◌<◌, Bool, true, false, ◌&&◌, not, List, ◌≡◌, refl, eqb, leb, length}
use Rattle.std.specs.Prelude.{replicate}
use native.Mathlib.Omega.{arith}
use mathlib.Core.Path.{sym, ap, ap₂, ◌∙◌}
use borrow.Author.Tests.{eqb-true, leb-false, lt-leb}
use Rattle.base.specs.Choice.{bit}
use Rattle.step.specs.{Access.read_at, Sheet.max_steps, Sheet.encoded, Sheet.AllFormed, declared.Step.Step}
use Rattle.runner.specs.{Run.advance_of, Calls.stores_of, declared.Runner.Runner}
use Rattle.bring_up.specs.Wait.{runner_after, holds_wait, unready_poll, heard, HearsAtMost, UpAfter}
use Rattle.bring_up.specs.Slow.{waits_in, HearsAll, slow_ready, slow_after, slowest}
use Rattle.bring_up.proofs.Wait.{steps-come-up-after}

module _ (k : ℕ) (sheet : List ℕ) where
  abbrev at : ℕ → Runner
  at i = runner_after sheet (slowest k sheet) i

  same-runner : (i : ℕ) → at i ≡ (slow_after k sheet i).runner
  unfolding runner_after slow_after slowest
  same-runner zero = refl
  same-runner (suc i) = ap (λ (r : Runner). (advance_of r sheet (slow_ready k (slow_after k sheet i))).next) (same-runner i)

  same-polls : (p i : ℕ) → heard sheet (slowest k sheet) p i ≡ (slow_after k sheet i).polls p
  unfolding heard slow_after slowest
  same-polls p zero = refl
  same-polls p (suc i) =
      ap₂ (λ (a : ℕ) (r : Runner). a + unready_poll p r sheet (slow_ready k (slow_after k sheet i)))
      (same-polls p i) (same-runner i)

  slow-flag : (i : ℕ) → slowest k sheet i ≡ leb k (heard sheet (slowest k sheet) (at i).stepper.state.position i)
  unfolding slowest
  slow-flag i =
      sym
      (ap (leb k) (same-polls (at i).stepper.state.position i)
      ∙ ap (λ (r : Runner). leb k ((slow_after k sheet i).polls r.stepper.state.position)) (same-runner i))

  -- after k unready polls at a position the next is ready
  full : (p : ℕ) (r : Runner) (ready : Bool) (h : ℕ) → h ≤ k
      → (r.stepper.state.position ≡ p → ready ≡ leb k h) → h + unready_poll p r sheet ready ≤ k
  unfolding unready_poll
  full p r ready h few flag = go (eqb r.stepper.state.position p) refl (holds_wait (read_at sheet (8 * p))) (leb k h) refl
    where
      go : (b : Bool) → eqb r.stepper.state.position p ≡ b → (w l : Bool) → leb k h ≡ l
          → h + bit (b && (w && not ready)) ≤ k
      go false e w l f = omega arith
      go true e false l f = omega arith
      go true e true true f = rw (flag (eqb-true _ _ e) ∙ f) (omega arith)
      go true e true false f = rw (flag (eqb-true _ _ e) ∙ f) (omega (arith, leb-false k h f))

  pub slow-few : HearsAtMost k sheet (slowest k sheet)
  unfolding heard
  slow-few p zero = omega arith
  slow-few p (suc i) =
      full p (at i) (slowest k sheet i) (heard sheet (slowest k sheet) p i) (slow-few p i)
      (λ e. rw e at (slow-flag i))

  pub slow-all : HearsAll k sheet (slowest k sheet)
  slow-all i h = slow-flag i ∙ lt-leb _ _ h

-- the bound is reached
pub steps-come-up-slowest : (xs : List Step) → AllFormed xs → length xs ≤ max_steps → (k : ℕ) → k < 1000000
    → UpAfter (length xs + k * waits_in xs) (encoded xs) (slowest k (encoded xs)) (stores_of xs (replicate 10 0))
steps-come-up-slowest xs f few k small =
    steps-come-up-after xs f few k small (slowest k (encoded xs)) (slow-few k (encoded xs)) (slow-all k (encoded xs))
