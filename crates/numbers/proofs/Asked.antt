-- A sleep or a wake on numbers, from its answer and what is written.
use Rattle.std.specs.Prelude.{◌≡◌, Bool, true, false, List, ◌++◌, ℕ, ◌+◌, Some, ltb, length, drop}
use mathlib.Core.{Path.refl, Path.sym, Path.ap, Path.◌∙◌, List.append-nil}
use native.Mathlib.Omega.{arith}
use lib.Seq.{drop-length, sets, sets-eq}
use Rattle.base.specs.{Answer.value, Answer.refusal, Choice.pick, Placed.Placed, Bounded.Bounded}
use Rattle.base.proofs.Bools.{either_way}
use Rattle.sleep.specs.declared.{Slot.Slot, steps.Step.Step}
use Rattle.sleep.specs.Sleep.{SleepOutcome, outcome, sleep_of, wake_of, slot_at}
use Rattle.numbers.specs.{Answers.refusals, Slots.slots_numbers, Slots.steps_numbers, SleepCall.SlotsCall}

-- values that replace all of a list
pub sets-all : (vs l : List ℕ) → length vs ≡ length l → sets l 0 vs ≡ vs
sets-all vs l e =
    let all : 0 + length vs ≡ length l = omega arith in
    sets-eq vs l 0 (omega arith) ∙ ap (λ (k : ℕ). vs ++ drop k l) all ∙ ap (λ (r : List ℕ). vs ++ r) (drop-length l) ∙ append-nil vs

-- a refusal keeps the words
abbrev Keeps : List ℕ → SleepOutcome → Type 0
Keeps ws o = (n : ℕ) → o.answer ≡ refusal n → o.words ≡ ws

either : (P : SleepOutcome → Type 0) (t : Bool) (x y : SleepOutcome) → P x → P y → P (pick t x y)
either P true x y p q = p
either P false x y p q = q

module _ (wakes : Bool) (slots : List Slot) (slot : ℕ) (ws : List ℕ) where
  abbrev call : SleepOutcome
  call = pick wakes wake_of sleep_of slots slot ws

  keeps : Keeps ws call
  unfolding sleep_of wake_of
  keeps =
      either_way wakes
      (λ w.
      rw w
      (either (Keeps ws) (ltb 3 slot) _ _ (λ n e. refl)
      (either (Keeps ws) (slot_at slots slot).saved _ _ (λ n e. let z : ◌≡◌ {A = ℕ} 0 1 = cc in absurd (omega arith)) (λ n e. refl))))
      (λ w. rw w (either (Keeps ws) (ltb 3 slot) _ _ (λ n e. refl) (λ n e. let z : ◌≡◌ {A = ℕ} 0 1 = cc in absurd (omega arith))))

  -- the call is refused, and all numbers stay
  pub turned : (n r : ℕ) (after : List ℕ) (kept : List Slot) (numbers steps : List ℕ) → outcome (refusal n) after kept ≡ call
      → r ≡ refusals + n → SlotsCall (Some call) numbers ws steps r numbers after steps
  turned n r after kept numbers steps e f =
      let a : call.answer ≡ refusal n = sym (ap (λ (o : SleepOutcome). o.answer) e) in
      let w : after ≡ ws = ap (λ (o : SleepOutcome). o.words) e ∙ keeps n a in
      record { answer = rw a f; slots_left = rw a refl; words_left = rw a w; steps_left = rw a refl }

  -- the call is carried out: its slots, words and steps are written
  pub carried : (list : Bounded Step) (r i : ℕ) (after : List ℕ) (kept : List Slot) (numbers numbers' steps steps' : List ℕ)
      → outcome (value list) after kept ≡ call → length ws ≡ length after → Placed numbers 0 (slots_numbers kept) i numbers'
      → Placed steps 0 (steps_numbers list.list) r steps' → SlotsCall (Some call) numbers ws steps r numbers' after steps'
  carried list r i after kept numbers numbers' steps steps' e long p q =
      let whole : sets ws 0 after ≡ after = sets-all after ws (sym long) in
      rw (← e) (record { answer = q.index; slots_left = p.bytes; words_left = sym whole; steps_left = q.bytes })
