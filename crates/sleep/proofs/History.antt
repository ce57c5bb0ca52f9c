-- After any history, a wake restores the words of the last sleep in its slot, since only a sleep changes a slot, and
-- only its own.
use Rattle.std.specs.Prelude.{Option, Some, None, ℕ, zero, suc, ◌<◌, ◌≤◌, ◌≡◌, refl, List, [], ◌∷◌, ltb, eqb, length}
use native.Mathlib.Omega.{arith}
use mathlib.Core.Path.{sym, ap, ◌∙◌}
use lib.{ListN.length-set, Seq.get_or-set_same, Seq.get_or-set_other}
use borrow.Author.Tests.{le-ltb, ltb-false, eqb-true, eqb-false}
use Rattle.base.specs.Choice.{pick}
use Rattle.base.proofs.Bools.{either_way}
use Rattle.sleep.specs.declared.Slot.{Slot}
use Rattle.sleep.specs.Sleep.{answer_steps, unsaved, saved, fresh_slots, slot_at, refused_call, woken, sleep_of, wake_of}
use Rattle.sleep.specs.History.{SleepEvent, sleeps, wakes, writes, happens, board_after, last_sleep, wake_from, Restores}
use Rattle.sleep.proofs.Replay.{length-replayed, wake-restores}

-- ---- a call

-- a sleep changes only its own slot
sleep-slot : (slots : List Slot) (at slot : ℕ) (ws : List ℕ) → length slots ≡ 4 → slot < 4
    → slot_at (sleep_of slots at ws).slots slot ≡ pick (eqb at slot) (saved ws) (slot_at slots slot)
unfolding sleep_of
sleep-slot slots at slot ws n h =
    either_way (eqb at slot)
    (λ e. let q : at ≡ slot = eqb-true at slot e in
    rw (e, le-ltb 3 at (omega arith), q) (get_or-set_same slots slot (saved ws) _ (omega arith)))
    (λ e. rw e (either_way (ltb 3 at) (λ t. rw t)
    (λ t. rw t (get_or-set_other slots at slot (saved ws) _ (λ q. eqb-false at slot e (sym q))))))

sleep-count : (slots : List Slot) (at : ℕ) (ws : List ℕ) → length (sleep_of slots at ws).slots ≡ length slots
unfolding sleep_of
sleep-count slots at ws = either_way (ltb 3 at) (λ t. rw t) (λ t. rw t (length-set slots at (saved ws)))

-- a wake changes no slot
wake-slots : (slots : List Slot) (at : ℕ) (ws : List ℕ) → (wake_of slots at ws).slots ≡ slots
unfolding wake_of
wake-slots slots at ws =
    either_way (ltb 3 at) (λ t. rw t) (λ t. rw t (either_way (slot_at slots at).saved (λ u. rw u) (λ u. rw u)))

-- ---- a history

-- the contents of a slot after its last sleep
abbrev holding : Option (List ℕ) → Slot
holding (Some ws) = saved ws
holding None = unsaved

fresh-slot : (slot : ℕ) → slot < 4 → slot_at fresh_slots slot ≡ unsaved
fresh-slot zero h = refl
fresh-slot (suc zero) h = refl
fresh-slot (suc (suc zero)) h = refl
fresh-slot (suc (suc (suc zero))) h = refl
fresh-slot (suc (suc (suc (suc n)))) h = absurd (omega arith)

wake-from : (o : Option (List ℕ)) (slots : List Slot) (handed : List ℕ)
    → pick (holding o).saved (woken slots (holding o).words) (refused_call slots handed 30) ≡ wake_from o slots handed
wake-from (Some ws) slots handed = refl
wake-from None slots handed = refl

module _ (registers : List ℕ) (n : length registers ≡ 11) where
  four : (h : List SleepEvent) → length (board_after registers h).slots ≡ 4
  unfolding board_after happens
  four [] = refl
  four (sleeps at ws ∷ h) = sleep-count (board_after registers h).slots at ws ∙ four h
  four (wakes at ws ∷ h) = rw (wake-slots (board_after registers h).slots at ws) (four h)
  four (writes i v ∷ h) = four h

  stay-eleven : (h : List SleepEvent) → length (board_after registers h).registers ≡ 11
  unfolding board_after happens
  stay-eleven [] = n
  stay-eleven (sleeps at ws ∷ h) =
      length-replayed (answer_steps (sleep_of (board_after registers h).slots at ws).answer) (board_after registers h).registers
      ∙ stay-eleven h
  stay-eleven (wakes at ws ∷ h) =
      length-replayed (answer_steps (wake_of (board_after registers h).slots at ws).answer) (board_after registers h).registers
      ∙ stay-eleven h
  stay-eleven (writes i v ∷ h) = length-set (board_after registers h).registers i v ∙ stay-eleven h

  -- each slot holds the words that its last sleep saved
  held : (h : List SleepEvent) (slot : ℕ) → slot < 4 → slot_at (board_after registers h).slots slot ≡ holding (last_sleep h slot)
  unfolding board_after happens last_sleep
  held [] slot k = fresh-slot slot k
  held (sleeps at ws ∷ h) slot k =
      sleep-slot (board_after registers h).slots at slot ws (four h) k
      ∙ either_way (eqb at slot) (λ t. rw t) (λ t. rw t (held h slot k))
  held (wakes at ws ∷ h) slot k =
      ap (λ (slots : List Slot). slot_at slots slot) (wake-slots (board_after registers h).slots at ws) ∙ held h slot k
  held (writes i v ∷ h) slot k = held h slot k

  module _ (h : List SleepEvent) (slot : ℕ) (handed : List ℕ) where
    wake-answers :
        wake_of (board_after registers h).slots slot handed
        ≡ pick (ltb 3 slot) (refused_call (board_after registers h).slots handed 29)
        (wake_from (last_sleep h slot) (board_after registers h).slots handed)
    unfolding wake_of
    wake-answers =
        either_way (ltb 3 slot) (λ t. rw t)
        (λ t. let low : slot ≤ 3 = ltb-false 3 slot t in
        rw (t, held h slot (omega arith)) (wake-from (last_sleep h slot) (board_after registers h).slots handed))

    registers-after : (ws : List ℕ) → slot < 4 → last_sleep h slot ≡ Some ws → length ws ≡ 11
        → (board_after registers (wakes slot handed ∷ h)).registers ≡ ws
    unfolding board_after happens
    registers-after ws k e m =
        let answer : wake_of (board_after registers h).slots slot handed ≡ woken (board_after registers h).slots ws =
        wake-answers ∙ rw (le-ltb 3 slot (omega arith), e) in
        rw answer (wake-restores ws (board_after registers h).registers m (stay-eleven h))

    pub history : Restores registers h slot handed
    history = record { answers = wake-answers; restores = registers-after }
