-- The numbers of slots read back as the slots, and slots are written as the same numbers. So what holds of slots holds of any
-- sequence of exported sleeps and wakes.
use Rattle.std.specs.Prelude.{Some, true, List, [], ◌∷◌, ◌≡◌, ℕ, zero, suc, ◌+◌, ◌≤◌, eqb, ltb, length, set, replicate}
use mathlib.Core.Path.{refl, sym, ap, ◌∙◌}
use native.Mathlib.Omega.{arith}
use borrow.Author.Tests.{le-ltb, ltb-false}
use lib.Seq.{sets}
use Rattle.base.proofs.Bools.{either_way}
use Rattle.numbers.specs.{Fields.nth, Slots.words_at, Slots.slots_in, Slots.slots_numbers, SleepCall.are_slots, SleepCall.asked_with}
use Rattle.sleep.specs.declared.Slot.{Slot}
use Rattle.sleep.specs.Sleep.{SleepOutcome, fresh_slots, slot_at, sleep_of, woken, wake_of}
use Rattle.sleep.specs.History.{SleepEvent, sleeps, wakes, writes, happens, board_after}
use Rattle.sleep.proofs.History.{history}
use Rattle.numbers.proofs.{PartRows.row-whole, Asked.sets-all}
use Rattle.export.specs.{Calls.slots_left, Calls.slots_after, Calls.Elevens, Calls.ExportedWakes, State.IsSlots}
use Rattle.export.proofs.{Rows.mark-good, State.Given, State.slot_of, State.four, State.four-back, State.again}

-- all zeros are slots with nothing saved
pub zeros-fresh : slots_in (replicate 48 0) 0 ≡ fresh_slots
zeros-fresh = refl

-- the slots written over 48 numbers read back as themselves
record Back (ns : List ℕ) (s : List Slot) : Type 0 where
  pub read : slots_in (sets ns 0 (slots_numbers s)) 0 ≡ s
  pub slots : IsSlots (sets ns 0 (slots_numbers s))

back : (ns : List ℕ) → length ns ≡ 48 → (a b c d : Given) → Back ns (four a b c d)
back ns e a b c d =
    let all = sets-all (slots_numbers (four a b c d)) ns (sym e) in
    record {
      read = ap (λ (l : List ℕ). slots_in l 0) all ∙ four-back a b c d;
      slots = record {
        all = ap length all;
        flags = ap are_slots all ∙ rw (mark-good a.flag, mark-good b.flag, mark-good c.flag, mark-good d.flag);
      };
    }

set-four : (P : List Slot → Type 0) → ((a b c d : Given) → P (four a b c d)) → (a b c d e : Given) (slot : ℕ) → slot ≤ 3
    → P (set (four a b c d) slot (slot_of e))
set-four P all a b c d e zero h = all e b c d
set-four P all a b c d e (suc zero) h = all a e c d
set-four P all a b c d e (suc (suc zero)) h = all a b e d
set-four P all a b c d e (suc (suc (suc zero))) h = all a b c e
set-four P all a b c d e (suc (suc (suc (suc n)))) h = absurd (omega arith)

abbrev at : List ℕ → ℕ → Given
at ns i = record { flag = eqb (nth ns i) 1; row = ns; place = i + 1 }

-- and so do slots that are set over their own numbers
set-again : (ns : List ℕ) → IsSlots ns → sets ns 0 (slots_numbers (slots_in ns 0)) ≡ ns
set-again ns is = sets-all (slots_numbers (slots_in ns 0)) ns (sym is.all) ∙ again ns is

asked : (call : List Slot → ℕ → List ℕ → SleepOutcome) (ns : List ℕ) → IsSlots ns → (slot : ℕ) (words : List ℕ)
    → asked_with call ns slot words ≡ Some (call (slots_in ns 0) slot (words_at words 0))
asked call ns is slot words = rw is.flags (either_way (ltb 3 slot) (λ e. rw e) (λ e. rw e))

module _ (ns : List ℕ) (is : IsSlots ns) (slot : ℕ) (words : List ℕ) where
  -- a sleep leaves the numbers of the slots that the definition leaves
  sleep-left : (slots_in (slots_left sleep_of ns slot words) 0 ≡ (sleep_of (slots_in ns 0) slot (words_at words 0)).slots)
      × IsSlots (slots_left sleep_of ns slot words)
  unfolding sleep_of
  sleep-left =
      rw (asked sleep_of ns is slot words)
      (either_way (ltb 3 slot) (λ e. rw e (refl, is))
      (λ e. let b = set-four (Back ns) (back ns is.all) (at ns 0) (at ns 12) (at ns 24) (at ns 36)
      (record { flag = true; row = words; place = 0 }) slot (ltb-false 3 slot e) in
      rw e (b.read, b.slots)))

  -- a wake leaves the slots unchanged
  wake-left : slots_left wake_of ns slot words ≡ ns
  unfolding wake_of
  wake-left =
      rw (asked wake_of ns is slot words)
      (either_way (ltb 3 slot) (λ e. rw e) (λ e. rw e
      (either_way (slot_at (slots_in ns 0) slot).saved (λ f. rw f (set-again ns is)) (λ f. rw f))))

wake-slots : (slots : List Slot) (slot : ℕ) (ws : List ℕ) → (wake_of slots slot ws).slots ≡ slots
unfolding wake_of
wake-slots slots slot ws =
    either_way (ltb 3 slot) (λ t. rw t) (λ t. rw t (either_way (slot_at slots slot).saved (λ u. rw u) (λ u. rw u)))

-- after any history the numbers are those of the slots after the same history
pub slots-history : (registers : List ℕ) (h : List SleepEvent) → Elevens h
    → (slots_in (slots_after h) 0 ≡ (board_after registers h).slots) × IsSlots (slots_after h)
unfolding slots_after board_after happens
slots-history registers [] t = (refl, record { all = refl; flags = refl })
slots-history registers (sleeps slot ws ∷ h) (eleven, t) =
    let before = slots-history registers h t in
    let left = sleep-left (slots_after h) before.1 slot ws in (
      left.0 ∙ ap (λ (s : List Slot). (sleep_of s slot (words_at ws 0)).slots) before.0
          ∙ ap (λ (w : List ℕ). (sleep_of (board_after registers h).slots slot w).slots) (row-whole 11 ws eleven),
      left.1,
    )
slots-history registers (wakes slot ws ∷ h) (eleven, t) =
    let before = slots-history registers h t in
    let left = wake-left (slots_after h) before.1 slot ws in (
      ap (λ (l : List ℕ). slots_in l 0) left ∙ before.0 ∙ sym (wake-slots (board_after registers h).slots slot ws),
      rw left before.1,
    )
slots-history registers (writes i v ∷ h) t = slots-history registers h t

-- a wake restores the words of the last sleep in its slot
pub exported-wakes : ExportedWakes
exported-wakes h t slot few ws last eleven words steps slots' words' steps' r handed c =
    let registers : List ℕ = replicate 11 0 in
    let before = slots-history registers h t in
    let woke : wake_of (board_after registers h).slots slot words ≡ woken (board_after registers h).slots ws =
    (history registers refl h slot words).answers ∙ rw (le-ltb 3 slot (omega arith), last) in
    let same : wake_of (slots_in (slots_after h) 0) slot words ≡ woken (slots_in (slots_after h) 0) ws = rw before.0 woke in
    let call : asked_with wake_of (slots_after h) slot words ≡ Some (woken (slots_in (slots_after h) 0) ws) =
    asked wake_of (slots_after h) before.1 slot words
    ∙ ap (λ (w : List ℕ). Some (wake_of (slots_in (slots_after h) 0) slot w)) (row-whole 11 words handed) ∙ ap Some same in
    let o = rw call at c in
    record {
      words_back = o.words_left ∙ sets-all ws words (eleven ∙ sym handed);
      slots_kept = o.slots_left ∙ set-again (slots_after h) before.1;
      written = o.steps_left;
    }
