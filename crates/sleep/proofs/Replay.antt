-- The writes of an answer turn any registers into the words of the outcome, in the order of docs/SLEEP.md.
use Rattle.std.specs.Prelude.{ℕ, suc, ◌≡◌, refl, Bool, true, false, List, [], ◌∷◌, ◌++◌, ltb, length}
use native.Mathlib.Omega.{arith}
use mathlib.Core.Path.{◌∙◌}
use lib.ListN.{length-set}
use Rattle.base.proofs.Bools.{either_way}
use Rattle.sleep.specs.declared.steps.Step.TheVariants.{Write, RingStable, CrystalStable, Locked, Numbered}
use Rattle.sleep.specs.Sleep.{answer_steps, wait_if, sleep_steps, wake_steps_by, wake_steps, slot_at, sleep_of, wake_of}
use Rattle.sleep.specs.History.{written, replayed, order, wait_steps}
use Rattle.sleep.specs.{declared.steps.Step.Step, declared.Slot.Slot, Registers.number_of, Bits.pll_runs, Bits.crystal_runs}
use Rattle.sleep.specs.Words.{word_in, asleep}
use Rattle.step.specs.declared.clock.Pll.TheVariants.{Sys, Usb}

-- ---- eleven registers

length-written : (s : Step) (ws : List ℕ) → length (written s ws) ≡ length ws
length-written (Write r v) ws = length-set ws (number_of r) v
length-written RingStable ws = refl
length-written CrystalStable ws = refl
length-written (Locked pll) ws = refl
length-written (Numbered code v) ws = length-set ws code v

pub length-replayed : (steps : List Step) (ws : List ℕ) → length (replayed steps ws) ≡ length ws
length-replayed [] ws = refl
length-replayed (s ∷ steps) ws = length-replayed steps (written s ws) ∙ length-written s ws

module _ (P : List ℕ → Type 0) where
  first : (n : ℕ) (ws : List ℕ) → length ws ≡ suc n → ((a : ℕ) (t : List ℕ) → length t ≡ n → P (a ∷ t)) → P ws
  first n [] e f = absurd (omega arith)
  first n (a ∷ t) e f = f a t (omega arith)

  last : (ws : List ℕ) → length ws ≡ 0 → P [] → P ws
  last [] e p = p
  last (a ∷ t) e p = absurd (omega arith)

-- a list of eleven words, element by element
apart : (P : List ℕ → Type 0) (ws : List ℕ) → length ws ≡ 11
    → ((a b c d e f g h i j k : ℕ) → P (a ∷ b ∷ c ∷ d ∷ e ∷ f ∷ g ∷ h ∷ i ∷ j ∷ k ∷ [])) → P ws
apart P w0 n0 p =
    first P 10 w0 n0 (λ a w1 n1.
    first (λ w. P (a ∷ w)) 9 w1 n1 (λ b w2 n2.
    first (λ w. P (a ∷ b ∷ w)) 8 w2 n2 (λ c w3 n3.
    first (λ w. P (a ∷ b ∷ c ∷ w)) 7 w3 n3 (λ d w4 n4.
    first (λ w. P (a ∷ b ∷ c ∷ d ∷ w)) 6 w4 n4 (λ e w5 n5.
    first (λ w. P (a ∷ b ∷ c ∷ d ∷ e ∷ w)) 5 w5 n5 (λ f w6 n6.
    first (λ w. P (a ∷ b ∷ c ∷ d ∷ e ∷ f ∷ w)) 4 w6 n6 (λ g w7 n7.
    first (λ w. P (a ∷ b ∷ c ∷ d ∷ e ∷ f ∷ g ∷ w)) 3 w7 n7 (λ h w8 n8.
    first (λ w. P (a ∷ b ∷ c ∷ d ∷ e ∷ f ∷ g ∷ h ∷ w)) 2 w8 n8 (λ i w9 n9.
    first (λ w. P (a ∷ b ∷ c ∷ d ∷ e ∷ f ∷ g ∷ h ∷ i ∷ w)) 1 w9 n9 (λ j w10 n10.
    first (λ w. P (a ∷ b ∷ c ∷ d ∷ e ∷ f ∷ g ∷ h ∷ i ∷ j ∷ w)) 0 w10 n10 (λ k w11 n11.
    last (λ w. P (a ∷ b ∷ c ∷ d ∷ e ∷ f ∷ g ∷ h ∷ i ∷ j ∷ k ∷ w)) w11 n11 (p a b c d e f g h i j k))))))))))))

abbrev eleven : List ℕ → List ℕ
eleven ws =
    word_in ws 0 ∷ word_in ws 1 ∷ word_in ws 2 ∷ word_in ws 3 ∷ word_in ws 4 ∷ word_in ws 5
    ∷ word_in ws 6 ∷ word_in ws 7 ∷ word_in ws 8 ∷ word_in ws 9 ∷ word_in ws 10 ∷ []

all-eleven : (ws : List ℕ) → length ws ≡ 11 → eleven ws ≡ ws
all-eleven ws n = apart (λ w. eleven w ≡ w) ws n (λ a b c d e f g h i j k. refl)

-- ---- the steps write each word, whatever the registers held

sleep-writes : (ws registers : List ℕ) → length registers ≡ 11 → replayed (sleep_steps ws) registers ≡ eleven ws
unfolding sleep_steps
sleep-writes ws registers n =
    apart (λ w. replayed (sleep_steps ws) w ≡ eleven ws) registers n (λ a b c d e f g h i j k. refl)

-- a property of the steps of a wake holds if it holds for each choice of the waits
waits-apart : (P : Bool → Bool → Bool → Type 0) (x y z : Bool)
    → P true true true → P true true false → P true false true → P true false false
    → P false true true → P false true false → P false false true → P false false false → P x y z
waits-apart P true true true a b c d e f g h = a
waits-apart P true true false a b c d e f g h = b
waits-apart P true false true a b c d e f g h = c
waits-apart P true false false a b c d e f g h = d
waits-apart P false true true a b c d e f g h = e
waits-apart P false true false a b c d e f g h = f
waits-apart P false false true a b c d e f g h = g
waits-apart P false false false a b c d e f g h = h

wake-writes : (ws registers : List ℕ) (x y z : Bool) → length registers ≡ 11
    → replayed (wake_steps_by ws x y z) registers ≡ eleven ws
unfolding wake_steps_by
wake-writes ws registers x y z n =
    apart (λ w. replayed (wake_steps_by ws x y z) w ≡ eleven ws) registers n
    (λ a b c d e f g h i j k.
    waits-apart (λ x y z. replayed (wake_steps_by ws x y z) (a ∷ b ∷ c ∷ d ∷ e ∷ f ∷ g ∷ h ∷ i ∷ j ∷ k ∷ []) ≡ eleven ws)
    x y z refl refl refl refl refl refl refl refl)

pub wake-restores : (ws registers : List ℕ) → length ws ≡ 11 → length registers ≡ 11
    → replayed (wake_steps ws) registers ≡ ws
wake-restores ws registers n m = wake-writes ws registers _ _ _ m ∙ all-eleven ws n

-- ---- the calls

module _ (slots : List Slot) (slot : ℕ) (ws : List ℕ) (n : length ws ≡ 11) where
  pub sleep-replays : replayed (answer_steps (sleep_of slots slot ws).answer) ws ≡ (sleep_of slots slot ws).words
  unfolding sleep_of asleep
  sleep-replays = either_way (ltb 3 slot) (λ t. rw t) (λ t. rw t (sleep-writes (asleep ws) ws n))

  -- the saved words are eleven
  pub wake-replays : length (slot_at slots slot).words ≡ 11
      → replayed (answer_steps (wake_of slots slot ws).answer) ws ≡ (wake_of slots slot ws).words
  unfolding wake_of
  wake-replays m =
      either_way (ltb 3 slot) (λ t. rw t)
      (λ t. rw t (either_way (slot_at slots slot).saved
      (λ u. rw u (wake-restores (slot_at slots slot).words ws m n)) (λ u. rw u)))

module _ (ws : List ℕ) where
  -- from the first register to the last
  pub sleep-order : order (sleep_steps ws) ≡ 0 ∷ 1 ∷ 2 ∷ 3 ∷ 4 ∷ 5 ∷ 6 ∷ 7 ∷ 8 ∷ 9 ∷ 10 ∷ []
  unfolding sleep_steps
  sleep-order = refl

  -- from the last to the first, but ring control (3) before ring divider (4)
  pub wake-order : order (wake_steps ws) ≡ 10 ∷ 9 ∷ 8 ∷ 7 ∷ 6 ∷ 5 ∷ 3 ∷ 4 ∷ 2 ∷ 1 ∷ 0 ∷ []
  unfolding wake_steps_by
  wake-order =
      waits-apart (λ x y z. order (wake_steps_by ws x y z) ≡ 10 ∷ 9 ∷ 8 ∷ 7 ∷ 6 ∷ 5 ∷ 3 ∷ 4 ∷ 2 ∷ 1 ∷ 0 ∷ [])
      (crystal_runs (word_in ws 9)) (pll_runs (word_in ws 8)) (pll_runs (word_in ws 7)) refl refl refl refl refl refl refl refl

  -- a sleep waits only for the ring
  pub sleep-waits : wait_steps (sleep_steps ws) ≡ RingStable ∷ []
  unfolding sleep_steps
  sleep-waits = refl

  -- a wake waits only for what was running
  pub wake-waits :
      wait_steps (wake_steps ws)
      ≡ wait_if (crystal_runs (word_in ws 9)) CrystalStable
      ++ (wait_if (pll_runs (word_in ws 8)) (Locked Usb) ++ wait_if (pll_runs (word_in ws 7)) (Locked Sys))
  unfolding wake_steps_by
  wake-waits =
      waits-apart
      (λ x y z. wait_steps (wake_steps_by ws x y z) ≡ wait_if x CrystalStable ++ (wait_if y (Locked Usb) ++ wait_if z (Locked Sys)))
      (crystal_runs (word_in ws 9)) (pll_runs (word_in ws 8)) (pll_runs (word_in ws 7)) refl refl refl refl refl refl refl refl
