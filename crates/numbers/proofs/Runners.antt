-- A runner given as numbers: a store changes one of its frequencies, its position keeps to 32 bits, and the step that it hands
-- out is the word at its position.
use mathlib.Core.{Bool.Bool, List.List, List.◌++◌, Path.◌≡◌, Path.refl, Path.sym, Path.ap, Path.◌∙◌}
use Prim.Native.Nat.{ℕ, ◌+◌, ◌*◌, ◌≤◌}
use native.Mathlib.Omega.{arith}
use lib.{ListN.set, ListN.take, ListN.drop, ListN.take-append-drop, Seq.take-set-le, Seq.drop-set-add}
use Rattle.base.proofs.Bools.{either_way}
use Rattle.step.specs.Access.{word_at}
use Rattle.step.proofs.Accesses.{read-sound}
use Rattle.runner.specs.declared.{State.State, Runner.Runner}
use Rattle.runner.specs.Run.{Outcome, outside, turn_of, joined, in_runner, advance_of, stepper_of}
use Rattle.numbers.specs.{Answers.answer_number, Run.with_freqs, Run.progress_number, Inside.progress_with}
use Rattle.runner.proofs.{Calls.inside, Calls.call-outside, Calls.every-turn, Steps.turn_formed, Steps.store_fits}
use Rattle.std.proofs.lemmas.Bool.Decides.{nat_tests}

-- the frequencies follow the four numbers of the state and the kept length
pub set_behind : (ns : List ℕ) (i x : ℕ) → set ns (5 + i) x ≡ with_freqs (set (drop 5 ns) i x) ns
unfolding with_freqs
set_behind ns i x =
    sym (take-append-drop 5 (set ns (5 + i) x))
    ∙ ap (λ (front : List ℕ). front ++ drop 5 (set ns (5 + i) x)) (take-set-le 5 ns (5 + i) x (omega arith))
    ∙ ap (λ (back : List ℕ). take 5 ns ++ back) (drop-set-add 5 ns i x)

-- the frequencies that the numbers already hold
pub held_behind : (ns freqs : List ℕ) → drop 5 ns ≡ freqs → ns ≡ with_freqs freqs ns
unfolding with_freqs
held_behind ns freqs e = sym (take-append-drop 5 ns) ∙ ap (λ (back : List ℕ). take 5 ns ++ back) e

-- the position after a call still fits 32 bits: inside the sheet it is small, and outside a call leaves it
pub position_fits : (s : State) (len : ℕ) (kept sheet : List ℕ) (ready : Bool) → s.position ≤ 4294967295
    → (turn_of s len kept sheet ready).next.position ≤ 4294967295
position_fits s len kept sheet ready h =
    either_way (outside s len) (λ o. rw (← call-outside s len kept sheet ready o) h)
    (λ o.
    let small = (inside s len o).0 in
    every-turn (λ (x : Outcome State). x.next.position ≤ 4294967295) s len kept sheet ready (λ n. h) h
    (omega (arith, small)) (λ polls. h) h (λ step e. omega (arith, small)))

-- the number of a step that is handed out is the word at the position
pub turn_word : (s : State) (len : ℕ) (kept sheet : List ℕ) (ready : Bool)
    → answer_number (progress_with (word_at sheet (8 * s.position))) (turn_of s len kept sheet ready).answer
    ≡ answer_number progress_number (turn_of s len kept sheet ready).answer
turn_word s len kept sheet ready =
    let word : ℕ = word_at sheet (8 * s.position) in
    every-turn
    (λ (x : Outcome State). answer_number (progress_with word) x.answer ≡ answer_number progress_number x.answer) s len kept sheet ready
    (λ n. refl) refl refl (λ polls. refl) refl (λ step e. sym (read-sound sheet (8 * s.position) step e).1)

-- a call of a runner is the turn of its state
pub advanced : (r : Runner) (sheet : List ℕ) (ready : Bool)
    → advance_of r sheet ready ≡ in_runner r (joined (turn_of r.stepper.state r.len r.kept sheet ready) r.stepper.freqs)
unfolding advance_of stepper_of
advanced r sheet ready = refl

pub ruleset calling = (nat_tests, turn_formed, position_fits, turn_word, advanced)

pub ruleset storing = (nat_tests, store_fits, set_behind, held_behind)
