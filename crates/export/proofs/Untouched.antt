-- A refusal leaves what was lent unchanged. For the runner and the bench this follows from runner/proofs/Untouched; for the other
-- calls, from the fact that their values have numbers below the refusals.
use Rattle.std.specs.Prelude.{Option, Some, None, option_map, Bool, true, false, List, [], ◌∷◌, ◌≡◌, ℕ, ◌+◌, ◌*◌, ◌≤◌, leb, ltb}
use Rattle.std.specs.Prelude.{length, get_or, refl}
use mathlib.Core.{Logic.inl, Logic.inr, List.flat_map, Path.sym, Path.ap, Path.◌∙◌}
use native.Mathlib.Omega.{arith}
use borrow.Author.Tests.{leb-true, leb-false, ltb-true, ltb-false, le-ltb}
use Rattle.base.specs.{Answer.Answer, Answer.value, Answer.refusal, Placed.past, declared.refusal.Refusal.Refusal}
use Rattle.step.specs.Size.{bad_size}
use Rattle.step.proofs.Sizes.{size_fits}
use Rattle.chip.specs.declared.Chip.{Chip, TheVariants.Rp2040, TheVariants.Rp235x}
use Rattle.base.proofs.Bools.{either_way}
use Rattle.config.specs.{declared.ClockConfig.ClockConfig, ChipSettings.chip_of}
use Rattle.sheet.specs.Writer.{sheet_bytes, refusal_in, init_answer, init_buffer}
use Rattle.bring_up.proofs.Run.{sheet-size}
use Rattle.pll.specs.{declared.PllConfig.PllConfig, Search.keep, Search.rising, Search.falling}
use Rattle.lister.specs.Lister.{in_order, meets, list_of, has_room, listed_of, listed_in}
use Rattle.margin.specs.{Margin.margin_of, declared.Margin.Margin}
use Rattle.numbers.specs.Answers.{refusals, itself, answer_number, left_by, limits_after, Writes, done as margin-done}
use Rattle.numbers.specs.Run.{runner_in, progress_number, go_number, run_number, run_leaves, started_numbers, Starts, StartCall}
use Rattle.numbers.specs.Bench.{stepper_at, bench_in, with_board, bench_number, bench_leaves, fresh_numbers, StartAllCall}
use Rattle.numbers.specs.{Fields.nth, Slots.steps_numbers, SleepCall.SlotsCall, Read.chip_number, Access.AccessCall}
use Rattle.runner.specs.declared.Reply.TheVariants.{Done, Handed, Passed, Waiting}
use Rattle.runner.specs.Run.{Outcome, StartOutcome, HandsFormed, stepper_of, outcome, advance_of, started_with, start_of}
use Rattle.runner.specs.Calls.{stepper_timed_out, timed_out, Untouched as Stays}
use Rattle.runner.specs.declared.{Stepper.Stepper, Runner.Runner, Reply.Reply}
use Rattle.runner.proofs.{Starts.start-refused, Starts.start-kept, Steps.turn_formed, Untouched.stepper-keeps}
use Rattle.runner.proofs.Untouched.{refusal-keeps}
use Rattle.boards.specs.{declared.Bench.Bench, Bench.eight_of, Bench.start_all_of, History.poll}
use Rattle.boards.proofs.Benches.{all-refused, all-kept}
use Rattle.sleep.specs.{declared.steps.Step.Step, Sleep.SleepOutcome}
use Rattle.registers.specs.{declared.Access.Access, Access.access_at, Access.op_of}
use Rattle.numbers.proofs.Boards.{call, of-board, over-leaves, bad-leaves}
use Rattle.export.specs.Untouched.{Refused, SaveTimeout, timed_out_numbers, Untouched}
use Rattle.export.specs.{Calls.Held, Calls.held_of, Calls.call_leaves, Sheet.SheetCall, Plan.PlanCall}
use Rattle.export.proofs.Calls.{read-written, ran, ran-number, formed}
use Rattle.export.proofs.{Ranges.word-from, Benches.board-again, Benches.left_is}
use Rattle.registers.specs.declared.Access.TheVariants as access

-- a call that may time out, where f gives the numbers of what it leaves
carried : {A : Type 0} (f : A → List ℕ) (same out : A) (x : Outcome A) {r : ℕ} {before after timed_out : List ℕ}
    → HandsFormed x.answer → Stays same out x → r ≡ answer_number progress_number x.answer → after ≡ f x.next
    → f same ≡ before → f out ≡ timed_out → Refused r → SaveTimeout r before after timed_out
carried {A} f same out x {r} {before} {after} {timed_out} = go x.answer x.next
  where
    go : (a : Answer Reply) (y : A) → HandsFormed a → Stays same out (record { answer = a; next = y })
        → r ≡ answer_number progress_number a → after ≡ f y → f same ≡ before → f out ≡ timed_out → Refused r
        → SaveTimeout r before after timed_out
    go (value Done) y w u e l s o low = absurd (omega arith)
    go (value Passed) y w u e l s o low = absurd (omega arith)
    go (value Waiting) y w u e l s o low = absurd (omega arith)
    go (value (Handed t)) y w u e l s o low = absurd (omega (arith, word-from t w))
    go (refusal n) y w (inl k) e l s o low = inl (l ∙ ap f k ∙ s)
    go (refusal n) y w (inr (m, k)) e l s o low = inr (e ∙ ap (λ (j : ℕ). refusals + j) m, l ∙ ap f k ∙ o)

run-keeps : (ns kept sheet : List ℕ) (ready : Bool) → length ns ≡ 15 → Refused (run_number ns kept sheet ready)
    → SaveTimeout (run_number ns kept sheet ready) ns (run_leaves ns kept sheet ready) (timed_out_numbers ns)
unfolding run_leaves
run-keeps ns kept sheet ready long r =
    either_way (leb (get_or ns 3 0) 1)
    (λ e. let at : Runner = runner_in ns kept in
    let again = read-written (record { numbers = ns; bytes = kept }) long (leb-true (get_or ns 3 0) 1 e) in
    carried (λ (y : Runner). (held_of y).numbers) at (timed_out at) (advance_of at sheet ready) (formed at sheet ready)
    (refusal-keeps at sheet ready)
    (ap (λ (g : Held). run_number g.numbers g.bytes sheet ready) (sym again) ∙ ran-number at sheet ready)
    (ap (λ (g : Held). (call_leaves g (poll sheet ready)).numbers) (sym again) ∙ ap (λ (g : Held). g.numbers) (ran at sheet ready))
    (ap (λ (g : Held). g.numbers) again) (ap (λ (g : Held). timed_out_numbers g.numbers) again) r) (λ e. inl (rw e))

-- the answer of one of the eight boards, and that the steps it hands out are well formed
board-number : (ns kept : List ℕ) (n : ℕ) (sheet : List ℕ) (ready : Bool) (few : n ≤ 7) → leb (nth ns (14 * n + 3)) 1 ≡ true
    → bench_number ns kept n sheet ready ≡ answer_number progress_number (call ns kept n sheet ready few).answer
unfolding bench_number
board-number ns kept n sheet ready few m =
    rw (le-ltb 7 n few, m)
    (ap (λ (o : Outcome Bench). answer_number progress_number o.answer) (of-board ns kept n sheet ready few))

board-formed : (b : Stepper) (len : ℕ) (kept sheet : List ℕ) (ready : Bool) → HandsFormed (stepper_of b len kept sheet ready).answer
unfolding stepper_of
board-formed b len kept sheet ready = turn_formed _ _ _ _ _

bench-keeps : (ns kept : List ℕ) (n : ℕ) (sheet : List ℕ) (ready : Bool) → Refused (bench_number ns kept n sheet ready)
    → SaveTimeout (bench_number ns kept n sheet ready) ns (bench_leaves ns kept n sheet ready)
    (with_board n (stepper_timed_out (stepper_at ns n)) ns)
bench-keeps ns kept n sheet ready r =
    either_way (ltb 7 n) (λ e. inl (sym (over-leaves ns kept n sheet ready (ltb-true 7 n e))))
    (λ e. let few = ltb-false 7 n e in
    let at : Stepper = stepper_at ns n in
    either_way (leb (nth ns (14 * n + 3)) 1)
    (λ m. let marked = leb-true (nth ns (14 * n + 3)) 1 m in
    carried (λ (y : Stepper). with_board n y ns) at (stepper_timed_out at) (call ns kept n sheet ready few)
    (board-formed at (nth ns 112) kept sheet ready) (stepper-keeps at (nth ns 112) kept sheet ready)
    (board-number ns kept n sheet ready few m) (left_is ns kept n few marked sheet ready) (board-again ns n marked) refl r)
    (λ m. inl (sym (bad-leaves ns kept n sheet ready few (leb-false (nth ns (14 * n + 3)) 1 m)))))

-- a start that answers a refusal's number changes nothing: x is the start of a runner or a bench b
start-refuses : {A : Type 0} (kept_of fresh_of : A → List ℕ) (b next : A) (x : StartOutcome A) (bad : Bool)
    → (bad ≡ true → outcome (refusal 20) b ≡ x) → (bad ≡ false → outcome (value tt) next ≡ x) → {ns : List ℕ} {r : ℕ} {ns' kept' : List ℕ}
    → Starts x.answer (fresh_of x.next) (kept_of x.next) ns r ns' kept' → Refused r → (ns' ≡ ns) × (kept' ≡ kept_of b)
start-refuses {A} kept_of fresh_of b next x bad refused taken {ns} c low =
    either_way bad
    (λ t. let o = sym (refused t) in (
      c.numbers ∙ ap (λ (y : StartOutcome A). left_by (λ go before. fresh_of y.next) y.answer ns) o,
      c.bytes ∙ ap (λ (y : StartOutcome A). kept_of y.next) o,
    ))
    (λ t. absurd (omega (arith, c.answer, ap (λ (y : StartOutcome A). answer_number go_number y.answer) (taken t), low.0)))

start-keeps : (ns kept sheet : List ℕ) {r : ℕ} {ns' kept' : List ℕ} → StartCall ns kept sheet r ns' kept' → Refused r
    → (ns' ≡ ns) × (kept' ≡ kept)
start-keeps ns kept sheet =
    let at : Runner = runner_in ns kept in
    start-refuses (λ r. r.kept) (λ r. started_numbers r.len) at (started_with sheet) (start_of at sheet) (bad_size (length sheet))
    (start-refused at sheet) (start-kept at sheet)

bench-start-keeps : (ns kept sheet : List ℕ) {r : ℕ} {ns' kept' : List ℕ} → StartAllCall ns kept sheet r ns' kept' → Refused r
    → (ns' ≡ ns) × (kept' ≡ kept)
bench-start-keeps ns kept sheet =
    let at : Bench = bench_in ns kept in
    start-refuses (λ b. b.kept) (λ b. fresh_numbers b.len) at (eight_of (started_with sheet)) (start_all_of at sheet)
    (bad_size (length sheet)) (all-refused at sheet) (all-kept at sheet)

-- a sheet has at most 528 bytes
init-keeps : (p : ClockConfig) (reading : ℕ) (buffer : List ℕ) → Refused (answer_number itself (init_answer p reading buffer))
    → init_buffer p reading buffer ≡ buffer
unfolding init_answer init_buffer
init-keeps p reading buffer r = go (refusal_in p reading) refl
  where
    go : (found : Option Refusal) → refusal_in p reading ≡ found → init_buffer p reading buffer ≡ buffer
    go (Some reason) e = rw e
    go None e =
        either_way (ltb (length buffer) (length (sheet_bytes p reading))) (λ f. rw (e, f))
        (λ f. let low = rw (e, f) at r in absurd (omega (arith, low.0, size_fits (length (sheet_bytes p reading)) (sheet-size p reading))))

sheets-keep : (plan : Option (Answer ClockConfig)) {reading r : ℕ} {before after : List ℕ}
    → SheetCall plan reading before r after → Refused r → after ≡ before
sheets-keep (Some (value p)) {reading} {r} {before} c low = c.bytes ∙ init-keeps p reading before (rw c.answer at low)
sheets-keep (Some (refusal n)) c low = c.bytes
sheets-keep None c low = c.bytes

-- a list has at most two bytes for each setting that is tried
keep-few : (test : PllConfig → Bool) (cs : List PllConfig) → length (keep test cs) ≤ length cs
unfolding keep
keep-few test [] = omega arith
keep-few test (c ∷ cs) =
    let rest = keep-few test cs in
    either_way (test c) (λ e. rw e (omega (arith, rest))) (λ e. rw e (omega (arith, rest)))

order-long : length in_order ≡ 8540
unfolding in_order flat_map rising falling
order-long = refl

list-keeps : (input target : ℕ) (before : List ℕ) → Refused (answer_number itself (listed_of input target (length before)))
    → listed_in input target before ≡ before
unfolding list_of
list-keeps input target before r =
    either_way (has_room input target (length before))
    (λ e. let low = rw e at r in absurd (omega (arith, low.0, keep-few (meets input target) in_order, order-long))) (λ e. rw e)

-- a call that writes numbers, whose values have small numbers
writes-keep : {A : Type 0} {number : A → ℕ} {write : A → List ℕ → List ℕ} → ((a : A) → number a ≤ 4)
    → (given : Option (Answer A)) {before after : List ℕ} {r : ℕ} → Writes number write given before r after → Refused r
    → after ≡ before
writes-keep small (Some (value a)) c low = absurd (omega (arith, c.answer, small a, low.0))
writes-keep small (Some (refusal n)) c low = c.numbers
writes-keep small None c low = c.numbers

margin-keeps : (a : Answer Margin) (before : List ℕ) → Refused (answer_number margin-done a) → limits_after a before ≡ before
margin-keeps (value s) before r = absurd (omega arith)
margin-keeps (refusal n) before r = refl

plan-keeps : (plan : Option (Answer ClockConfig)) {before after : List ℕ} {r : ℕ} → PlanCall plan before r after → Refused r
    → after ≡ before
plan-keeps = writes-keep (λ p. chip-few (chip_of p.chip).model)
  where
    chip-few : (chip : Chip) → chip_number chip ≤ 4
    chip-few Rp2040 = omega arith
    chip-few Rp235x = omega arith

access-keeps : (chip : Option Chip) (sheet : List ℕ) (position : ℕ) {before after : List ℕ} {r : ℕ}
    → AccessCall chip sheet position before r after → Refused r → after ≡ before
access-keeps chip sheet position = writes-keep op-few (option_map (λ on. access_at on sheet position) chip)
  where
    op-few : (a : Access) → op_of a ≤ 4
    op-few access.Nothing = omega arith
    op-few (access.Write at v) = omega arith
    op-few (access.Change at m v) = omega arith
    op-few (access.Wait at m v) = omega arith
    op-few (access.Pause n) = omega arith

slots-keep : (o : Option SleepOutcome) {slots words steps slots' words' steps' : List ℕ} {r : ℕ} → length steps ≡ 28
    → SlotsCall o slots words steps r slots' words' steps' → Refused r
    → (slots' ≡ slots) × (words' ≡ words) × (steps' ≡ steps)
slots-keep None few c low = (c.slots_left, c.words_left, c.steps_left)
slots-keep (Some o) {slots} {words} {steps} {slots'} {words'} {steps'} {r} few c low = go o.answer refl
  where
    go : (a : Answer (List Step)) → o.answer ≡ a → (slots' ≡ slots) × (words' ≡ words) × (steps' ≡ steps)
    go (value s) e =
        let number : (x : Answer (List Step)) → ℕ = answer_number (λ (s : List Step). past steps 0 (steps_numbers s)) in
        absurd (omega (arith, c.answer, ap number e, low.0))
    go (refusal n) e = (rw e at c.slots_left, rw e at c.words_left, rw e at c.steps_left)

pub untouched : Untouched
untouched =
    record {
      run = run-keeps;
      bench_run = bench-keeps;
      start = start-keeps;
      bench_start = bench-start-keeps;
      sheets = sheets-keep;
      list = list-keeps;
      margin = λ input target. margin-keeps (margin_of input target);
      read_sheet = λ read. plan-keeps (Some read);
      presets = plan-keeps;
      access = access-keeps;
      slots = slots-keep;
    }
