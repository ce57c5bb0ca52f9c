-- The numbers and bytes after any exported calls for a bench are those of the bench after the same calls, and so are the answers.
-- So what holds of benches holds of exported calls: after a start each board is a single runner of its own.
use Rattle.std.specs.Prelude.{Bool, true, false, List, [], ◌∷◌, map, ◌≡◌, ℕ, ◌+◌, ◌*◌, ◌≤◌, eqb, ltb, length, get_or, replicate}
use mathlib.Core.Path.{refl, sym, ap, ◌∙◌}
use native.Mathlib.Omega.{arith}
use borrow.Author.Tests.{le-leb, ltb-true, ltb-false}
use lib.ListN.{get_or-append}
use Rattle.std.proofs.lemmas.List.{get_or-replicate}
use Rattle.base.proofs.Bools.{either_way}
use Rattle.step.specs.{Sheet.max_bytes, Size.bad_size}
use Rattle.numbers.specs.Bench.{runner_at, bench_in, bench_number, fresh_numbers, start_all_leaves}
use Rattle.numbers.specs.{Fields.nth, Fields.ten_at, Answers.answer_number, Run.progress_number}
use Rattle.runner.specs.declared.Runner.{Runner}
use Rattle.runner.specs.Run.{Outcome, StartOutcome, fresh, started_with, start_of}
use Rattle.runner.proofs.Starts.{start-kept}
use Rattle.boards.specs.declared.Bench.{Bench}
use Rattle.boards.specs.Bench.{fresh_bench, bench_of, start_all_of}
use Rattle.boards.specs.History.{BenchEvent, start, poll, bench_after, answers_for, Own, own_of, single_after, single_answers, Alike}
use Rattle.boards.proofs.{History.between-starts, Benches.all-refused, Benches.all-kept, Benches.over-seven}
use Rattle.numbers.proofs.Boards.{board-at, over-leaves}
use Rattle.export.specs.{Calls.Held, Calls.held_of, Calls.held_after, Calls.run_numbers, Calls.IsBench, Calls.bench_call_leaves}
use Rattle.export.specs.{Calls.bench_held_after, Calls.bench_numbers, Calls.ExportedSingle, Calls.ExportedSame, State.bench_held}
use Rattle.export.proofs.{Rows.mark-same, Calls.taken, Calls.answered, Calls.after-start, Benches.bench-decoded, Benches.bench-held}

started_by : Held → StartOutcome Bench → Held
started_by h o = record { numbers = start_all_leaves o.answer h.numbers o.next.len; bytes = o.next.kept }

after_one : (b : Bench) (e : BenchEvent) (es : List BenchEvent) → bench_after (bench_after b (e ∷ [])) es ≡ bench_after b (e ∷ es)
after_one b (start sheet) es = refl
after_one b (poll n sheet ready) es = refl

started-bench : (h : Held) (sheet : List ℕ) → bad_size (length sheet) ≡ false
    → (bench_held (bench_call_leaves h (start sheet)) ≡ (start_all_of (bench_held h) sheet).next)
    × IsBench (bench_call_leaves h (start sheet)).numbers
unfolding started_by
started-bench h sheet e =
    let o = sym (all-kept (bench_held h) sheet e) in (
      ap (λ (x : StartOutcome Bench). bench_held (started_by h x)) o ∙ sym (ap (λ (x : StartOutcome Bench). x.next) o),
      rw (ap (λ (x : StartOutcome Bench). (started_by h x).numbers) o) (record { all = refl; marked = fresh-marks }),
    )
  where
    fresh-marks : (n : ℕ) → n ≤ 7 → get_or (fresh_numbers (length sheet)) (14 * n + 3) 0 ≤ 1
    fresh-marks n h =
        let at : ℕ = 14 * n + 3 in
        omega (
          arith,
          get_or-append (replicate 112 0) (length sheet ∷ []) 0 at (omega arith),
          get_or-replicate {A = ℕ} 112 at 0 0 (omega arith),
        )

one-event : (h : Held) (e : BenchEvent) → IsBench h.numbers
    → (bench_held (bench_call_leaves h e) ≡ bench_after (bench_held h) (e ∷ [])) × IsBench (bench_call_leaves h e).numbers
unfolding started_by
one-event h (start sheet) is =
    either_way (bad_size (length sheet))
    (λ e. let o = sym (all-refused (bench_held h) sheet e) in (
      ap (λ (x : StartOutcome Bench). bench_held (started_by h x)) o ∙ sym (ap (λ (x : StartOutcome Bench). x.next) o),
      rw (ap (λ (x : StartOutcome Bench). (started_by h x).numbers) o) is,
    ))
    (λ e. started-bench h sheet e)
one-event h (poll n sheet ready) is =
    either_way (ltb 7 n)
    (λ e. let over = ltb-true 7 n e in
    let same = over-leaves h.numbers h.bytes n sheet ready over in
    (rw (← same) (ap (λ (x : Outcome Bench). x.next) (over-seven (bench_held h) n sheet ready over)), rw (← same) is))
    (λ e. let few = ltb-false 7 n e in
    (bench-decoded h.numbers h.bytes is n few sheet ready, bench-held h.numbers h.bytes is n few sheet ready))

-- all zeros are a bench before any start
pub zeros-fresh : bench_in (replicate 113 0) (replicate max_bytes 0) ≡ fresh_bench
zeros-fresh = refl

-- after any history of exported calls the numbers and bytes are those of the bench after the same history
pub bench-history : (h : Held) (es : List BenchEvent) → IsBench h.numbers
    → (bench_held (bench_held_after h es) ≡ bench_after (bench_held h) es) × IsBench (bench_held_after h es).numbers
bench-history h [] is = (refl, is)
bench-history h (e ∷ es) is =
    let s = one-event h e is in
    let rest = bench-history (bench_call_leaves h e) es s.1 in
    (rest.0 ∙ ap (λ (b : Bench). bench_after b es) s.0 ∙ after_one (bench_held h) e es, rest.1)

-- a call answers the number of the bench's answer
bench-number : (ns kept : List ℕ) → IsBench ns → (m : ℕ) (sheet : List ℕ) (ready : Bool)
    → bench_number ns kept m sheet ready ≡ answer_number progress_number (bench_of (bench_in ns kept) m sheet ready).answer
unfolding bench_number
bench-number ns kept is m sheet ready =
    either_way (ltb 7 m) (λ e. rw e) (λ e. rw (e, le-leb _ _ (is.marked m (ltb-false 7 m e))))

bench-answered : (n : ℕ) (es : List BenchEvent) (h : Held) → IsBench h.numbers
    → bench_numbers n h es ≡ map (answer_number progress_number) (answers_for n (bench_held h) es)
bench-answered n [] h is = refl
bench-answered n (start sheet ∷ es) h is =
    let s = one-event h (start sheet) is in
    bench-answered n es (bench_call_leaves h (start sheet)) s.1
    ∙ ap (λ (b : Bench). map (answer_number progress_number) (answers_for n b es)) s.0
bench-answered n (poll m sheet ready ∷ es) h is =
    let s = one-event h (poll m sheet ready) is in
    let rest = bench-answered n es (bench_call_leaves h (poll m sheet ready)) s.1
    ∙ ap (λ (b : Bench). map (answer_number progress_number) (answers_for n b es)) s.0 in
    either_way (eqb m n) (λ e. rw e (λ i. bench-number h.numbers h.bytes is m sheet ready i ∷ rest i)) (λ e. rw e rest)

-- ---- between starts

alike-by : (n : ℕ) {b c : Bench} {r q : Runner} → b ≡ c → r ≡ q → Alike n c q → Alike n b r
alike-by n e f k = rw (e, f) k

-- a board that equals a runner has the runner's numbers
board-numbers : (ns kept : List ℕ) → IsBench ns → (n : ℕ) → n ≤ 7 → (r : Runner) → Alike n (bench_in ns kept) r
    → runner_at ns n ≡ (held_of r).numbers
board-numbers ns kept is n few r k =
    let same = sym (board-at ns kept n [] true few) ∙ k.board in
    (λ i. nth ns (14 * n) ∷ nth ns (14 * n + 1) ∷ nth ns (14 * n + 2) ∷ sym (mark-same (nth ns (14 * n + 3)) (is.marked n few)) i
    ∷ nth ns 112 ∷ ten_at ns (14 * n + 4))
    ∙ (λ i. (held_of (record { kept = r.kept; len = k.len i; stepper = same i })).numbers)

-- whatever a bench and a runner were before an accepted start, each board is then a single runner of its own
pub exported-between-starts : (n : ℕ) → n ≤ 7 → (h g : Held) (sheet : List ℕ) → bad_size (length sheet) ≡ false
    → (es : List BenchEvent) → ExportedSingle n h g sheet es
exported-between-starts n few h g sheet ok es =
    let s = started-bench h sheet ok in
    let at = bench_call_leaves h (start sheet) in
    let one : (start_of fresh sheet).next ≡ started_with sheet =
    ap (λ (x : StartOutcome Runner). x.next) (sym (start-kept fresh sheet ok)) in
    let single = between-starts n few (bench_held h) fresh sheet ok es in
    let past = bench-history at es s.1 in
    let alike = alike-by n (past.0 ∙ ap (λ (b : Bench). bench_after b es) s.0)
    (ap (λ (r : Runner). single_after r (own_of n es)) (sym one)) single.left in
    let runner = after-start g sheet ok (own_of n es) in
    record {
      answered = bench-answered n es at s.1
          ∙ ap (λ (b : Bench). map (answer_number progress_number) (answers_for n b es)) s.0
          ∙ ap (map (answer_number progress_number)) (single.answered ∙ ap (λ (r : Runner). single_answers r (own_of n es)) one)
          ∙ sym (ap (λ (x : Held). run_numbers x (own_of n es)) (taken g sheet ok) ∙ answered (own_of n es) (started_with sheet));
      numbers = board-numbers (bench_held_after at es).numbers (bench_held_after at es).bytes past.1 n few
          (single_after (started_with sheet) (own_of n es)) alike ∙ sym (ap (λ (x : Held). x.numbers) runner);
      bytes = alike.kept ∙ sym (ap (λ (x : Held). x.bytes) runner);
    }

-- two histories with the same calls for a board give the same answers and the same numbers for it
pub exported-own-calls : (n : ℕ) → n ≤ 7 → (h d : Held) (sheet : List ℕ) → bad_size (length sheet) ≡ false
    → (es fs : List BenchEvent) → own_of n es ≡ own_of n fs → ExportedSame n h d sheet es fs
exported-own-calls n few h d sheet ok es fs own =
    let a = exported-between-starts n few h h sheet ok es in
    let b = exported-between-starts n few d h sheet ok fs in
    record {
      answered = a.answered ∙ ap (λ (l : List Own). run_numbers h (Own.start sheet ∷ l)) own ∙ sym b.answered;
      numbers = a.numbers ∙ ap (λ (l : List Own). (held_after h (Own.start sheet ∷ l)).numbers) own ∙ sym b.numbers;
    }
