-- The numbers that an exported call for a board leaves, read as a bench, are the bench that the definition leaves.
use Rattle.std.specs.Prelude.{Bool, List, ◌∷◌, ◌⊎◌, ◌≡◌, ℕ, zero, suc, ◌+◌, ◌*◌, ◌≤◌, ◌<◌, eqb, ltb, length, get_or, set, refl}
use mathlib.Core.{Logic.inl, Logic.inr, Path.sym, Path.ap, Path.◌∙◌}
use native.Mathlib.Omega.{arith}
use borrow.Author.Tests.{le-ltb, le-leb, eqb-true, eqb-false, ltb-true, ltb-false}
use lib.{ListN.length-set, Seq.length-sets}
use Rattle.base.specs.{Answer.Answer, Answer.value, Answer.refusal, Choice.bit}
use Rattle.base.proofs.Bools.{either_way}
use Rattle.step.specs.{declared.Step.Step, Kinds.is}
use Rattle.numbers.specs.Fields.{nth, ten_at}
use Rattle.numbers.specs.Bench.{stepper_at, boards_from, bench_in, board_numbers, with_board, bench_leaves}
use Rattle.runner.specs.declared.Reply.TheVariants.{Done, Handed, Passed, Waiting}
use Rattle.runner.specs.Run.{Outcome, stored_by, freqs_after, stepper_of}
use Rattle.runner.specs.declared.{Stepper.Stepper, Reply.Reply}
use Rattle.boards.specs.{declared.Bench.Bench, Bench.bench_of}
use Rattle.numbers.proofs.{PartRows.row-whole, Boards.call, Boards.of-board, Boards.next-board}
use Rattle.export.specs.Calls.{IsBench}
use Rattle.export.proofs.Rows.{mark-back, mark-same, mark-least, outside, inside, sets_same}
use Rattle.step.specs.declared.kind.Kind.TheVariants as kind

-- the list of frequencies keeps its length
stored-long : (step : Step) (freqs : List ℕ) → length (stored_by step freqs) ≡ length freqs
unfolding stored_by
stored-long step freqs =
    either_way (is step.kind kind.Store) (λ e. rw e (length-set freqs step.f0 step.f1)) (λ e. rw e)

after-long : (a : Answer Reply) (freqs : List ℕ) → length (freqs_after a freqs) ≡ length freqs
after-long (value Done) freqs = refl
after-long (value (Handed step)) freqs = stored-long step freqs
after-long (value Passed) freqs = refl
after-long (value Waiting) freqs = refl
after-long (refusal n) freqs = refl

-- a board by its fourteen numbers
ten-same : (a b : List ℕ) (i k : ℕ) → ((j : ℕ) → j < 10 → nth a (i + j) ≡ nth b (k + j)) → ten_at a i ≡ ten_at b k
ten-same a b i k e =
    let z : i + 0 ≡ i = omega arith in
    let y : k + 0 ≡ k = omega arith in
    let e0 : nth a i ≡ nth b k = ap (nth a) (sym z) ∙ e 0 (omega arith) ∙ ap (nth b) y in
    rw (e0, e 1 (omega arith), e 2 (omega arith), e 3 (omega arith), e 4 (omega arith))
    (rw (e 5 (omega arith), e 6 (omega arith), e 7 (omega arith), e 8 (omega arith), e 9 (omega arith)))

pub ten-whole : (l : List ℕ) → length l ≡ 10 → ten_at l 0 ≡ l
ten-whole = row-whole 10

module _ (ns : List ℕ) (long : length ns ≡ 113) (n : ℕ) (few : n ≤ 7) (b : Stepper) (ten : length b.freqs ≡ 10) where
  abbrev after : List ℕ
  after = with_board n b ns

  abbrev mine : List ℕ
  mine = b.state.position ∷ b.state.lock_polls ∷ b.state.total ∷ bit b.state.stopped ∷ b.freqs

  numbers-are : board_numbers b ≡ mine
  numbers-are = rw (ten-whole b.freqs ten)

  here : (j : ℕ) → j < 14 → nth after (14 * n + j) ≡ nth mine j
  here j h =
      let l : length (board_numbers b) ≡ 14 = refl in
      inside (board_numbers b) ns (14 * n) j (omega arith) (omega arith) ∙ ap (λ (vs : List ℕ). nth vs j) numbers-are

  elsewhere : (k : ℕ) → (k < 14 * n) ⊎ (14 * n + 14 ≤ k) → nth after k ≡ nth ns k
  elsewhere k h = outside (board_numbers b) ns (14 * n) k h

  board-here : stepper_at after n ≡ b
  board-here =
      let first : 14 * n + 0 ≡ 14 * n = omega arith in
      let p : nth after (14 * n) ≡ b.state.position = ap (nth after) (sym first) ∙ here 0 (omega arith) in
      let tens : ten_at after (14 * n + 4) ≡ ten_at b.freqs 0 =
      ten-same after b.freqs (14 * n + 4) 0 (λ j h.
      let there : (14 * n + 4) + j ≡ 14 * n + (4 + j) = omega arith in
      let left : 0 + j ≡ j = omega arith in
      let four : 4 + j ≡ suc (suc (suc (suc j))) = omega arith in
      ap (nth after) there ∙ here (4 + j) (omega arith) ∙ ap (nth mine) four ∙ ap (nth b.freqs) (sym left)) in
      rw (p, here 1 (omega arith), here 2 (omega arith), here 3 (omega arith), mark-back b.state.stopped, tens)
      (rw (ten-whole b.freqs ten))

  side : (m : ℕ) → (m ≡ n → ⊥) → (j : ℕ) → j < 14 → (14 * m + j < 14 * n) ⊎ (14 * n + 14 ≤ 14 * m + j)
  side m ne j h =
      either_way (ltb m n) (λ e. let less = ltb-true m n e in inl (omega arith))
      (λ e. let more = ltb-false m n e in inr (omega arith))

  board-elsewhere : (m : ℕ) → (m ≡ n → ⊥) → stepper_at after m ≡ stepper_at ns m
  board-elsewhere m ne =
      let e : (j : ℕ) → j < 14 → nth after (14 * m + j) ≡ nth ns (14 * m + j) = λ j h. elsewhere (14 * m + j) (side m ne j h) in
      let first : 14 * m + 0 ≡ 14 * m = omega arith in
      let p : nth after (14 * m) ≡ nth ns (14 * m) = ap (nth after) (sym first) ∙ e 0 (omega arith) ∙ ap (nth ns) first in
      let tens : ten_at after (14 * m + 4) ≡ ten_at ns (14 * m + 4) =
      ten-same after ns (14 * m + 4) (14 * m + 4) (λ j h.
      let there : (14 * m + 4) + j ≡ 14 * m + (4 + j) = omega arith in
      ap (nth after) there ∙ e (4 + j) (omega arith) ∙ ap (nth ns) (sym there)) in
      rw (p, e 1 (omega arith), e 2 (omega arith), e 3 (omega arith), tens)

  from-elsewhere : (count k : ℕ) → n < k → boards_from count k after ≡ boards_from count k ns
  from-elsewhere zero k h = refl
  from-elsewhere (suc count) k h = rw (board-elsewhere k (λ e. omega arith), from-elsewhere count (suc k) (omega arith))

  from-here : (count k i : ℕ) → k + i ≡ n → i < count → boards_from count k after ≡ set (boards_from count k ns) i b
  from-here zero k i e h = absurd (omega arith)
  from-here (suc count) k zero e h =
      let at : k ≡ n = omega arith in
      rw (at, board-here, from-elsewhere count (suc n) (omega arith))
  from-here (suc count) k (suc i) e h =
      rw (board-elsewhere k (λ z. omega arith), from-here count (suc k) i (omega arith) (omega arith))

  decoded : (kept : List ℕ)
      → bench_in after kept ≡ record { boards = set (boards_from 8 0 ns) n b; kept = kept; len = nth ns 112 }
  decoded kept = rw (from-here 8 0 n (omega arith) (omega arith), elsewhere 112 (inr (omega arith)))

-- setting a board's own numbers again changes nothing
pub board-again : (ns : List ℕ) (n : ℕ) → nth ns (14 * n + 3) ≤ 1 → with_board n (stepper_at ns n) ns ≡ ns
board-again ns n marked =
    sets_same (board_numbers (stepper_at ns n)) ns (14 * n) (
      refl,
      at (omega arith) (at (omega arith) (
        mark-same (nth ns (14 * n + 3)) marked ∙ ap (nth ns) (omega arith),
        at (omega arith) (at (omega arith) (at (omega arith) (at (omega arith) (at (omega arith) (at (omega arith)
            (at (omega arith) (at (omega arith) (at (omega arith) (at (omega arith) tt))))))))),
      )),
    )
  where
    at : {B : Type 0} {i k : ℕ} → i ≡ k → B → (nth ns i ≡ nth ns k) × B
    at e rest = (ap (nth ns) e, rest)

-- the numbers that a call for one of the eight boards leaves
pub left_is : (ns kept : List ℕ) (n : ℕ) (few : n ≤ 7) → nth ns (14 * n + 3) ≤ 1 → (sheet : List ℕ) (ready : Bool)
    → bench_leaves ns kept n sheet ready ≡ with_board n (call ns kept n sheet ready few).next ns
unfolding bench_leaves
left_is ns kept n few marked sheet ready =
    rw (le-ltb 7 n few, le-leb _ _ marked, next-board ns kept n sheet ready few marked)

module _ (ns kept : List ℕ) (is : IsBench ns) (n : ℕ) (few : n ≤ 7) (sheet : List ℕ) (ready : Bool) where
  left : bench_leaves ns kept n sheet ready ≡ with_board n (call ns kept n sheet ready few).next ns
  left = left_is ns kept n few (is.marked n few) sheet ready

  freqs-long : length (call ns kept n sheet ready few).next.freqs ≡ 10
  unfolding stepper_of
  freqs-long = after-long (call ns kept n sheet ready few).answer (ten_at ns (14 * n + 4))

  -- the numbers that a call for a board leaves, read as a bench, are the definition's bench
  pub bench-decoded : bench_in (bench_leaves ns kept n sheet ready) kept ≡ (bench_of (bench_in ns kept) n sheet ready).next
  bench-decoded =
      rw left
      (decoded ns is.all n few (call ns kept n sheet ready few).next freqs-long kept
      ∙ ap (λ (x : Outcome Bench). x.next) (sym (of-board ns kept n sheet ready few)))

  -- they are again 113 numbers with marks of 1 or 0
  pub bench-held : IsBench (bench_leaves ns kept n sheet ready)
  bench-held =
      rw left (record { all = length-sets ns (14 * n) (board_numbers (call ns kept n sheet ready few).next) ∙ is.all; marked = marked })
    where
      b : Stepper
      b = (call ns kept n sheet ready few).next

      marked : (m : ℕ) → m ≤ 7 → get_or (with_board n b ns) (14 * m + 3) 0 ≤ 1
      marked m h =
          either_way (eqb m n)
          (λ e. omega (
            arith,
            ap (λ (k : ℕ). nth (with_board n b ns) (14 * k + 3)) (eqb-true m n e),
            here ns is.all n few b freqs-long 3 (omega arith),
            mark-least b.state.stopped,
          ))
          (λ e. omega (
            arith,
            elsewhere ns is.all n few b freqs-long (14 * m + 3)
                (side ns is.all n few b freqs-long m (eqb-false m n e) 3 (omega arith)),
            is.marked m h,
          ))
