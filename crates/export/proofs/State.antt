-- Runner, bench and slots read back from their numbers as themselves, and their numbers as the same numbers: a part's numbers stand in a
-- row, and a mark that is 1 or 0 is that of its truth value.
use Rattle.std.specs.Prelude.{Bool, false, ◌&&◌, List, [], ◌∷◌, ◌≡◌, ℕ, ◌≤◌, leb, refl}
use mathlib.Core.Path.{sym, ap, ◌∙◌}
use native.Mathlib.Omega.{arith}
use borrow.Author.Tests.{leb-true}
use Rattle.std.proofs.lemmas.Bool.{and_parts}
use Rattle.runner.specs.declared.Stepper.{Stepper}
use Rattle.boards.specs.{declared.Bench.Bench, Bench.no_board, Bench.board_at}
use Rattle.sleep.specs.{declared.Slot.Slot, Sleep.slot_at}
use Rattle.numbers.specs.{Bench.bench_in, Bench.board_numbers, Bench.stepper_at, Fields.nth, Slots.words_at, Slots.slots_in}
use Rattle.numbers.specs.Slots.{slots_numbers}
use Rattle.numbers.proofs.PartRows.{items-whole, row-whole}
use Rattle.export.specs.Calls.{IsBench}
use Rattle.export.specs.State.{bench_held, held_bench, EightBoards, IsSlots, FourSlots, StateMeans}
use Rattle.export.proofs.{Rows.mark-back, Rows.mark-same, Calls.written_read, Calls.read-written, Benches.ten-whole}

-- a board reads back from its fourteen numbers, and so do eight
boards-back : (b : Bench) → EightBoards b → bench_held (held_bench b) ≡ b
boards-back b is =
    let one : (n : ℕ) → n ≤ 7 → stepper_at (board_numbers (board_at b n)) 0 ≡ board_at b n =
    λ n few. let ten = is.ten n no_board (omega (arith, is.eight)) in
    rw (mark-back (board_at b n).state.stopped, ten-whole (board_at b n).freqs ten) refl in
    let whole = items-whole no_board 8 b.boards is.eight in
    let held : List Stepper → Bench = λ l. record { boards = l; kept = b.kept; len = b.len } in
    ap (λ l. bench_held (held_bench (held l))) (sym whole)
    ∙ (λ i. held (one 0 (omega arith) i ∷ one 1 (omega arith) i ∷ one 2 (omega arith) i ∷ one 3 (omega arith) i
    ∷ one 4 (omega arith) i ∷ one 5 (omega arith) i ∷ one 6 (omega arith) i ∷ one 7 (omega arith) i ∷ []))
    ∙ ap held whole

-- the numbers of a bench stand in a row
numbers-again : (ns : List ℕ) → IsBench ns → (held_bench (bench_in ns [])).numbers ≡ ns
numbers-again ns is =
    rw (
      mark-same (nth ns 3) (is.marked 0 (omega arith)),
      mark-same (nth ns 17) (is.marked 1 (omega arith)),
      mark-same (nth ns 31) (is.marked 2 (omega arith)),
      mark-same (nth ns 45) (is.marked 3 (omega arith)),
      mark-same (nth ns 59) (is.marked 4 (omega arith)),
      mark-same (nth ns 73) (is.marked 5 (omega arith)),
      mark-same (nth ns 87) (is.marked 6 (omega arith)),
      mark-same (nth ns 101) (is.marked 7 (omega arith)),
    )
    (row-whole 113 ns is.all)

-- a slot given by its flag and eleven numbers of a row, and four of these
pub record Given : Type 0 where
  pub flag : Bool
  pub row : List ℕ
  pub place : ℕ

abbrev pub slot_of : Given → Slot
slot_of g = record { saved = g.flag; words = words_at g.row g.place }

abbrev pub four : Given → Given → Given → Given → List Slot
four a b c d = slot_of a ∷ slot_of b ∷ slot_of c ∷ slot_of d ∷ []

pub four-back : (a b c d : Given) → slots_in (slots_numbers (four a b c d)) 0 ≡ four a b c d
four-back a b c d = rw (mark-back a.flag, mark-back b.flag, mark-back c.flag, mark-back d.flag) refl

abbrev no_slot : Slot
no_slot = record { saved = false; words = [] }

-- four slots read back, each by its flag and its eleven words
slots-back : (l : List Slot) → FourSlots l → slots_in (slots_numbers l) 0 ≡ l
slots-back l is =
    let given : (n : ℕ) → Given = λ n. record { flag = (slot_at l n).saved; row = (slot_at l n).words; place = 0 } in
    let same : (n : ℕ) → n ≤ 3 → slot_of (given n) ≡ slot_at l n = λ n few.
    let w = row-whole 11 (slot_at l n).words (is.eleven n no_slot (omega (arith, is.four))) in
    λ i. record { saved = (slot_at l n).saved; words = w i } in
    let whole : four (given 0) (given 1) (given 2) (given 3) ≡ l =
    (λ i. same 0 (omega arith) i ∷ same 1 (omega arith) i ∷ same 2 (omega arith) i ∷ same 3 (omega arith) i ∷ [])
    ∙ items-whole no_slot 4 l is.four in
    ap (λ (l : List Slot). slots_in (slots_numbers l) 0) (sym whole) ∙ four-back (given 0) (given 1) (given 2) (given 3) ∙ whole

-- slots that are read and written again give the same numbers
pub again : (ns : List ℕ) → IsSlots ns → slots_numbers (slots_in ns 0) ≡ ns
again ns is =
    let h = and_parts ((leb (nth ns 0) 1 && leb (nth ns 12) 1) && leb (nth ns 24) 1) (leb (nth ns 36) 1) is.flags in
    let k = and_parts (leb (nth ns 0) 1 && leb (nth ns 12) 1) (leb (nth ns 24) 1) h.0 in
    let m = and_parts (leb (nth ns 0) 1) (leb (nth ns 12) 1) k.0 in
    rw (
      mark-same (nth ns 0) (leb-true _ 1 m.0),
      mark-same (nth ns 12) (leb-true _ 1 m.1),
      mark-same (nth ns 24) (leb-true _ 1 k.1),
      mark-same (nth ns 36) (leb-true _ 1 h.1),
    ) (row-whole 48 ns is.all)

pub state-means : StateMeans
state-means =
    record {
      runner = written_read;
      runner_again = read-written;
      runner_fresh = refl;
      bench = boards-back;
      bench_again = λ h is. let same = numbers-again h.numbers is in λ i. record { numbers = same i; bytes = h.bytes };
      bench_fresh = refl;
      slots = slots-back;
      slots_again = again;
      slots_fresh = refl;
    }
