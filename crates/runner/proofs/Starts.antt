-- The runner after a start: unchanged after a refusal, else fresh with the padded sheet.
use Rattle.std.specs.Prelude.{true, false, Result, Ok, Err, List, ◌++◌, ◌≡◌, refl, ℕ, ◌+◌, ◌-◌, ◌≤◌, length, take, drop, replicate}
use mathlib.Core.Path.{sym, ap, ◌∙◌}
use native.Mathlib.Omega.{arith}
use lib.{ListN.replicate-append-replicate, ListN.length-replicate, ListN.length-append, Seq.take-length, Seq.drop-append_seam, Seq.take-append_seam}
use Rattle.base.specs.{Answer.value, Answer.refusal, Answer.answer_of, Refusals.number_of, declared.refusal.Refusal.Refusal}
use Rattle.base.proofs.Bools.{either_way}
use Rattle.step.specs.{Sheet.max_bytes, Size.bad_size}
use Rattle.runner.specs.{declared.Runner.Runner, Run.padded, Run.started_with, Run.start_of, Run.outcome, Run.StartOutcome}

module _ (r : Runner) (sheet : List ℕ) where
  pub start-refused : bad_size (length sheet) ≡ true → outcome (refusal 20) r ≡ start_of r sheet
  unfolding start_of
  start-refused e = simp e

  pub start-kept : bad_size (length sheet) ≡ false → outcome (value tt) (started_with sheet) ≡ start_of r sheet
  unfolding start_of
  start-kept e = simp e

abbrev pub zeros : ℕ → List ℕ
zeros n = replicate n 0

pub drop-zeros : (n m : ℕ) → n ≤ m → drop n (zeros m) ≡ zeros (m - n)
drop-zeros n m h =
    let cut : m ≡ n + (m - n) = omega arith in
    let seam = drop-append_seam (zeros n) (zeros (m - n)) in
    let whole = replicate-append-replicate {A = ℕ} n (m - n) 0 in
    ap (λ (k : ℕ). drop n (zeros k)) cut ∙ ap (λ (l : List ℕ). drop n l) (sym whole)
    ∙ ap (λ (k : ℕ). drop k (zeros n ++ zeros (m - n))) (sym (length-replicate {A = ℕ} n 0)) ∙ seam

-- the sheet over zeros
pub over_zeros : (sheet : List ℕ) → length sheet ≤ max_bytes
    → take (length sheet) sheet ++ drop (length sheet) (replicate max_bytes 0) ≡ padded sheet
over_zeros sheet h = rw (take-length sheet, drop-zeros (length sheet) max_bytes h) refl

-- the kept bytes up to the length of the sheet are the sheet
pub kept-sheet : (sheet : List ℕ) → take (length sheet) (padded sheet) ≡ sheet
kept-sheet sheet = take-append_seam sheet (replicate (max_bytes - length sheet) 0)

pub length-padded : (sheet : List ℕ) → length sheet ≤ max_bytes → length (padded sheet) ≡ max_bytes
length-padded sheet h = rw (length-append, length-replicate) (omega arith)

-- the answer of a start says whether the length of the sheet is one of a sheet, and which runner is left
module _ (r : Runner) (sheet : List ℕ) (o : Result (Unit {0}) Refusal) (next : Runner)
    (e : outcome (answer_of o) next ≡ start_of r sheet) where
  told : (x : StartOutcome Runner) → x ≡ start_of r sheet → answer_of o ≡ x.answer
  told x h = ap (λ (y : StartOutcome Runner). y.answer) (e ∙ sym h)

  pub start-taken : o ≡ Ok tt → (bad_size (length sheet) ≡ false) × (next ≡ started_with sheet)
  start-taken k =
      either_way (bad_size (length sheet))
      (λ bad. let no = sym (ap answer_of k) ∙ told _ (start-refused r sheet bad) in cc)
      (λ ok. (ok, ap (λ (x : StartOutcome Runner). x.next) (e ∙ sym (start-kept r sheet ok))))

  pub start-turned : (why : Refusal) → o ≡ Err why → (bad_size (length sheet) ≡ true) × (number_of why ≡ 20)
  start-turned why k =
      either_way (bad_size (length sheet))
      (λ bad. (bad, let same = sym (ap answer_of k) ∙ told _ (start-refused r sheet bad) in cc))
      (λ ok. let no = sym (ap answer_of k) ∙ told _ (start-kept r sheet ok) in cc)
