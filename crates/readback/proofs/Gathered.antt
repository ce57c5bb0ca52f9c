-- A call of a reader moves it on, and the steps that it has given so far are the first steps of the sheet.
use Rattle.std.specs.Prelude.{Some, None, Result, Ok, Err, ◌≡◌, refl, List, [], ◌∷◌, ◌++◌, ℕ, suc, ◌+◌, ◌/◌, ◌≤◌, ◌<◌, length, take}
use Rattle.std.specs.Result.{result_unwrap_or}
use Rattle.base.specs.{declared.refusal.Refusal.Refusal, Answer.answer_in}
use mathlib.Core.Path.{sym, ap, ◌∙◌}
use native.Mathlib.{Decide.dec_lt, Omega.arith}
use lib.{ListN.length-take, Seq.take-suc, Seq.take_all}
use borrow.Author.Tests.{lt-ltb, le-ltb}
use Rattle.step.specs.{declared.Step.Step, Sheet.max_steps}
use Rattle.sheet.specs.Steps.{step0}
use Rattle.readback.specs.{declared.Reader.Reader, Steps.step_in, Steps.steps_in, Steps.taken_at, Steps.MovesOn, Steps.steps_read}
use Rattle.readback.proofs.Decoded.{length_from, step_taken}
use Rattle.step.specs.declared.kind.Kind.TheVariants as kind

-- A call at the end gives nothing, and the reader stays.
pub finds_none : (r : Reader) → answer_in None ≡ taken_at r.sheet.now r.at → MovesOn r None r
finds_none r e = elim (dec_lt r.at (length r.sheet.now / 8)) [
  | yes h ↦ absurd (let t = rw (lt-ltb r.at (length r.sheet.now / 8) h) at e in cc)
  | no n ↦
      let h : length r.sheet.now / 8 ≤ r.at = omega arith in
      record {
        given_is = e;
        step_is = ap step_in e ∙ step_taken r.sheet.now r.at;
        after_is = rw (le-ltb r.at (length r.sheet.now / 8) h);
      }
]

-- A call before the end gives what is there, and moves the reader on.
pub finds_some : (r : Reader) (x : Result Step Refusal) → answer_in (Some x) ≡ taken_at r.sheet.now r.at
    → MovesOn r (Some x) (record { sheet = r.sheet; at = r.at + 1 })
finds_some r x e = elim (dec_lt r.at (length r.sheet.now / 8)) [
  | yes h ↦
      record {
        given_is = e;
        step_is = ap step_in e ∙ step_taken r.sheet.now r.at;
        after_is = rw (lt-ltb r.at (length r.sheet.now / 8) h);
      }
  | no n ↦
      let h : length r.sheet.now / 8 ≤ r.at = omega arith in
      absurd (let t = rw (le-ltb r.at (length r.sheet.now / 8) h) at e in cc)
]

-- A refusal counts as a step of kind 0.
pub unwrapped : (x : Result Step Refusal) → result_unwrap_or x (step0 (kind.Unknown 0)) ≡ step_in (answer_in (Some x))
unwrapped (Ok s) = refl
unwrapped (Err why) = refl

-- The reader is at this sheet's position after the steps so far, of which 66 - left are still wanted.
pub record Onward (sheet : List ℕ) (steps : List Step) (r : Reader) (left : ℕ) : Type 0 where
  pub whole : r.sheet.now ≡ sheet
  pub inside : r.at ≤ length sheet / 8
  pub room : r.at + left ≡ max_steps
  pub same : steps ≡ take r.at (steps_in sheet)

module _ (sheet : List ℕ) where
  long : length (steps_in sheet) ≡ length sheet / 8
  unfolding steps_in
  long = length_from sheet 0 (length sheet / 8)

  pub one_onward : (steps more : List Step) (r after : Reader) (left rest : ℕ) (x : Result Step Refusal) (step : Step)
      → Onward sheet steps r left → MovesOn r (Some x) after → rest + 1 ≡ left → step ≡ step_in (answer_in (Some x))
      → (length steps < max_steps → more ≡ steps ++ step ∷ []) → Onward sheet more after rest
  one_onward steps more r after left rest x step on m few one pushed = elim (dec_lt r.at (length sheet / 8)) [
    | yes h ↦
        let at : after.at ≡ suc r.at = rw (m.after_is, on.whole, lt-ltb r.at (length sheet / 8) h) (omega arith) in
        let room : length steps < max_steps = omega (arith, on.room, few, ap length on.same, length-take r.at (steps_in sheet)) in
        record {
          whole = rw m.after_is on.whole;
          inside = omega arith;
          room = omega (arith, on.room);
          same = rw (pushed room, at, one, m.step_is, on.whole, on.same)
              (sym (take-suc (steps_in sheet) r.at (step0 (kind.Unknown 0)) (omega (arith, long))));
        }
    | no n ↦
        let h : length sheet / 8 ≤ r.at = omega arith in
        absurd (let t = rw (on.whole, le-ltb r.at (length sheet / 8) h) at m.given_is in cc)
  ]

  pub all_read : (steps : List Step) (r : Reader) (left : ℕ) → Onward sheet steps r left
      → (0 < left → length sheet / 8 ≤ r.at) → steps ≡ steps_read sheet
  unfolding steps_read
  all_read steps r left on end = elim (dec_lt 0 left) [
    | yes h ↦
        let e : length sheet / 8 ≤ r.at = end h in
        on.same ∙ take_all r.at (steps_in sheet) (omega (arith, long))
        ∙ sym (take_all max_steps (steps_in sheet) (omega (arith, long, on.room)))
    | no n ↦
        let e : r.at ≡ max_steps = omega (arith, on.room) in
        on.same ∙ ap (λ (k : ℕ). take k (steps_in sheet)) e
  ]

  -- A call that gives nothing is at the end.
  pub at_end : (r after : Reader) → r.sheet.now ≡ sheet → MovesOn r None after → length sheet / 8 ≤ r.at
  at_end r after whole m = elim (dec_lt r.at (length sheet / 8)) [
    | yes h ↦ absurd (let t = rw (whole, lt-ltb r.at (length sheet / 8) h) at m.given_is in cc)
    | no n ↦ omega arith
  ]
