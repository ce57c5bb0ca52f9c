-- A sheet is read back to a plan that gives it, and no setting differs exactly where the two plans have the same settings and
-- so the same sheet. So the verdict is `as ordered` for the ordered plan's bytes only.
use Rattle.std.specs.Prelude.{◌≡◌, Bool, true, false, not, List, [], Option, Some, None, ℕ, eqb, take, drop, get_or, refl}
use mathlib.Core.Path.{sym, ap, ◌∙◌, subst}
use Rattle.base.specs.{declared.refusal.Refusal.Refusal, Answer.Answer, Answer.value, Answer.refusal, Choice.pick}
use native.Mathlib.Omega.{arith}
use borrow.Author.Tests.{eqb-true}
use lib.Seq.{take_at}
use Rattle.base.proofs.Bools.{either_way}
use Rattle.text.specs.Ascii.{ascii, same}
use Rattle.config.specs.declared.ClockConfig.{ClockConfig}
use Rattle.settings.specs.{declared.Settings.Settings, Settings.settings_of, Typed.Typed, LeastPlan.plan_of}
use Rattle.step.specs.Sheet.{encoded}
use Rattle.sheet.specs.{Steps.steps_of, Writer.sheet_bytes, Writer.refusal_in}
use Rattle.refusals.specs.Refusals.{Accepted}
use Rattle.sheet.proofs.Demand3.{answered}
use Rattle.readback.specs.Read.{read_of}
use Rattle.readback.proofs.{Right.written_read, Right.read-gives, Canonical.settings-kept}
use Rattle.wording.specs.Verdict.{Verdict, sheet_refused, order_refused, as_ordered, differs, by_bits, unless_refused, compared}
use Rattle.wording.specs.Verdict.{delivered, verdict_of, verdict_text, check_text}
use Rattle.wording.specs.{Differences.has_bit, Differences.differences_of, Parts.parts_of, Words.refused_lines}
use Rattle.wording.specs.{Differs.differs_text, Told.AsOrdered, Told.Named, Told.NamesThose}
use Rattle.wording.proofs.Differing.{none-differs, part-differs}

-- no other verdict has that text, because its first byte differs
only-as-ordered : (reading : ℕ) (v : Verdict) → verdict_text reading v ≡ ascii "as ordered\n" → v ≡ as_ordered
unfolding refused_lines differs_text
only-as-ordered reading (sheet_refused n) e =
    let first : ◌≡◌ {A = ℕ} 114 97 = ap (λ (l : List ℕ). get_or l 0 0) e in absurd (omega arith)
only-as-ordered reading (order_refused n) e =
    let first : ◌≡◌ {A = ℕ} 114 97 = ap (λ (l : List ℕ). get_or l 0 0) e in absurd (omega arith)
only-as-ordered reading as_ordered e = refl
only-as-ordered reading (differs mask p q) e =
    let first : ◌≡◌ {A = ℕ} 100 97 = ap (λ (l : List ℕ). get_or l 0 0) e in absurd (omega arith)

-- no bit is set
bits_none : (mask : ℕ) (p q : ClockConfig) → by_bits mask p q ≡ as_ordered → mask ≡ 0
bits_none mask p q e =
    either_way (eqb mask 0) (eqb-true mask 0)
    (λ h. let d : differs mask p q ≡ as_ordered = rw h at e in let z : ◌≡◌ {A = ℕ} 0 1 = cc in absurd (omega arith))

-- the same settings have the same sheet
same_bytes : (p q : ClockConfig) (reading : ℕ) → settings_of p reading ≡ settings_of q reading
    → sheet_bytes p reading ≡ sheet_bytes q reading
unfolding sheet_bytes
same_bytes p q reading e = ap (λ (s : Settings). encoded (steps_of reading s)) e

module _ (reading : ℕ) (q : ClockConfig) (ok : Accepted q reading) where
  accepted-bits : (p : ClockConfig)
      → compared reading p q ≡ by_bits (differences_of (settings_of p reading) (settings_of q reading)) p q
  unfolding compared
  accepted-bits p = rw ok

  -- if the verdict is `as ordered`, the bytes are the plan's
  is-sheet : (sheet : List ℕ) (a : Answer ClockConfig) → read_of sheet reading ≡ a → delivered reading a (value q) ≡ as_ordered
      → sheet_bytes q reading ≡ sheet
  is-sheet sheet (value p) read e =
      let bits : by_bits (differences_of (settings_of p reading) (settings_of q reading)) p q ≡ as_ordered =
      sym (accepted-bits p) ∙ e in
      let same = (none-differs p q reading reading).0 (bits_none _ p q bits) in
      sym (same_bytes p q reading same) ∙ (read-gives read).bytes
  is-sheet sheet (refusal n) read e = let z : ◌≡◌ {A = ℕ} 0 1 = cc in absurd (omega arith)

  -- the verdict on the plan's bytes is `as ordered`
  is_said : Typed (settings_of q reading) → delivered reading (read_of (sheet_bytes q reading) reading) (value q) ≡ as_ordered
  is_said typed =
      let p : ClockConfig = plan_of (settings_of q reading) in
      let none = (none-differs p q reading reading).1 (settings-kept q reading ok typed.fraction) in
      rw (written_read q reading typed ok) (accepted-bits p ∙ rw none)

pub as-ordered : AsOrdered
unfolding check_text verdict_of
as-ordered sheet reading plan before after r n call e =
    let a = answered plan reading before after r call n e in
    let bytes : take n after ≡ sheet_bytes plan reading =
    rw a.bytes (take_at (sheet_bytes plan reading) (drop n before) n (sym a.count)) in (
      (λ said. bytes ∙ is-sheet reading plan a.ok sheet (read_of sheet reading) refl (only-as-ordered reading _ said)),
      λ same.
          let said : delivered reading (read_of sheet reading) (value plan) ≡ as_ordered =
          rw (← same, bytes) (is_said reading plan a.ok call.typed) in
          ap (verdict_text reading) said,
    )

pub names-those : NamesThose
unfolding verdict_of compared
names-those sheet reading plan mask p q e = go (read_of sheet reading) refl e
  where
    bits : (p' : ClockConfig) (found : Option Refusal) (u : Bool) → read_of sheet reading ≡ value p'
        → unless_refused found
        (pick u as_ordered (differs (differences_of (settings_of p' reading) (settings_of plan reading)) p' plan))
        ≡ differs mask p q
        → Named sheet reading plan mask p q
    bits p' None true read e = absurd cc
    bits p' None false read e =
        let same-mask : mask ≡ differences_of (settings_of p' reading) (settings_of plan reading) = cc in
        let same-p : p ≡ p' = cc in
        let same-q : q ≡ plan = cc in
        record {
          read = read ∙ ap value (sym same-p);
          asked = same-q;
          bits = λ k h.
              ap (λ (m : ℕ). has_bit m k) same-mask
              ∙ subst
              (λ (x : ClockConfig). has_bit (differences_of (settings_of p' reading) (settings_of plan reading)) k
              ≡ not (same (get_or (parts_of (settings_of x reading)) k []) (get_or (parts_of (settings_of plan reading)) k [])))
              (sym same-p) (part-differs (settings_of p' reading) (settings_of plan reading) k h);
        }
    bits p' (Some reason) u read e = absurd cc

    go : (a : Answer ClockConfig) → read_of sheet reading ≡ a → delivered reading a (value plan) ≡ differs mask p q
        → Named sheet reading plan mask p q
    go (value p') read e = bits p' (refusal_in plan reading)
        (eqb (differences_of (settings_of p' reading) (settings_of plan reading)) 0) read e
    go (refusal n) read e = let z : ◌≡◌ {A = ℕ} 0 1 = cc in absurd (omega arith)
