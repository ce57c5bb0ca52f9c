-- Demand 3 is shown for the definitions, then for any two calls of the writer from its contract alone. The settings of an
-- accepted plan are read back from its steps, and its steps from its bytes.
use Rattle.std.specs.Prelude.{Option, Some, None, Result, ◌≡◌, refl, ◌↔◌, List, ◌++◌, ℕ, ◌≤◌, ◌<◌, length, drop, get_or}
use Rattle.base.specs.{declared.refusal.Refusal.Refusal, Answer.Answer, Answer.value, Answer.refusal, Answer.answer_of}
use mathlib.Core.Path.{sym, ap, ◌∙◌}
use native.Mathlib.{Omega.arith, Nat.lt_of_not-le, Decide.dec_le}
use lib.{ListN.get_or-append, Seq.ext_get_or}
use Rattle.step.specs.Sheet.{encoded}
use Rattle.step.proofs.Sheets.{encoded-injective}
use Rattle.config.specs.{declared.ClockConfig.ClockConfig, ChipSettings.chip_of}
use Rattle.settings.specs.{declared.Settings.Settings, Settings.settings_of, Typed.Typed}
use Rattle.refusals.specs.Refusals.{Accepted}
use Rattle.sheet.specs.Writer.{sheet_bytes, refusal_in, init_answer, InitCall}
use Rattle.sheet.specs.{Steps.steps_of, Read.settings_from, Demand3.SameUpTo, Demand3.Demand3}
use Rattle.sheet.proofs.{Sheets.settings-back, Sheets.steps-formed, Ends.accepted, Ends.refused-answer, Ends.short-answer}

-- Two accepted plans have equal bytes exactly when their settings are equal.
pub same-sheets : (p q : ClockConfig) (reading : ℕ) → Typed (settings_of p reading) → Typed (settings_of q reading)
    → Accepted p reading → Accepted q reading
    → (sheet_bytes p reading ≡ sheet_bytes q reading) ↔ (settings_of p reading ≡ settings_of q reading)
unfolding sheet_bytes
same-sheets p q reading tp tq ep eq = (
  (λ e.
      sym (settings-back p reading ep)
      ∙ ap (settings_from reading)
      (encoded-injective (steps_of reading (settings_of p reading)) (steps_of reading (settings_of q reading))
      (steps-formed p reading ep tp) (steps-formed q reading eq tq) e)
      ∙ settings-back q reading eq),
  λ e. ap (λ (s : Settings). encoded (steps_of reading s)) e,
)

-- So the bytes of a sheet determine its chip.
pub one-chip : (p q : ClockConfig) (reading : ℕ) → Typed (settings_of p reading) → Typed (settings_of q reading)
    → refusal_in p reading ≡ None → refusal_in q reading ≡ None
    → sheet_bytes p reading ≡ sheet_bytes q reading → (chip_of p.chip).model ≡ (chip_of q.chip).model
one-chip p q reading tp tq ep eq e =
    ap (λ (s : Settings). s.chip.model) ((same-sheets p q reading tp tq ep eq).0 e)

-- ---- calls of the writer

never : {m n : ℕ} → ◌≡◌ {A = Answer ℕ} (refusal m) (value n) → ⊥
never e = cc

-- After a call that answers a length the plan is accepted, the length is the sheet's, and the buffer starts with the sheet.
pub record Answered (p : ClockConfig) (reading : ℕ) (before : List ℕ) (n : ℕ) (after : List ℕ) : Type 0 where
  pub ok : Accepted p reading
  pub room : length (sheet_bytes p reading) ≤ length before
  pub count : n ≡ length (sheet_bytes p reading)
  pub bytes : after ≡ sheet_bytes p reading ++ drop n before

module _ (p : ClockConfig) (reading : ℕ) (b b' : List ℕ) (r : Result ℕ Refusal) (o : InitCall p reading b r b') where
  -- A call with an accepted plan and room for its sheet answers the length.
  pub answers : Accepted p reading → length (sheet_bytes p reading) ≤ length b
      → answer_of r ≡ value (length (sheet_bytes p reading))
  answers h l = o.answer ∙ sym (accepted p reading b o.typed h l).answer

  pub answered : (n : ℕ) → answer_of r ≡ value n → Answered p reading b n b'
  answered n e = go (refusal_in p reading) refl
    where
      -- A refusal answers no length.
      unlike : {k : ℕ} → init_answer p reading b ≡ refusal k → ⊥
      unlike other = never (sym other ∙ sym o.answer ∙ e)

      written : Accepted p reading → length (sheet_bytes p reading) ≤ length b → Answered p reading b n b'
      written h l =
          let same : n ≡ length (sheet_bytes p reading) = let a = answers h l in cc in
          let end = accepted p reading b o.typed h l in
          record { ok = h; room = l; count = same; bytes = rw same (o.bytes ∙ sym end.bytes) }

      fits : Accepted p reading → Answered p reading b n b'
      fits h =
          elim (dec_le (length (sheet_bytes p reading)) (length b))
          [ yes l ↦ written h l | no l ↦ absurd (unlike (short-answer p reading b o.typed h (lt_of_not-le l))) ]

      go : (found : Option Refusal) → refusal_in p reading ≡ found → Answered p reading b n b'
      go None h = fits h
      go (Some reason) h = absurd (unlike (refused-answer p reading b o.typed h))

-- Byte i of the buffer after such a call is byte i of the sheet.
byte_at : {p : ClockConfig} {reading : ℕ} {b : List ℕ} {n : ℕ} {b' : List ℕ} → Answered p reading b n b'
    → (i : ℕ) → i < n → get_or b' i 0 ≡ get_or (sheet_bytes p reading) i 0
byte_at {p} {reading} {b} {n} {b'} a i h =
    rw a.bytes (get_or-append (sheet_bytes p reading) (drop n b) 0 i (let same = a.count in omega arith))

pub demand-3 : Demand3
demand-3 p q reading b b' c c' r s m n op er oq es = (
  (λ e. d.0 (ext_get_or 0 (sheet_bytes p reading) (sheet_bytes q reading) (sym u.count ∙ e.0 ∙ v.count) (bytes e))),
  λ e. (u.count ∙ ap length (d.1 e) ∙ sym v.count, left e),
)
  where
    u : Answered p reading b m b'
    u = answered p reading b b' r op m er

    v : Answered q reading c n c'
    v = answered q reading c c' s oq n es

    d : (sheet_bytes p reading ≡ sheet_bytes q reading) ↔ (settings_of p reading ≡ settings_of q reading)
    d = same-sheets p q reading op.typed oq.typed u.ok v.ok

    bytes : (m ≡ n) × SameUpTo m b' c'
        → (i : ℕ) → i < length (sheet_bytes p reading) → get_or (sheet_bytes p reading) i 0 ≡ get_or (sheet_bytes q reading) i 0
    bytes e i h =
        let in_p : i < m = rw u.count h in
        sym (byte_at u i in_p) ∙ e.1 i in_p ∙ byte_at v i (rw (← e.0) in_p)

    left : settings_of p reading ≡ settings_of q reading → SameUpTo m b' c'
    left e i h =
        let in-q : i < n = rw (v.count, ← d.1 e, ← u.count) h in
        byte_at u i h ∙ ap (λ (l : List ℕ). get_or l i 0) (d.1 e) ∙ sym (byte_at v i in-q)
