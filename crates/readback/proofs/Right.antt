-- The answer of the code is the one that the law states, and by `readback-one` no other answer meets the law.
use Rattle.std.specs.Prelude.{Option, Some, None, ◌≡◌, refl, Bool, true, false, List, ◌++◌, ℕ, ◌/◌, ◌%◌, ◌^◌, ◌≤◌, ◌<◌, length}
use Rattle.std.specs.Prelude.{get_or, ltb}
use mathlib.Core.Path.{sym, ap, ◌∙◌}
use native.Mathlib.{Nat.mod-lt, Omega.arith}
use lib.Pow.{pow_pos}
use borrow.Author.Tests.{ltb-true, ltb-false, le-leb}
use Rattle.base.specs.{Choice.pick, Answer.Answer, Answer.value}
use Rattle.base.proofs.Bools.{either_way}
use Rattle.std.proofs.lemmas.Bool.{and_parts}
use Rattle.text.proofs.Same.{same_true, same_refl}
use Rattle.readback.proofs.{Canonical.plan-in, Canonical.gives-in, Canonical.back_in, Accepting.none-held, Unique.readback-one}
use Rattle.config.specs.declared.{ClockConfig.ClockConfig, RoscConfig.RoscConfig, RtcClkConfig.RtcClkConfig}
use Rattle.config.specs.{ChipSettings.chip_of, ChipSettings.FractionFits, Codes.chip_from}
use Rattle.chip.specs.{declared.Chip.Chip, declared.Chip.TheVariants.Rp2040, declared.Chip.TheVariants.Rp235x, Chips.facts_of}
use Rattle.settings.specs.Settings.{crystal_of, ring_hz, settings_of}
use Rattle.settings.specs.{declared.Crystal.Crystal, declared.Settings.Settings, Frequencies.sources_of, Typed.RtcTyped}
use Rattle.settings.specs.{Typed.Typed, LeastPlan.xosc_for, LeastPlan.plan_of}
use Rattle.refusals.proofs.Accepted.{accepted-by}
use Rattle.sheet.proofs.{Parts.ring-source, Demand3.same-sheets}
use Rattle.refusals.specs.Refusals.{Accepted}
use Rattle.step.specs.Kinds.{kinds, kind_of, is}
use Rattle.step.specs.{declared.Step.Step, Sheet.encoded, Steps.pack_of, Layout.widths, Bytes.bytes8}
use Rattle.step.proofs.Sheets.{length-encoded}
use Rattle.sheet.specs.{Steps.mark_steps, Steps.head_part, Steps.steps_of, Writer.sheet_bytes, Writer.refusal_in}
use Rattle.readback.specs.Law.{chip_in, top_reading, Gives, ReadBack, over, none, back}
use Rattle.readback.specs.{Cut.cut_ring, Cut.cut_crystal, Cut.cut_rtc, Cut.cut_settings, Read.plan_in, Read.gives, Read.read_of}
use Rattle.step.specs.declared.kind.Kind.TheVariants as kind

-- Truncated numbers fit their types.
few : (w x : ℕ) → x % 2 ^ w < 2 ^ w
few w x = mod-lt x (pow_pos w)

ring-typed : (o : Option RoscConfig) → ring_hz (cut_ring o) < 2 ^ 32
ring-typed (Some r) = few 32 r.hz
ring-typed None = omega arith

crystal-typed : (r : Option RoscConfig) (o : Option Crystal) → (sources_of r (crystal_of (xosc_for (cut_crystal o)))).xosc < 2 ^ 32
unfolding sources_of
crystal-typed r (Some x) = few 32 x.hz
crystal-typed r None = omega arith

rtc-typed : (o : Option RtcClkConfig) → RtcTyped (cut_rtc o)
rtc-typed (Some r) = few 8 r.div_frac
rtc-typed None = tt

chip-typed : (chip : Chip) (code whole fraction : ℕ) (o : Option RtcClkConfig)
    → let b = chip_of (chip_from chip code whole (fraction % (facts_of chip).scale) (cut_rtc o)) in FractionFits b × RtcTyped b.rtc
chip-typed Rp2040 code whole fraction o = (few 8 fraction, rtc-typed o)
chip-typed Rp235x code whole fraction o = (few 16 fraction, tt)

plan-typed : (s : Settings) (reading : ℕ) → Typed (settings_of (plan_of (cut_settings s)) reading)
unfolding plan_of cut_settings
plan-typed s reading =
    let chip = chip-typed s.chip.model _ _ _ s.chip.rtc in
    record {
      rosc = rw (ring-source (cut_ring s.rosc) (crystal_of (xosc_for (cut_crystal s.xosc)))) (ring-typed s.rosc);
      xosc = crystal-typed (cut_ring s.rosc) s.xosc;
      fraction = chip.0;
      rtc = chip.1;
    }

module _ (sheet : List ℕ) (reading : ℕ) where
  typed-in : Typed (settings_of (plan_in sheet reading) reading)
  unfolding plan_in
  typed-in = plan-typed _ reading

  gives-true : (p : ClockConfig) → Typed (settings_of p reading) → gives sheet reading p ≡ true → Gives sheet reading p
  unfolding gives
  gives-true p t e =
      let both = and_parts _ _ e in
      record {
        typed = t;
        accepted = none-held (refusal_in p reading) both.0;
        bytes = same_true (sheet_bytes p reading) sheet both.1;
      }

  true-gives : (p : ClockConfig) → Gives sheet reading p → gives sheet reading p ≡ true
  unfolding gives
  true-gives p g = rw (g.accepted, g.bytes) (same_refl sheet)

  -- The answer meets the law.
  pub read_right : ReadBack sheet reading (read_of sheet reading)
  unfolding read_of
  read_right =
      let p = plan_in sheet reading in
      either_way (ltb (top_reading sheet) reading) (λ e. rw e (over (ltb-true (top_reading sheet) reading e)))
      (λ e.
      let few = ltb-false (top_reading sheet) reading e in
      either_way (gives sheet reading p) (λ h. rw (e, h) (back p few (back_in (gives-true p typed-in h))))
      (λ h.
      rw (e, h) (none few (λ q g. let t : gives sheet reading p ≡ true = true-gives p (gives-in q g) in cc))))

  -- No other answer meets the law.
  pub read_only : (a : Answer ClockConfig) → ReadBack sheet reading a → a ≡ read_of sheet reading
  read_only a l = readback-one l read_right

marked : Chip → Bool
marked Rp2040 = false
marked Rp235x = true

-- The first byte of a sheet has the kind of its first step.
first_kind : (chip : Chip) (ys : List Step)
    → is (kind_of (get_or (encoded (mark_steps chip ++ (head_part chip ++ ys))) 0 0 / 4)) kind.ChipMark ≡ marked chip
unfolding head_part encoded pack_of widths kinds bytes8 marked
first_kind Rp2040 ys = refl
first_kind Rp235x ys = refl

one-step : (chip : Chip) (ys : List Step) → 0 < length (mark_steps chip ++ (head_part chip ++ ys))
unfolding head_part
one-step Rp2040 ys = omega arith
one-step Rp235x ys = omega arith

by-mark : (chip : Chip) → pick (marked chip) Rp235x Rp2040 ≡ chip
unfolding marked
by-mark Rp2040 = refl
by-mark Rp235x = refl

mark-there : (chip : Chip) (ys : List Step) → chip_in (encoded (mark_steps chip ++ (head_part chip ++ ys))) ≡ chip
mark-there chip ys =
    let xs : List Step = mark_steps chip ++ (head_part chip ++ ys) in
    rw (le-leb 8 (length (encoded xs)) (omega (arith, length-encoded xs, one-step chip ys)), first_kind chip ys) (by-mark chip)

chip-there : (reading : ℕ) (s : Settings) → chip_in (encoded (steps_of reading s)) ≡ s.chip.model
unfolding steps_of
chip-there reading s = mark-there s.chip.model _

top-there : {sheet : List ℕ} {reading : ℕ} {q : ClockConfig} → Gives sheet reading q
    → top_reading sheet ≡ (facts_of (chip_of q.chip).model).top_reading
unfolding top_reading sheet_bytes
top-there {sheet} {reading} {q} g =
    ap (λ (xs : List ℕ). (facts_of (chip_in xs)).top_reading) (sym g.bytes)
    ∙ ap (λ (k : Chip). (facts_of k).top_reading) (chip-there reading (settings_of q reading))

-- The sheet of an accepted plan is never refused with 18.
in_reach : {sheet : List ℕ} {reading : ℕ} {q : ClockConfig} → Gives sheet reading q → reading ≤ top_reading sheet
in_reach {sheet} {reading} {q} g =
    let s : Settings = settings_of q reading in
    rw (top-there g) (ltb-false (facts_of s.chip.model).top_reading reading (accepted-by s reading g.accepted 18))

-- The sheet of an accepted plan is read back to the smallest plan with its settings.
pub written_read : (q : ClockConfig) (reading : ℕ) → Typed (settings_of q reading) → Accepted q reading
    → read_of (sheet_bytes q reading) reading ≡ value (plan_of (settings_of q reading))
written_read q reading t ok =
    let g : Gives (sheet_bytes q reading) reading q = record { typed = t; accepted = ok; bytes = refl } in
    sym (read_only (sheet_bytes q reading) reading _ (back _ (in_reach g) (back_in (gives-in q g)))) ∙ ap value (plan-in g)

-- A plan that is answered gives the sheet.
pub read-gives : {sheet : List ℕ} {reading : ℕ} {p : ClockConfig} → read_of sheet reading ≡ value p → Gives sheet reading p
read-gives {sheet} {reading} {p} e = of-back (rw e at (read_right sheet reading))
  where
    of-back : ReadBack sheet reading (value p) → Gives sheet reading p
    of-back (back p h b) = b.gives

-- So a sheet that differs in any byte is read back to a plan with other settings, or refused: plans with the same settings come
-- from the same bytes.
pub other-bytes : (sheet other : List ℕ) (reading : ℕ) (p q : ClockConfig)
    → read_of sheet reading ≡ value p → read_of other reading ≡ value q
    → settings_of p reading ≡ settings_of q reading → sheet ≡ other
other-bytes sheet other reading p q e f s =
    let g = read-gives e in
    let h = read-gives f in
    sym g.bytes ∙ (same-sheets p q reading g.typed h.typed g.accepted h.accepted).1 s ∙ h.bytes
