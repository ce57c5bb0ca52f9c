-- `step::packing::unpack_as` meets its contract: the layout gives the widths, `bits` each field and `low` the spare bits; the
-- kind is known by the precondition, so the test of the code decides (`unpack-known`), and it is that of the definition (`tested`).
use Rattle.std.specs.Prelude.{Bool, ◌&&◌, ◌≡◌, ℕ, ◌-◌, ◌/◌, ◌%◌, ◌^◌, eqb, refl}
use Rattle.step.specs.Steps.{kind_in, step_in, spare_in, storable}
use Rattle.step.specs.{declared.packing.Widths.Widths, Inside.Laid, Layout.widths}
use Rattle.step.proofs.Laws.{unpack-known}
use Rattle.step.proofs.packing.unpack_as.Goals as goal

tested : (word : ℕ) (w : Widths) → Laid (kind_in word) w → (f0 f1 spare : ℕ) (allowed : Bool)
    → f0 ≡ word / 2 ^ (58 - w.0) % 2 ^ w.0 → f1 ≡ word / 2 ^ (58 - w.0 - w.1) % 2 ^ w.1
    → spare ≡ word % 2 ^ (58 - w.0 - w.1 - w.2 - w.3 - w.4) → allowed ≡ storable (kind_in word) f0 f1
    → (eqb (spare_in word) 0 && storable (kind_in word) (step_in word).f0 (step_in word).f1) ≡ (eqb spare 0 && allowed)
unfolding spare_in step_in widths
tested word w laid f0 f1 spare allowed field0 field1 bits is =
    rw (is, bits, field1, field0, laid.at0, laid.at1, laid.at2, laid.at3, laid.at4) refl

pub returns-then-not-sound : goal.returns-then-not-sound
returns-then-not-sound c =
    let kind = c.requires.0 in
    let t = tested c.args.word _ (rw kind at c.layout-w.ensures) _ _ _ _ c.bits-f0.ensures.0 c.bits-f1.ensures.0 c.low-spare.ensures
    (rw kind at c.allowed.ensures) in
    rw (unpack-known c.args.word (rw kind at c.requires.1), t, c.if-not-sound.true)

pub returns : goal.returns
unfolding step_in kind_in widths
returns c =
    let w = c.layout-w.ensures in
    let kind = c.requires.0 in
    let t = tested c.args.word _ (rw kind at w) _ _ _ _ c.bits-f0.ensures.0 c.bits-f1.ensures.0 c.low-spare.ensures
    (rw kind at c.allowed.ensures) in
    rw (unpack-known c.args.word (rw kind at c.requires.1), t, c.if-not-sound.false)
    (rw (c.bits-f4.ensures.0, c.bits-f3.ensures.0, c.bits-f2.ensures.0, c.bits-f1.ensures.0)
    (rw (c.bits-f0.ensures.0, w.at0, w.at1, w.at2, w.at3, w.at4, kind)))
