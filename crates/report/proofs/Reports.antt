-- Every report is eleven lines for an accepted plan or refusal 24; 11 bytes of the input decide it, and 256 bytes are
-- enough for it.
use mathlib.Core.{List.List, List.[], List.◌∷◌, List.◌++◌}
use mathlib.Core.{Logic.◌⊎◌, Logic.inl, Logic.inr, Path.◌≡◌, Path.ap, Path.◌∙◌}
use Prim.Native.{Nat.ℕ, Nat.◌+◌, Nat.◌≤◌, String.String}
use native.Mathlib.Omega.{arith}
use lib.{Count.ones, Count.ones-le, ListN.length, ListN.take, ListN.length-append}
use Rattle.base.{specs.Answer.value, proofs.Bools.either_way}
use Rattle.text.specs.{Ascii.ascii, Decimal.value_of, Decimal.is_number, Decimal.number_of, Words.up_to, Words.line_number_of}
use Rattle.text.proofs.{Decimals.length-decimal, Lines.line-start}
use Rattle.config.specs.declared.ClockConfig.{ClockConfig}
use Rattle.settings.specs.{Settings.settings_of, Frequencies.ten_of}
use Rattle.settings.proofs.Small.{Hz}
use Rattle.refusals.proofs.Stored.{EachHz, ten-small}
use Rattle.sheet.proofs.Parts.{masks}
use Rattle.sheet.specs.Steps.{release_mask}
use Rattle.text.specs.Reply.{refused_line}
use Rattle.text.proofs.Refused.{refused-most}
use Rattle.report.specs.Lines.{line_of, lines_of, report_names}
use Rattle.report.specs.Report.{reading, printed_numbers, plan_report, planned_report, target_report, report_of}
use Rattle.report.proofs.Systems.{Served, system-accepted}

-- an input that has a target: its plan is accepted, and the report is its eleven lines
pub record Reported (input : List ℕ) : Type 0 where
  pub target : ℕ
  pub plan : ClockConfig
  pub read : line_number_of input ≡ value target
  pub served : Served target plan
  pub lines : report_of input ≡ lines_of report_names (printed_numbers (settings_of plan reading))

-- every other input is refused with 24
pub report-cases : (input : List ℕ) → (report_of input ≡ refused_line 24) ⊎ Reported input
unfolding report_of plan_report number_of
report-cases input =
    either_way (is_number (up_to 10 input))
    (λ e.
    let hz : ℕ = value_of (up_to 10 input) in
    let read : line_number_of input ≡ value hz = rw e in
    let s = system-accepted hz in
    inr
    (record {
      target = hz;
      plan = s.0;
      read = read;
      served = s.1;
      lines = ap target_report read ∙ ap planned_report s.1.planned ∙ rw s.1.accepted;
    })) (λ e. inl (rw e))

-- 11 bytes of the input are enough to read
pub report-start : (n : ℕ) (input : List ℕ) → 11 ≤ n → report_of (take n input) ≡ report_of input
unfolding report_of
report-start n input h = ap target_report (line-start n input h)

-- ---- 256 bytes are enough for every report

pub line-most : (name : List ℕ) (n : ℕ) → Hz n → length (line_of name n) ≤ length name + 12
unfolding line_of
line-most name n h =
    let digits = length-decimal 9 n (omega arith) in
    simp length-append (omega (arith, digits.1))

room : List String → ℕ
room [] = 0
room (name ∷ names) = length (ascii name) + 12 + room names

lines-most : (names : List String) (ns : List ℕ) → EachHz ns → length (lines_of names ns) ≤ room names
unfolding room
lines-most [] ns h = omega arith
lines-most (name ∷ names) [] h = omega arith
lines-most (name ∷ names) (n ∷ ns) h =
    simp length-append (omega (arith, line-most (ascii name) n h.0, lines-most names ns h.1))

each_append : (xs ys : List ℕ) → EachHz xs → EachHz ys → EachHz (xs ++ ys)
each_append [] ys h k = k
each_append (x ∷ xs) ys h k = (h.0, each_append xs ys h.1 k)

pub report-most : (input : List ℕ) → length (report_of input) ≤ 256
unfolding room release_mask
report-most input = go (report-cases input)
  where
    go : (report_of input ≡ refused_line 24) ⊎ Reported input → length (report_of input) ≤ 256
    go (inl e) = rw e (omega (arith, refused-most 1 24 (omega arith)))
    go (inr r) =
        let s = settings_of r.plan reading in
        let mask : ℕ = release_mask s.chip.model s.peri s.usb s.adc s.chip.rtc in
        let few : ones mask ≤ 25 = ones-le 25 mask (omega (arith, (masks s.chip.model).2)) in
        let each = each_append (ten_of s) (ones mask ∷ [])
        (ten-small s reading r.served.typed r.served.accepted) (omega arith, tt) in
        rw r.lines (omega (arith, lines-most report_names (printed_numbers s) each))
