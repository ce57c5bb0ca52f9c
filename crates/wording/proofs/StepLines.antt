-- A sheet is listed line by line: the record holds between two lines, and at the end the whole listing is put.
use Rattle.std.specs.Prelude.{Option, ◌≡◌, true, false, List, [], ◌++◌, ℕ, suc, ◌+◌, ◌-◌, ◌*◌, ◌≤◌, ◌<◌, min, length, take, drop}
use mathlib.Core.Path.{sym, ap, ◌∙◌}
use native.Mathlib.{Decide.dec_le, Omega.arith}
use borrow.Author.Tests.{le-leb}
use Rattle.std.proofs.{lemmas.Bool.lt-leb, lemmas.List.take_min}
use lib.ListN.{length-take, length-drop, drop_of_length-le}
use lib.Seq.{take_all, drop-drop, drop-append_seam, take-append_seam}
use Rattle.base.specs.{Choice.pick, Writing.Written, Writing.puts}
use Rattle.base.proofs.Writing.{put_more, put_none}
use Rattle.step.specs.Access.{has_eight, read_at}
use Rattle.readback.specs.Law.{chip_in}
use Rattle.wording.specs.declared.steps.Known.{Known}
use Rattle.chip.specs.declared.Chip.{Chip}
use Rattle.wording.specs.StepLines.{found_in, is_step, found_at, line_text, line_at, lines_from, lines_of, steps_text}

-- what is found in the eight bytes at a position
eight-there : (sheet : List ℕ) (i : ℕ) → has_eight (take 8 (drop (8 * i) sheet)) 0 ≡ has_eight sheet (8 * i)
eight-there sheet i =
    let long : length (take 8 (drop (8 * i) sheet)) ≡ min 8 (length sheet - 8 * i) = simp (length-take, length-drop) in
    elim (dec_le (8 * i + 8) (length sheet)) [
      | yes h ↦
          rw (
            le-leb (0 + 8) (length (take 8 (drop (8 * i) sheet))) (omega (arith, long)),
            le-leb (8 * i + 8) (length sheet) h,
          )
      | no n ↦
          rw (
            lt-leb (0 + 8) (length (take 8 (drop (8 * i) sheet))) (omega (arith, long)),
            lt-leb (8 * i + 8) (length sheet) (omega arith),
          )
    ]

found-here : (c : Chip) (sheet : List ℕ) (i : ℕ) → found_in c (read_at (take 8 (drop (8 * i) sheet)) 0) ≡ found_at c sheet i
unfolding found_at read_at
found-here c sheet i =
    let few : length (take 8 (drop (8 * i) sheet)) ≤ 8 = omega (arith, length-take 8 (drop (8 * i) sheet)) in
    rw (eight-there sheet i, take_all 8 (take 8 (drop (8 * i) sheet)) few)

-- what is left of the sheet at a position; the lines before it are put, and with the lines that are left all are
pub record Listed (c : Chip) (sheet : List ℕ) (i size : ℕ) (rest : List ℕ) (out whole : Written ℕ) : Type 0 where
  pub eight : size ≡ 8
  pub here : rest ≡ drop (8 * i) sheet
  pub text : puts out (lines_from c sheet i (lines_of sheet - i)) ≡ puts whole (steps_text sheet)

pub listed-none : (c : Chip) (sheet : List ℕ) (i size : ℕ) (rest : List ℕ) (out : Written ℕ) → c ≡ chip_in sheet → i ≡ 0
    → size ≡ 8 → rest ≡ sheet → Listed c sheet i size rest out out
unfolding steps_text
listed-none c sheet i size rest out e f g h =
    let all : lines_of sheet - 0 ≡ lines_of sheet = omega arith in
    record { eight = g; here = rw (f, h); text = rw (f, ← e, all) }

module _ {c : Chip} {sheet : List ℕ} {i size : ℕ} {rest : List ℕ} {out whole : Written ℕ}
    (l : Listed c sheet i size rest out whole) where
  rest-long : length rest ≡ length sheet - 8 * i
  rest-long = ap length l.here ∙ length-drop (8 * i) sheet

  -- the bytes of the position
  bytes-there : (bytes others : List ℕ) → rest ≡ bytes ++ others → length bytes ≡ min size (length rest)
      → bytes ≡ take 8 (drop (8 * i) sheet)
  bytes-there bytes others e long =
      let n : length bytes ≡ min 8 (length rest) = omega (arith, long, l.eight) in
      sym (take-append_seam bytes others) ∙ ap (take (length bytes)) (sym e)
      ∙ ap (λ (k : ℕ). take k rest) n ∙ take_min 8 rest ∙ ap (take 8) l.here

  others-there : (bytes others : List ℕ) → rest ≡ bytes ++ others → length bytes ≡ min size (length rest)
      → others ≡ drop (8 * suc i) sheet
  others-there bytes others e long =
      let behind : others ≡ drop (length bytes) rest =
      sym (drop-append_seam bytes others) ∙ ap (drop (length bytes)) (sym e) in
      elim (dec_le 8 (length rest)) [
        | yes h ↦
            let n : length bytes ≡ 8 = omega (arith, long, l.eight) in
            let on : 8 * i + 8 ≡ 8 * suc i = omega arith in
            behind ∙ ap (λ (k : ℕ). drop k rest) n ∙ ap (drop 8) l.here ∙ drop-drop 8 (8 * i) sheet
            ∙ ap (λ (k : ℕ). drop k sheet) on
        | no h ↦
            behind ∙ drop_of_length-le rest (omega (arith, long, l.eight))
            ∙ sym (drop_of_length-le sheet {i = 8 * suc i} (omega (arith, rest-long)))
      ]

  -- an iteration puts the line of the position
  one-line : (bytes others : List ℕ) (after : Written ℕ) (found : Option Known)
      → rest ≡ bytes ++ others → length bytes ≡ min size (length rest) → 0 < length rest
      → found ≡ found_in c (read_at bytes 0) → after ≡ puts out (line_text c i bytes found)
      → puts after (pick (is_step found) (lines_from c sheet (suc i) (lines_of sheet - suc i)) []) ≡ puts whole (steps_text sheet)
  unfolding line_at lines_of
  one-line bytes others after found e long some f g =
      let here : bytes ≡ take 8 (drop (8 * i) sheet) = bytes-there bytes others e long in
      let known : found ≡ found_at c sheet i = f ∙ ap (λ (bs : List ℕ). found_in c (read_at bs 0)) here ∙ found-here c sheet i in
      let one : lines_of sheet - i ≡ suc (lines_of sheet - suc i) = omega (arith, rest-long) in
      rw (g, put_more, known, here) (rw one at l.text)

  -- after a step the lines go on
  pub listed-next : (bytes others : List ℕ) (next size' : ℕ) (after : Written ℕ) (found : Option Known)
      → next ≡ i + 1 → size' ≡ size → rest ≡ bytes ++ others → length bytes ≡ min size (length rest) → 0 < length rest
      → found ≡ found_in c (read_at bytes 0) → after ≡ puts out (line_text c i bytes found) → is_step found ≡ true
      → Listed c sheet next size' others after whole
  listed-next bytes others next size' after found n s e long some f g step =
      let line = one-line bytes others after found e long some f g in
      let whole-step : next ≡ suc i = omega arith in
      record {
        eight = s ∙ l.eight;
        here = rw whole-step (others-there bytes others e long);
        text = rw whole-step (rw step at line);
      }

  -- after what is no step nothing is left
  pub listed-last : (bytes others : List ℕ) (after : Written ℕ) (found : Option Known)
      → rest ≡ bytes ++ others → length bytes ≡ min size (length rest) → 0 < length rest
      → found ≡ found_in c (read_at bytes 0) → after ≡ puts out (line_text c i bytes found) → is_step found ≡ false
      → after ≡ puts whole (steps_text sheet)
  listed-last bytes others after found e long some f g step =
      sym (put_none after) ∙ (rw step at (one-line bytes others after found e long some f g))

  pub listed-all : length rest ≡ 0 → out ≡ puts whole (steps_text sheet)
  unfolding lines_of
  listed-all none =
      let end : lines_of sheet - i ≡ 0 = omega (arith, rest-long) in sym (put_none out) ∙ (rw end at l.text)
