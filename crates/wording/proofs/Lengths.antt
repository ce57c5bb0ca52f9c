-- The length of a step's text is bounded kind by kind: a field of w bits is printed with at most w * 3 / 10 + 1 digits, which a
-- computed test shows for each kind.
use Rattle.std.specs.Prelude.{◌≡◌, refl, Bool, true, false, ◌&&◌, List, [], ◌∷◌, ℕ, zero, suc, ◌+◌, ◌*◌, ◌/◌, ◌^◌, ◌≤◌, ◌<◌, min}
use Rattle.std.specs.Prelude.{eqb, leb, length, get_or}
use native.Mathlib.Omega.{arith}
use borrow.Author.Tests.{leb-true}
use lib.{ListN.length-append, Pow.pow_pos}
use Rattle.base.specs.Choice.{pick, bit}
use Rattle.std.proofs.lemmas.Bool.{and_parts}
use Rattle.text.specs.{Decimal.decimal_of, Hex.hex_of}
use Rattle.text.proofs.Decimals.{length-decimal}
use Rattle.step.specs.{declared.Step.Step, Layout.layout, Layout.width, Layout.widths, Steps.WellFormed, declared.kind.Kind.Kind}
use Rattle.wording.specs.Form.{clock_rows, clock_name, mask_text, is_field, piece_of, formed_from}
use Rattle.wording.specs.Steps.{step_form, step_text}
use Rattle.wording.proofs.Tables.{row-most}
use Rattle.step.specs.declared.kind.Kind.TheVariants as kind

-- the digits of a number of w bits
abbrev digits : ℕ → ℕ
digits w = suc (w * 3 / 10)

-- ---- a form

abbrev piece_most : ℕ → ℕ → ℕ
piece_most c w = pick (eqb c 35) (digits w) (pick (eqb c 36) 7 (pick (eqb c 64) 8 1))

abbrev most_from : List ℕ → List ℕ → ℕ → ℕ
most_from [] ws i = 0
most_from (c ∷ cs) ws i = piece_most c (get_or ws i 0) + most_from cs ws (i + bit (is_field c))

mask-most : (n : ℕ) → length (mask_text n) ≤ 7
unfolding mask_text hex_of
mask-most n = omega arith

clock-most : (n : ℕ) → length (clock_name n) ≤ 8
unfolding clock_name clock_rows
clock-most n = row-most clock_rows 8 (min n 10) refl

piece-most : (c n w : ℕ) → n < 10 ^ digits w → length (piece_of c n) ≤ piece_most c w
unfolding piece_of
piece-most c n w small = go (eqb c 35) (eqb c 36) (eqb c 64)
  where
    go : (p q r : Bool)
        → length (pick p (decimal_of n) (pick q (mask_text n) (pick r (clock_name n) (c ∷ []))))
        ≤ pick p (digits w) (pick q 7 (pick r 8 1))
    go true q r = (length-decimal (w * 3 / 10) n small).1
    go false true r = mask-most n
    go false false true = clock-most n
    go false false false = omega arith

formed-most : (cs ns ws : List ℕ) (i : ℕ) → ((j : ℕ) → get_or ns j 0 < 10 ^ digits (get_or ws j 0))
    → length (formed_from cs ns i) ≤ most_from cs ws i
formed-most [] ns ws i small = omega arith
formed-most (c ∷ cs) ns ws i small =
    let piece = piece-most c (get_or ns i 0) (get_or ws i 0) (small i) in
    let more = formed-most cs ns ws (i + bit (is_field c)) small in
    simp length-append (omega (arith, piece, more))

-- ---- the tables of widths and of forms

abbrev fit_in : List ℕ → Bool
fit_in [] = true
fit_in (w ∷ ws) = leb (2 ^ w) (10 ^ digits w) && fit_in ws

fit-in : (ws : List ℕ) (i : ℕ) → fit_in ws ≡ true → 2 ^ get_or ws i 0 ≤ 10 ^ digits (get_or ws i 0)
fit-in [] i t = omega arith
fit-in (w ∷ ws) zero t = leb-true (2 ^ w) (10 ^ digits w) (and_parts (leb (2 ^ w) (10 ^ digits w)) (fit_in ws) t).0
fit-in (w ∷ ws) (suc i) t = fit-in ws i (and_parts (leb (2 ^ w) (10 ^ digits w)) (fit_in ws) t).1

width_fits : (k : Kind) (i : ℕ) → 2 ^ width k i ≤ 10 ^ digits (width k i)
width_fits k i = fit-in (layout k) i (all_fit k)
  where
    all_fit : (k : Kind) → fit_in (layout k) ≡ true
    all_fit (kind.Unknown number) = refl
    all_fit k = refl

-- a step's text
abbrev pub step_most : ℕ
step_most = 54

form-short : (k : Kind) → most_from (step_form k) (layout k) 0 ≤ step_most
form-short k = leb-true (most_from (step_form k) (layout k) 0) step_most (short k)
  where
    short : (k : Kind) → leb (most_from (step_form k) (layout k) 0) step_most ≡ true
    short (kind.Unknown number) = refl
    short k = refl

below : (k : Kind) (i n : ℕ) → n < 2 ^ width k i → n < 10 ^ digits (width k i)
below k i n small = omega (arith, small, width_fits k i)

module _ (s : Step) (w : WellFormed s) where
  fields-small : (j : ℕ) → get_or (s.f0 ∷ s.f1 ∷ s.f2 ∷ s.f3 ∷ s.f4 ∷ []) j 0 < 10 ^ digits (width s.kind j)
  unfolding widths
  fields-small zero = below s.kind 0 s.f0 w.fill.1.0
  fields-small (suc zero) = below s.kind 1 s.f1 w.fill.1.1.0
  fields-small (suc (suc zero)) = below s.kind 2 s.f2 w.fill.1.1.1.0
  fields-small (suc (suc (suc zero))) = below s.kind 3 s.f3 w.fill.1.1.1.1.0
  fields-small (suc (suc (suc (suc zero)))) = below s.kind 4 s.f4 w.fill.1.1.1.1.1.0
  fields-small (suc (suc (suc (suc (suc j))))) =
      let i : ℕ = suc (suc (suc (suc (suc j)))) in below s.kind i 0 (pow_pos (width s.kind i))

  pub step-most : length (step_text s) ≤ step_most
  unfolding step_text
  step-most =
      let ns : List ℕ = s.f0 ∷ s.f1 ∷ s.f2 ∷ s.f3 ∷ s.f4 ∷ [] in
      let long = formed-most (step_form s.kind) ns (layout s.kind) 0 fields-small in
      omega (arith, long, form-short s.kind)
