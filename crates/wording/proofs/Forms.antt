-- A form is put byte by byte, and each step's form has a place for each of the kind's fields.
use Rattle.std.specs.Prelude.{◌≡◌, Bool, true, false, List, [], ◌∷◌, ◌++◌, ℕ, suc, ◌+◌, ◌≤◌, ◌<◌, ltb, length, drop, get_or, refl}
use mathlib.Core.Path.{ap}
use native.Mathlib.{Nat.suc-add, Nat.zero-add, Numerals.add-one}
use lib.{ListN.drop_of_length-le, Seq.drop-cons}
use Rattle.base.specs.Choice.{bit}
use Rattle.base.proofs.Writing.{put_more, put_none}
use Rattle.step.specs.{declared.kind.Kind.Kind, Layout.layout, Steps.step_of}
use Rattle.text.specs.{Ascii.ascii, Decimal.decimal_of, Hex.hex_of}
use Rattle.wording.specs.Form.{clock_rows, clock_name, mask_text, is_field, piece_of, formed_from, formed}
use Rattle.wording.specs.{Rows.row_text, Steps.step_form, Steps.step_text}
use Rattle.step.specs.declared.kind.Kind.TheVariants as kind

-- a form with the numbers after the first one
from-none : (form : List ℕ) (i : ℕ) → formed_from form [] (suc i) ≡ formed_from form [] i
from-none [] i = refl
from-none (c ∷ form) i = rw (suc-add, from-none form (i + bit (is_field c)))

from-next : (form : List ℕ) (n : ℕ) (ns : List ℕ) (i : ℕ) → formed_from form (n ∷ ns) (suc i) ≡ formed_from form ns i
from-next [] n ns i = refl
from-next (c ∷ form) n ns i = rw (suc-add, from-next form n ns (i + bit (is_field c)))

from-later : (b : Bool) (form ns : List ℕ) → formed_from form ns (bit b) ≡ formed form (drop (bit b) ns)
from-later false form ns = refl
from-later true form [] = from-none form 0
from-later true form (n ∷ ns) = from-next form n ns 0

-- a form at index i is a byte and the form from the next index on
pub form_step : (form ns : List ℕ) (i : ℕ) → i < length form
    → formed (drop i form) ns
    ≡ piece_of (get_or form i 0) (get_or ns 0 0) ++ formed (drop (i + 1) form) (drop (bit (is_field (get_or form i 0))) ns)
form_step form ns i h =
    rw (drop-cons form i 0 h, add-one, zero-add) (ap (λ (l : List ℕ). piece_of (get_or form i 0) (get_or ns 0 0) ++ l)
    (from-later (is_field (get_or form i 0)) (drop (suc i) form) ns))

pub form_end : (form ns : List ℕ) (i : ℕ) → length form ≤ i → formed (drop i form) ns ≡ []
form_end form ns i h = rw (drop_of_length-le form {i = i} h)

-- what a loop over a form rewrites by
pub ruleset steps = (put_more, put_none, form_step, form_end)

-- how many numbers a form takes, and how many fields of a kind are not of width 0
abbrev fields_in : List ℕ → ℕ
fields_in [] = 0
fields_in (c ∷ cs) = bit (is_field c) + fields_in cs

abbrev present : List ℕ → ℕ
present [] = 0
present (w ∷ ws) = bit (ltb 0 w) + present ws

-- the form of a kind has a place for each of its fields
pub every-field : (k : Kind) → fields_in (step_form k) ≡ present (layout k)
every-field (kind.Unknown number) = refl
every-field k = refl

-- a step of each kind of field, and one of no kind
pub worked-steps :
    (step_text (step_of kind.Reset 0x0FBCDBF 0 0 0 0) ≡ ascii "1 reset write: mask 0x0fbcdbf")
    × (step_text (step_of kind.ResusOff 0 0 0 0 0) ≡ ascii "4 resus off")
    × (step_text (step_of kind.PllPosts 0 6 2 0 0) ≡ ascii "23 PLL post dividers: W 0, post1 6, post2 2")
    × (step_text (step_of kind.Store 0 6500000 0 0 0) ≡ ascii "37 store: rosc 6500000 Hz")
    × (step_text (step_of (kind.Unknown 46) 0 0 0 0 0) ≡ ascii "no step")
unfolding step_text row_text piece_of mask_text hex_of clock_name clock_rows decimal_of
worked-steps = (refl, refl, refl, refl, refl)
