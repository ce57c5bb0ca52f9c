-- An answer as one 64-bit number, as bindings/c/dizbaral.h lists the ranges.
use Rattle.std.specs.Prelude.{Option, Some, None, option_and_then, unwrap_or, ◌≡◌, List, [], ◌∷◌, ℕ, ◌+◌, ◌*◌, eqb, leb}
use Rattle.std.specs.Option.{option_map_or}
use Rattle.base.specs.{Choice.pick, Answer.Answer, Answer.value, Answer.refusal}
use Rattle.pll.specs.declared.PllConfig.{PllConfig}
use Rattle.margin.specs.declared.Margin.{Margin}
use Rattle.chip.specs.Voltage.{code_of, bod_of, core_voltage_of}
use Rattle.chip.specs.declared.Chip.{Chip, TheVariants.Rp2040, TheVariants.Rp235x}
use Rattle.divider.specs.declared.GpoutDiv.TheVariants.{Rp2040 as on2040, Rp235x as on235x}
use Rattle.divider.specs.{declared.GpoutDiv.GpoutDiv, Gpout.gpout_in}

-- 2 ^ 48: a value has a number below it, refusal n has the number 2 ^ 48 + n
abbrev pub refusals : ℕ
refusals = 281474976710656

abbrev pub answer_number : {A : Type 0} → (A → ℕ) → Answer A → ℕ
answer_number f (value v) = f v
answer_number f (refusal n) = refusals + n

-- what a call leaves of what it was lent: f of a value, while a refusal changes nothing
abbrev pub left_by : {A B : Type 0} → (A → B → B) → Answer A → B → B
left_by f (value v) before = f v before
left_by f (refusal n) before = before

-- f of a value; none for a refusal
abbrev pub of_value : {A B : Type 0} → (A → B) → Answer A → Option B
of_value f (value v) = Some (f v)
of_value f (refusal n) = None

-- 2 ^ 49: the numbers given are of no chip, plan, runner, board or slots
abbrev pub malformed : ℕ
malformed = 562949953421312

-- the number and what is left where the numbers given may be malformed
abbrev pub given_number : {A : Type 0} → (A → ℕ) → Option A → ℕ
given_number f given = option_map_or f given malformed

abbrev pub left_given : {A B : Type 0} → (A → B → B) → Option A → B → B
left_given f given before = option_map_or (λ a. f a before) given before

-- a call that writes into the numbers that it is lent: its answer r, and all these numbers after it
pub record Writes {A : Type 0} (number : A → ℕ) (write : A → List ℕ → List ℕ) (given : Option (Answer A)) (before : List ℕ) (r : ℕ)
    (after : List ℕ) : Type 0
  where
    pub answer : r ≡ given_number (answer_number number) given
    pub numbers : after ≡ left_given (left_by write) given before

-- a frequency, a divider or a length is its own number
abbrev pub itself : ℕ → ℕ
itself n = n

-- a PLL setting: from the top the reference divider, the feedback divider (16 bits), the post dividers (8 bits each)
abbrev pub setting_number : PllConfig → ℕ
setting_number c = (c.refdiv * 65536 + c.fbdiv) * 65536 + (c.post_div1 * 256 + c.post_div2)

-- a chip by its number: 0 is the RP2040, 1 the RP235x
abbrev pub chip_numbered : ℕ → Option Chip
chip_numbered n = pick (eqb n 0) (Some Rp2040) (pick (eqb n 1) (Some Rp235x) None)

-- a voltage: its code above its brownout level (8 bits)
abbrev pub level_number : ℕ → ℕ → ℕ
level_number code brownout = code * 256 + brownout

unfoldable pub voltage_number : Chip → ℕ → ℕ
voltage_number chip reading = answer_number (λ v. level_number (code_of chip v) (bod_of chip v)) (core_voltage_of chip reading)

-- the divider of a Gpout; on the RP2040 a fraction of more than 8 bits is none
abbrev pub divider_of : ℕ → ℕ → Chip → Option GpoutDiv
divider_of whole fraction Rp2040 = pick (leb fraction 255) (Some (on2040 whole fraction)) None
divider_of whole fraction Rp235x = Some (on235x whole fraction)

abbrev pub divider_numbered : ℕ → ℕ → Option Chip → Option GpoutDiv
divider_numbered whole fraction = option_and_then (divider_of whole fraction)

abbrev pub gpout_number : Option GpoutDiv → ℕ → List ℕ → ℕ
gpout_number divider source freqs = given_number (λ divider. answer_number itself (gpout_in divider source freqs)) divider

-- a limit of a margin: its target in Hz, or 2 ^ 32 where it is absent
abbrev pub limit_number : Option ℕ → ℕ
limit_number limit = unwrap_or limit 4294967296

-- a margin: the answer 0, with the two limits in the lent numbers; a refusal leaves them unchanged
abbrev pub done : Margin → ℕ
done s = 0

abbrev pub limits_after : Answer Margin → List ℕ → List ℕ
limits_after = left_by (λ s before. limit_number s.lower ∷ limit_number s.higher ∷ [])

-- the PLL setting of four given dividers
abbrev pub dividers_are : ℕ → ℕ → ℕ → ℕ → PllConfig
dividers_are r fb p1 p2 = record { refdiv = r; fbdiv = fb; post_div1 = p1; post_div2 = p2 }
