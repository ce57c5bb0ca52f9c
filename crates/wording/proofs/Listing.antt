-- A line and a listing have a greatest length, so a caller can lend a buffer that holds the whole listing.
use mathlib.Core.{Path.◌≡◌, Path.refl, Bool.Bool, Bool.true, Bool.false, List.List, List.[], List.◌∷◌}
use Prim.Native.Nat.{ℕ, zero, suc, ◌+◌, ◌*◌, ◌^◌, ◌≤◌, ◌<◌}
use native.Mathlib.Omega.{arith}
use lib.{Dec.eqb, ListN.length, ListN.take, ListN.drop, ListN.length-append, ListN.length-take}
use Rattle.base.{specs.Answer.Answer, specs.Answer.value, specs.Answer.refusal, specs.Choice.pick, proofs.Bools.either_way}
use Rattle.chip.specs.declared.Chip.{Chip}
use Rattle.text.specs.{Ascii.ascii, Hex.hex_digits, Hex.hex_of}
use Rattle.text.proofs.Decimals.{length-decimal}
use Rattle.step.specs.{declared.Step.Step, Access.read_at, Steps.WellFormed}
use Rattle.step.proofs.Accesses.{read-sound}
use Rattle.registers.specs.{declared.Access.Access, Access.access_of}
use Rattle.registers.specs.Access.{op_of, address_of, mask_of, value_of}
use Rattle.readback.specs.Law.{chip_in}
use Rattle.wording.specs.Does.{word_text, register_text, write_text, change_text, wait_text, pause_text, does_text}
use Rattle.wording.specs.StepLines.{on_chip, found_in, is_step, meaning_text, line_text, found_at, line_at, lines_from, lines_of}
use Rattle.wording.specs.StepLines.{steps_text}
use Rattle.wording.proofs.{Named.name-most, EachNamed.Paused, EachNamed.NamedIn, EachNamed.each-named}
use Rattle.wording.proofs.Lengths.{step-most}

-- ---- what a step does

word-length : (n : ℕ) → length (word_text n) ≡ 8
unfolding word_text hex_of
word-length n = refl

register-most : (c : Chip) (a : ℕ) → length (register_text c a) ≤ 36
unfolding register_text
register-most c a = simp length-append (omega (arith, name-most c a, word-length a))

-- the longest is a wait
abbrev pub does_most : ℕ
does_most = 78

does-most : (c : Chip) (a : Access) → Paused a → length (does_text c a) ≤ does_most
unfolding does_text
does-most c a paused = go (eqb (op_of a) 1) (eqb (op_of a) 2) (eqb (op_of a) 3) (eqb (op_of a) 4) paused
  where
    go : (p q r t : Bool) → pick t ((value_of a) < 2 ^ 32) (Unit {0})
        → length (pick p (write_text c a) (pick q (change_text c a) (pick r (wait_text c a)
        (pick t (pause_text a) (ascii "no register"))))) ≤ does_most
    go true q r t h = simp length-append (omega (arith, register-most c (address_of a), word-length (value_of a)))
    go false true r t h =
        simp length-append (omega (arith, register-most c (address_of a), word-length (mask_of a), word-length (value_of a)))
    go false false true t h =
        simp length-append (omega (arith, register-most c (address_of a), word-length (mask_of a), word-length (value_of a)))
    go false false false true h = simp length-append (omega (arith, (length-decimal 9 (value_of a) (omega (arith, h))).1))
    go false false false false h = omega arith

-- ---- a line

abbrev pub meaning_most : ℕ
meaning_most = 134

on-chip-most : (c : Chip) (s : Step) (x : Answer Access) → WellFormed s → NamedIn c x
    → length (meaning_text c (on_chip s x)) ≤ meaning_most
on-chip-most c s (value a) w n = simp length-append (omega (arith, step-most s w, does-most c a n.1))
on-chip-most c s (refusal n) w t = omega arith

meaning-most : (c : Chip) (sheet : List ℕ) (at : ℕ) → length (meaning_text c (found_in c (read_at sheet at))) ≤ meaning_most
meaning-most c sheet at = go (read_at sheet at) refl
  where
    go : (x : Answer Step) → read_at sheet at ≡ x → length (meaning_text c (found_in c x)) ≤ meaning_most
    go (value s) e = on-chip-most c s (access_of c s) (read-sound sheet at s e).0 (each-named c s)
    go (refusal n) e = omega arith

digits-length : (bs : List ℕ) → length (hex_digits bs) ≡ 2 * length bs
digits-length [] = refl
digits-length (b ∷ bs) = omega (arith, digits-length bs)

hex-most : (bs : List ℕ) → length bs ≤ 8 → length (hex_of bs) ≤ 16
unfolding hex_of
hex-most [] h = omega arith
hex-most (b ∷ bs) h = omega (arith, digits-length (b ∷ bs), h)

-- position, bytes, meaning, two spaces and the newline
abbrev pub line_most : ℕ
line_most = 156

pub line-most : (c : Chip) (sheet : List ℕ) (i : ℕ) → i < 1000 → length (line_at c sheet i) ≤ line_most
unfolding line_at line_text found_at
line-most c sheet i few =
    let bytes : length (take 8 (drop (8 * i) sheet)) ≤ 8 = simp length-take (omega arith) in
    simp length-append
    (omega (arith, (length-decimal 2 i few).1, hex-most (take 8 (drop (8 * i) sheet)) bytes, meaning-most c sheet (8 * i)))

-- ---- a listing

lines-most : (c : Chip) (sheet : List ℕ) (i n : ℕ) → i + n ≤ 1000 → length (lines_from c sheet i n) ≤ n * line_most
lines-most c sheet i zero few = omega arith
lines-most c sheet i (suc n) few =
    let line = line-most c sheet i (omega arith) in
    let more = lines-most c sheet (suc i) n (omega arith) in
    either_way (is_step (found_at c sheet i))
    (λ e. rw e (simp length-append (omega (arith, line, more)))) (λ e. rw e (simp length-append (omega (arith, line))))

-- a line for each 8 bytes
pub listing-most : (sheet : List ℕ) → length sheet ≤ 8000 → length (steps_text sheet) ≤ lines_of sheet * line_most
unfolding steps_text lines_of
listing-most sheet few = lines-most (chip_in sheet) sheet 0 (lines_of sheet) (omega arith)

-- a sheet has at most 528 bytes, and a word in hex at most 2048
pub listing-fits : (sheet : List ℕ)
    → (length sheet ≤ 528 → length (steps_text sheet) ≤ 10296) × (length sheet ≤ 2048 → length (steps_text sheet) ≤ 39936)
unfolding lines_of
listing-fits sheet =
    ((λ h. omega (arith, listing-most sheet (omega arith), h)), (λ h. omega (arith, listing-most sheet (omega arith), h)))
