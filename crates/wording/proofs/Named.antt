-- A register's name is the one in the code's table at its address, and has at most 25 bytes.
use Rattle.std.specs.Prelude.{Option, Some, None, cond, ◌≡◌, true, List, [], ◌∷◌, map, ℕ, ◌≤◌, eqb, leb, length}
use Rattle.std.specs.{List.find, Option.option_eq}
use mathlib.Core.Path.{refl, sym, ap, ◌∙◌}
use native.Mathlib.Omega.{arith}
use borrow.Author.Tests.{leb-true}
use Rattle.base.proofs.Bools.{either_way}
use Rattle.std.proofs.lemmas.Bool.{and_parts}
use Rattle.chip.specs.declared.{Chip.Chip, Chip.TheVariants.Rp2040, Chip.TheVariants.Rp235x}
use Rattle.text.specs.Ascii.{ascii}
use Rattle.wording.proofs.Tables.{all_within}
use Rattle.wording.specs.StepNames.{Row, name_rows, name_in, name_of}
use Rattle.wording.specs.Inside.{Place, address_on, is_at, row_on, rows_on, bytes_at, bytes_of, IsTable}

-- ---- the code's table: the bytes of the row that is found there

abbrev pub name_found : Option Place → List ℕ
name_found (Some p) = p.2.now
name_found None = []

found : (c : Chip) (a : ℕ) (ps : List Place) → bytes_at (rows_on c ps) a ≡ name_found (find (is_at c a) ps)
found c a [] = refl
found c a (p ∷ ps) = go (address_on c p) (found c a ps)
  where
    go : (o : Option ℕ) → bytes_at (rows_on c ps) a ≡ name_found (find (is_at c a) ps)
        → bytes_at (row_on o p.2.now (rows_on c ps)) a
        ≡ name_found (cond (option_eq eqb o (Some a)) (Some p) (find (is_at c a) ps))
    go (Some b) e = either_way (eqb b a) (λ t. rw t) (λ t. rw t e)
    go None e = e

name-bytes : (rows : List Row) (a : ℕ) → bytes_at (bytes_of rows) a ≡ name_in rows a
name-bytes [] a = refl
name-bytes (r ∷ rows) a = rw (name-bytes rows a)

pub name_there : (c : Chip) (a : ℕ) (ps : List Place) → IsTable ps → name_of c a ≡ name_found (find (is_at c a) ps)
unfolding name_of
name_there Rp2040 a ps t =
    sym (name-bytes (name_rows Rp2040) a) ∙ ap (λ (rs : List (ℕ × List ℕ)). bytes_at rs a) (sym t.old) ∙ found Rp2040 a ps
name_there Rp235x a ps t =
    sym (name-bytes (name_rows Rp235x) a) ∙ ap (λ (rs : List (ℕ × List ℕ)). bytes_at rs a) (sym t.new) ∙ found Rp235x a ps

-- ---- a name's length

name-within : (rows : List Row) (most a : ℕ) → all_within most (map (λ (r : Row). r.name) rows) ≡ true → length (name_in rows a) ≤ most
name-within [] most a t = omega arith
name-within (r ∷ rows) most a t =
    let both = and_parts (leb (length (ascii r.name)) most) (all_within most (map (λ (r : Row). r.name) rows)) t in
    either_way (eqb r.address a)
    (λ e. rw e (leb-true (length (ascii r.name)) most both.0)) (λ e. rw e (name-within rows most a both.1))

pub name-most : (c : Chip) (a : ℕ) → length (name_of c a) ≤ 25
unfolding name_of name_rows
name-most Rp2040 a = name-within (name_rows Rp2040) 25 a refl
name-most Rp235x a = name-within (name_rows Rp235x) 25 a refl
