-- Every step of a sheet is one that its chip carries out, since this holds of each part.
use Rattle.std.specs.Prelude.{true, ◌≡◌, refl, List, [], ◌∷◌, ◌++◌, ℕ}
use Rattle.std.proofs.lemmas.Bool.{and_parts}
use Rattle.chip.specs.declared.Chip.{Chip}
use Rattle.step.specs.declared.Step.{Step}
use Rattle.registers.specs.Access.{access_of}
use Rattle.sheet.specs.Steps.{clocks_part, steps_of}
use Rattle.bring_up.specs.Carried.{is_value, carries, Carried}
use Rattle.bring_up.proofs.Sheet.{joined, All, none, ◌also◌, all-parts}

append : (c : Chip) (xs ys : List Step) → carries c xs ≡ true → carries c ys ≡ true → carries c (xs ++ ys) ≡ true
append c [] ys h k = k
append c (x ∷ xs) ys h k =
    let both = and_parts (is_value (access_of c x)) (carries c xs) h in
    simp (both.0, append c xs ys both.1 k)

each : {c : Chip} {os : List (List ℕ)} {ps : List (List Step)} → All c os ps → carries c (joined ps) ≡ true
each none = refl
each {c} (◌also◌ {o} {p} {os} {ps} on all) = append c p (joined ps) on.all (each all)

pub carried : Carried
unfolding steps_of clocks_part
carried reading s = each (all-parts reading s)
