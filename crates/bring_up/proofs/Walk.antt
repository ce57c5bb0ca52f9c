-- A walk over steps: from a file with property P, the test holds at each wait, and the file after the steps has property Q.
use Rattle.std.specs.Prelude.{Bool, true, false, ◌≡◌, List, [], ◌∷◌, ◌++◌, ℕ}
use mathlib.Core.Path.{sym, subst}
use Rattle.std.proofs.lemmas.Bool.{and_parts}
use Rattle.chip.specs.declared.Chip.{Chip, TheVariants.Rp2040, TheVariants.Rp235x}
use Rattle.step.specs.declared.Step.{Step}
use Rattle.registers.specs.{declared.Access.Access, Access.access_of}
use Rattle.bring_up.specs.{Machine.done, Machine.carried_out, ClockWaits.at_wait, ClockWaits.all_waits}
use Rattle.bring_up.proofs.Addresses.{Apart, apart, member, outside, reach, steps-keep, append}
use Rattle.bring_up.proofs.Parts.{On, Calm}

pub record Walk (c : Chip) (test : Access → (ℕ → ℕ) → Bool) (P Q : (ℕ → ℕ) → Type 0) (xs : List Step) : Type 0 where
  pub walk : (file : ℕ → ℕ) → P file → (all_waits c test xs file ≡ true) × Q (carried_out c xs file)

pub waits-append : (c : Chip) (test : Access → (ℕ → ℕ) → Bool) (xs ys : List Step) (file : ℕ → ℕ) → all_waits c test xs file ≡ true
    → all_waits c test ys (carried_out c xs file) ≡ true → all_waits c test (xs ++ ys) file ≡ true
waits-append c test [] ys file h k = k
waits-append c test (x ∷ xs) ys file h k =
    let next : ℕ → ℕ = done c (access_of c x) file in
    let both = and_parts (at_wait test (access_of c x) file) (all_waits c test xs next) h in
    simp (both.0, waits-append c test xs ys next both.1 k)

infixr 20 ◌then◌
pub ◌then◌ : {c : Chip} {test : Access → (ℕ → ℕ) → Bool} {P Q R : (ℕ → ℕ) → Type 0} {xs ys : List Step}
    → Walk c test P Q xs → Walk c test Q R ys → Walk c test P R (xs ++ ys)
◌then◌ {c} {test} {P} {Q} {R} {xs} {ys} h k =
    record {
      walk = λ file p.
          let first = h.walk file p in
          let second = k.walk (carried_out c xs file) first.1 in (
            waits-append c test xs ys file first.0 second.0,
            subst R (sym (append c xs ys file)) second.1,
          );
    }

-- nothing is asked of the file
abbrev pub Any : (ℕ → ℕ) → Type 0
Any file = Unit {0}

pub calmly : {c : Chip} {test : Access → (ℕ → ℕ) → Bool} {own : List ℕ} {xs : List Step} → Calm c own xs → Walk c test Any Any xs
calmly {c} {test} {own} {xs} h = record { walk = λ file p. (h.calm test file, tt) }

-- a part keeps a register that is not its own
pub keeps-one : {c : Chip} {own : List ℕ} {xs : List Step} → On c own xs → (file : ℕ → ℕ) (x : ℕ) → member x own ≡ false
    → carried_out c xs file x ≡ file x
keeps-one {c} {own} {xs} h file x other = steps-keep c xs file x (outside x (reach c xs) own h.inside other)

-- the same where the register, which is the chip's, is not its own on either chip
pub keeps : {c : Chip} {xs : List Step} (own : Chip → List ℕ) → On c (own c) xs → (file : ℕ → ℕ) (x : Chip → ℕ)
    → Apart own x Rp2040 → Apart own x Rp235x → carried_out c xs file (x c) ≡ file (x c)
keeps {c} own h file x a b = keeps-one h file (x c) (apart own x a b c)
