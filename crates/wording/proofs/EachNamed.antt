-- Each register that a step of either chip uses has a name, and the cycles of each pause fit 32 bits. The proof goes kind by
-- kind, and for a PLL's register over both PLLs of both chips.
use Rattle.std.specs.Prelude.{◌≡◌, Bool, true, ℕ, ◌+◌, ◌^◌, ◌<◌, eqb, leb, length, refl}
use native.Mathlib.{Nat.mod-lt, Omega.arith}
use lib.Pow.{pow_pos}
use Rattle.base.specs.{Answer.Answer, Answer.value, Answer.refusal, Choice.pick, Choice.in_range}
use Rattle.base.proofs.Bools.{either_way}
use Rattle.chip.specs.declared.Chip.{Chip, TheVariants.Rp2040, TheVariants.Rp235x}
use Rattle.step.specs.declared.{Step.Step, kind.Kind.Kind}
use Rattle.registers.specs.Access.{row_of, has, access_of, op_of, address_of, value_of}
use Rattle.registers.specs.{declared.Access.Access, Map.PLL}
use Rattle.wording.specs.StepNames.{name_rows, name_of}
use Rattle.step.specs.declared.kind.Kind.TheVariants as kind

-- 1 to 3 use a register: it has a name
abbrev pub named : Chip → ℕ → ℕ → Bool
named c op address = pick (in_range 1 3 op) (leb 1 (length (name_of c address))) true

-- 4 is a pause: its cycles fit 32 bits
abbrev pub Paused : Access → Type 0
Paused a = pick (eqb (op_of a) 4) ((value_of a) < 2 ^ 32) (Unit {0})

-- where the chip has the kind, the register of a step has a name, and a pause fits
abbrev Told : Chip → Kind → Type 0
Told c k = (s : Step) →
    (pick (has c k) (named c (op_of (row_of k c s)) (address_of (row_of k c s))) true ≡ true) × Paused (row_of k c s)

-- what holds of both PLLs of both chips by their bases, USB first, holds of each
either : (P : Chip → ℕ → Type 0) → P Rp2040 0x4002C000 → P Rp2040 0x40028000 → P Rp235x 0x40058000 → P Rp235x 0x40050000
    → (c : Chip) (w : ℕ) → P c (PLL c w)
either P usb sys usb235 sys235 Rp2040 w = either_way (eqb w 1) (λ e. rw e usb) (λ e. rw e sys)
either P usb sys usb235 sys235 Rp235x w = either_way (eqb w 1) (λ e. rw e usb235) (λ e. rw e sys235)

-- the register of a PLL that a step of this kind uses has a name, where the chip has the kind
abbrev PllNamed : Kind → ℕ → (ℕ → ℕ) → Chip → ℕ → Type 0
PllNamed k op register c base = pick (has c k) (named c op (register base)) true ≡ true

told : (k : Kind) (c : Chip) → Told c k
unfolding has name_of name_rows
told kind.PllPower c s = (either (PllNamed kind.PllPower 1 (λ base. base + 0x4)) refl refl refl refl c s.f0, tt)
told kind.PllReference c s = (either (PllNamed kind.PllReference 1 (λ base. base)) refl refl refl refl c s.f0, tt)
told kind.PllFeedback c s = (either (PllNamed kind.PllFeedback 1 (λ base. base + 0x8)) refl refl refl refl c s.f0, tt)
told kind.WaitLock c s = (either (PllNamed kind.WaitLock 3 (λ base. base)) refl refl refl refl c s.f0, tt)
told kind.PllPosts c s = (either (PllNamed kind.PllPosts 1 (λ base. base + 0xC)) refl refl refl refl c s.f0, tt)
told kind.PllPostOn c s = (either (PllNamed kind.PllPostOn 2 (λ base. base + 0x4)) refl refl refl refl c s.f0, tt)
told kind.Delay Rp2040 s = (refl, omega (arith, mod-lt s.f0 (pow_pos 32)))
told kind.Delay Rp235x s = (refl, omega (arith, mod-lt s.f0 (pow_pos 32)))
told k Rp2040 s = (refl, tt)
told k Rp235x s = (refl, tt)

-- what a step does, where the chip has it
abbrev pub NamedIn : Chip → Answer Access → Type 0
NamedIn c (value a) = (named c (op_of a) (address_of a) ≡ true) × Paused a
NamedIn c (refusal n) = Unit {0}

pub each-named : (c : Chip) (s : Step) → NamedIn c (access_of c s)
unfolding access_of
each-named c s = either_way (has c s.kind) (λ e. rw e (rw e at (told s.kind c s))) (λ e. rw e tt)
