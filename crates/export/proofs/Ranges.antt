-- The ranges of exported answers hold, so a caller distinguishes the kinds of answers by size alone.
use Rattle.std.specs.Prelude.{Bool, true, false, ◌≡◌, ◌^◌, ◌≤◌, T, refl}
use native.Mathlib.Omega.{arith}
use Rattle.step.specs.{declared.Step.Step, Kinds.known, Steps.pack_of, Steps.WellFormed}
use Rattle.step.proofs.{Laws.number-in, Laws.pack-lt, Numbers.known-from}
use Rattle.runner.specs.declared.Reply.{Reply, TheVariants.Done, TheVariants.Handed, TheVariants.Passed, TheVariants.Waiting}
use Rattle.export.specs.Ranges.{ProgressRange, Ranges}

is_true : (b : Bool) → T b → b ≡ true
is_true true t = refl
is_true false t = absurd t

-- a step's kind, which is at least 1, is in the word's upper 6 bits
pub word-from : (s : Step) → WellFormed s → 2 ^ 58 ≤ pack_of s
word-from s w =
    omega (arith, number-in s w, known-from s.kind (is_true (known s.kind) w.is_known))

progress-range : (p : Reply) → ProgressRange p
progress-range Done = omega arith
progress-range Passed = omega arith
progress-range Waiting = omega arith
progress-range (Handed s) = λ w. (word-from s w, pack-lt s)

pub ranges : Ranges
ranges =
    record {
      settings = λ c r f p q. omega arith;
      voltages = λ c b h h'. omega arith;
      numbers = λ n h. omega arith;
      refused = λ f n h. omega arith;
      malformed_below = omega arith;
      progress = progress-range;
    }
