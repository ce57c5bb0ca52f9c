-- The first 22 bytes of an input decide its output.
use mathlib.Core.{List.List, Logic.inl, Logic.inr, Path.◌≡◌}
use Rattle.std.proofs.Common.{ℕ, ◌+◌, ◌-◌, ◌≤◌, length, take, drop, arith}
use Rattle.text.specs.Words.{up_to}
use Rattle.text.proofs.Lines.{word-known, line-start, drop-take}
use Rattle.trial.specs.Load.{load_of}

pub load-start : (n : ℕ) (input : List ℕ) → 22 ≤ n → load_of (take n input) ≡ load_of input
unfolding load_of
load-start n input enough = elim (word-known 32 n input (omega arith)) [
  | inl seed ↦
      let k : ℕ = length (up_to 32 input) + 1 in
      let short = seed.0 in
      rw (seed.1, drop-take k n input, line-start (n - k) (drop k input) (omega arith))
  | inr bad ↦ rw (bad.0, bad.1)
]
