-- A refusal's line has at most 9 bytes more than its number has digits.
use Prim.Native.Nat.{ℕ, suc, ◌+◌, ◌^◌, ◌≤◌, ◌<◌}
use native.Mathlib.Omega.{arith}
use lib.ListN.{length, length-append}
use Rattle.text.proofs.Decimals.{length-decimal}
use Rattle.text.specs.Reply.{refused_line}

-- the number has at most k + 1 digits
pub refused-most : (k n : ℕ) → n < 10 ^ suc k → length (refused_line n) ≤ k + 10
refused-most k n small = simp length-append (omega (arith, (length-decimal k n small).1))
