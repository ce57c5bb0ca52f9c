-- The choice by a test and the range test, which the definitions of every crate use.
use Rattle.std.specs.Prelude.{ℕ, Bool, true, false, ◌&&◌, leb}

-- a if the test holds, b otherwise
abbrev pub pick {ℓ} : {A : Type ℓ} → Bool → A → A → A
pick true a b = a
pick false a b = b

-- a test as a number: 1 for true, 0 for false
abbrev pub bit : Bool → ℕ
bit test = pick test 1 0

-- low ≤ x ≤ high
abbrev pub in_range : ℕ → ℕ → ℕ → Bool
in_range low high x = leb low x && leb x high
