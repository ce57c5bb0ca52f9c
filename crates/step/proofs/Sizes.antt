-- A length that a sheet may have is at most 528.
use Rattle.std.specs.Prelude.{false, not, ◌≡◌, ℕ, ◌%◌, ◌≤◌, eqb, ltb}
use borrow.Author.Tests.{ltb-false}
use Rattle.std.proofs.lemmas.Bool.{or_parts}
use Rattle.step.specs.{Sheet.max_bytes, Size.bad_size}

pub size_fits : (n : ℕ) → bad_size n ≡ false → n ≤ max_bytes
size_fits n e = ltb-false max_bytes n (or_parts (ltb max_bytes n) (not (eqb (n % 8) 0)) e).0
