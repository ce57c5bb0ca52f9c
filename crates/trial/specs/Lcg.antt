-- The draws of a trial are those of a linear congruential generator modulo 2 to the power of 32, from a 32-bit seed.
use Rattle.std.specs.Prelude.{ℕ, zero, suc, ◌+◌, ◌*◌, ◌%◌, ◌^◌, Bool, nat_le}

-- the draw after x
unfoldable pub draw_of : ℕ → ℕ
draw_of x = (1664525 * x + 1013904223) % 2 ^ 32

-- the number after n steps; the first draw of a trial is that after one step
unfoldable pub drawn : ℕ → ℕ → ℕ
drawn seed zero = seed
drawn seed (suc n) = draw_of (drawn seed n)

-- the top bit of 32
abbrev pub top_bit : ℕ → Bool
top_bit x = nat_le (2 ^ 31) x
