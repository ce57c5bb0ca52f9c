-- `step::packing::place` meets its contract: the field and rest share no bit, so `place-bits` turns the `|` into a sum, which is
-- below 2^above by `field_lt`.
use Rattle.std.specs.Prelude.{◌≡◌, ℕ, ◌+◌, ◌-◌, ◌*◌, ◌%◌, ◌^◌, ◌<◌}
use native.Mathlib.Nat.{mod-lt}
use lib.{Bits.bit_or, Pow.pow_pos}
use Rattle.step.proofs.Words.{place-bits, field_lt}
use Rattle.step.proofs.packing.place.Goals as goal

pub returns : goal.returns
returns c = let a = c.args in let p = c.requires in let n : ℕ = a.above - a.w in let v : ℕ = a.v % 2 ^ a.w in
    let cut : v < 2 ^ a.w = mod-lt a.v (pow_pos a.w) in let is : bit_or ((c.low.result * 2 ^ n) % 2 ^ 64)
    a.rest ≡ v * 2 ^ n + a.rest = rw c.low.ensures (place-bits a.above a.w v a.rest p.1 p.2 cut
    p.4) in (is, rw is (field_lt a.above a.w v a.rest p.1 cut p.4))
