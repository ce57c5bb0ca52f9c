-- `step::packing::low` meets its contract: `low_bits` turns the mask into a remainder; 2^w is positive, so 1 can be subtracted.
use native.Mathlib.Omega.{arith}
use lib.Pow.{pow_pos}
use Rattle.step.proofs.{Words.one_shl, Words.low_bits}
use Rattle.step.proofs.packing.low.Goals as goal

pub overflow_sub-result : goal.overflow_sub-result
overflow_sub-result c = omega (arith, one_shl c.args.w c.requires, pow_pos c.args.w)

pub returns : goal.returns
returns c = low_bits c.args.x c.args.w c.requires
