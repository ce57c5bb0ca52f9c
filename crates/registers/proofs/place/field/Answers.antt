-- `registers::place::field` meets its contract: masking and shifting are the remainder and the product of the
-- definition (`field_is`), which fits 32 bits where low + width is at most 32 (`field_fits`).
use mathlib.Core.Path.{refl}
use native.Mathlib.Omega.{arith}
use lib.Pow.{pow_pos}
use Rattle.step.proofs.Words.{one_shl}
use Rattle.registers.proofs.Fields.{field_is, field_lt, field_fits}
use Rattle.registers.proofs.place.field.Goals as goal

pub overflow_sub-result : goal.overflow_sub-result
overflow_sub-result c = omega (arith, one_shl c.args.width (omega arith), pow_pos c.args.width)

pub overflow_cast-result-3 : goal.overflow_cast-result-3
overflow_cast-result-3 c = let a = c.args in rw (field_is a.low a.width a.v c.requires) (omega (
  arith,
  field_fits a.low a.width a.v c.requires,
))

pub returns : goal.returns
returns c = let a = c.args in rw (field_is a.low a.width a.v c.requires) (refl, field_lt a.low a.width a.v c.requires)
