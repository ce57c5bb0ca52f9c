-- `meanings::compared::differences` meets its contract: at the end no part is left, so the mask is that of all (`masked_all`).
use Rattle.std.proofs.Common.{rules}
use Rattle.wording.specs.{Differences.differences_of, Parts.parts_of}
use Rattle.wording.proofs.Bits.{masked_all}
use Rattle.wording.proofs.meanings.compared.differences.Goals as goal

pub returns : goal.returns
unfolding differences_of
returns c = masked_all (parts_of c.args.a) (parts_of c.args.b) _ c.loop-same.mask c.loop-same.invariant (search rules)
