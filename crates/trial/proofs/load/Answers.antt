-- `trial::load` meets its contract: 22 bytes decide every output (`load-start`) and 80012 are enough for it (`load-most`), so
-- what `write_load` puts is the whole output (`printed`).
use Rattle.std.proofs.Common.{rules}
use Rattle.base.proofs.Writing.{finished}
use Rattle.text.proofs.Outputs.{printed}
use Rattle.trial.specs.Load.{load_of}
use Rattle.trial.proofs.{Starts.load-start, Bounds.load-most}
use Rattle.trial.proofs.load.Goals as goal

pub shape_of-out : goal.shape_of-out
shape_of-out c = let p = finished c.new-writer.result c.write_load.new.out _ c.new-writer.ensures c.write_load.ensures in search rules

pub returns : goal.returns
returns c =
    let p = finished c.new-writer.result c.write_load.new.out _ c.new-writer.ensures c.write_load.ensures in
    printed load_of 22 80012 load-most load-start c.args.start.now (search rules) (search rules)
