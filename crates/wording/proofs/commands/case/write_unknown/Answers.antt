-- `commands::case::write_unknown` meets its contract: the three texts are written one after another.
use Rattle.base.specs.Writing.{written}
use Rattle.base.proofs.Writing.{put_then}
use Rattle.wording.specs.Case.{unknown_text}
use Rattle.wording.proofs.commands.case.write_unknown.Goals as goal

pub returns : goal.returns
unfolding unknown_text
returns c =
    put_then (written c.args.out.now) _ _ _ _ c.put_all.ensures
    (put_then (written c.put_all.new.self) _ _ _ _ c.put_all-2.ensures c.put_all-3.ensures)
