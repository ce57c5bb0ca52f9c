-- `phrases::clocks::write_left_out` meets its contract: the eight texts are written one after another, each block's name only
-- where its test holds.
use mathlib.Core.List.{append_assoc}
use Rattle.base.proofs.Writing.{put_more}
use Rattle.wording.specs.Lines.{left_out_line}
use Rattle.wording.proofs.phrases.clocks.write_left_out.Goals as goal

pub returns : goal.returns
unfolding left_out_line
returns c =
    rw (
      c.put_all-2.ensures,
      c.write_where-6.ensures,
      c.write_where-5.ensures,
      c.write_where-4.ensures,
      c.write_where-3.ensures,
      c.write_where-2.ensures,
      c.write_where.ensures,
      c.put_all.ensures,
      c.is_rp2040-old.ensures,
    )
    (simp (put_more, append_assoc))
