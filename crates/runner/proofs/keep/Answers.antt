-- `runner::keep` meets its contract: `copy_from_slice` overwrites the first bytes of a zero buffer, which leaves the
-- sheet followed by zeros (`over_zeros`).
use mathlib.Core.{List.List, List.◌++◌, Path.ap, Path.sym, Path.◌∙◌}
use Prim.Native.Nat.{ℕ}
use lib.{ListN.length, ListN.drop, ListN.replicate, Seq.take-length}
use Rattle.step.specs.Sheet.{max_bytes}
use Rattle.runner.proofs.{Starts.over_zeros}
use Rattle.runner.proofs.keep.Goals as goal

pub returns : goal.returns
returns c =
    ap (λ (l : List ℕ). l ++ drop (length c.args.sheet.now) (replicate max_bytes 0))
    (c.copy_from_slice.ensures.after ∙ sym (take-length c.args.sheet.now)) ∙ over_zeros c.args.sheet.now c.requires
