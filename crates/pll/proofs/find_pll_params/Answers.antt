-- `pll::find_pll_params` meets its contract: the walk starts at the highest permitted divider, so its rank is the
-- lowest of all candidates (`all-walked`), and the setting of that rank is the answer (`lowest-found`). Where the ends
-- are missing, the definition refuses with the same 15 (`none-to-walk`).
use mathlib.Core.{Path.sym, Logic.inl}
use native.Mathlib.Omega.{arith}
use Rattle.std.proofs.lemmas.Result.{err_from_is_err_and}
use Rattle.pll.proofs.{Candidates.a-candidate, Ends.highest-right, Walked.walk-takes-permitted, Inputs.none-to-walk}
use Rattle.pll.proofs.{Joined.lowest-found, Steps.all-walked}
use Rattle.pll.proofs.find_pll_params.Goals as goal

pub walk-rank-requires-clause-among : goal.walk-rank-requires-clause-among
walk-rank-requires-clause-among c =
    let ends = c.in_ok-ends.ensures in
    let from = highest-right _ _ (sym ends.highest) in
    ((walk-takes-permitted _ _).1 (from.0.0, from.1.one), sym ends.lowest)

pub returns : goal.returns
returns c =
    let from = highest-right _ _ (sym c.in_ok-ends.ensures.highest) in
    let some = a-candidate _ _ 1 1 from.0.0 from.1.one (omega arith) (omega arith) (omega arith) in
    rw c.setting.ensures (lowest-found _ _ _ (omega arith) _ some
    (all-walked _ _ _ _ _ from.1 c.walk-rank.ensures))

pub returns-in_err-ends : goal.returns-in_err-ends
returns-in_err-ends c =
    let r = none-to-walk _ c.args.target_hz _ (inl (sym c.in_err-ends.ensures.highest)) in
    let p = err_from_is_err_and c.from_residual.result c.from_residual.ensures.1 in
    rw (p.1, p.2, r.0, r.1)
