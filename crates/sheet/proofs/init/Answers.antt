-- `sheet::init` meets its contract: it has three ends: `refused` by the refusal that `examine` answers, `too_short` where
-- `copy_turned` finds no room, and `accepted`.
use mathlib.Core.{Path.sym, List.List}
use Prim.Native.Nat.{ℕ}
use native.Mathlib.Omega.{arith}
use Rattle.std.proofs.lemmas.Result.{err_from_is_err_and}
use Rattle.sheet.proofs.Ends.{looked, turned, ready, copy-short, copy-whole, refused, too_short, accepted}
use Rattle.sheet.proofs.init.Goals as goal

pub returns-in_err-f : goal.returns-in_err-f
returns-in_err-f c =
    let found = turned c.args.config c.args.reading (c.settings_of-s.ensures, c.in_err-f.ensures) in
    let same = err_from_is_err_and c.from_residual.result c.from_residual.ensures.1 in
    rw (same.1, same.2) (refused _ _ _ found.typed found.reason_is)

pub slice_bounds-words-end : goal.slice_bounds-words-end
slice_bounds-words-end c =
    (ready _ _ (looked c.args.config c.args.reading (c.settings_of-s.ensures, c.in_ok-f.ensures)) c.gather-count.ensures).room

pub slice_bounds-copy_turned-end : goal.slice_bounds-copy_turned-end
slice_bounds-copy_turned-end c =
    sym (ready _ _ (looked c.args.config c.args.reading (c.settings_of-s.ensures, c.in_ok-f.ensures)) c.gather-count.ensures).count

pub returns-in_err-copy_turned : goal.returns-in_err-copy_turned
returns-in_err-copy_turned c =
    let found = looked c.args.config c.args.reading (c.settings_of-s.ensures, c.in_ok-f.ensures) in
    let gathered = ready _ _ found c.gather-count.ensures in
    let b : List ℕ = c.args.sheet.now in
    let same = err_from_is_err_and c.from_residual-in_err-copy_turned.result c.from_residual-in_err-copy_turned.ensures.1 in
    let short = copy-short _ _ b gathered c.in_err-copy_turned.ensures.value in
    rw (c.copy_turned.ensures.buf_after, short.2, same.1, same.2) (too_short _ _ b found.typed found.accepted short.1 short.0)

pub overflow_mul-result : goal.overflow_mul-result
overflow_mul-result c =
    omega (arith, (ready _ _ (looked c.args.config c.args.reading (c.settings_of-s.ensures, c.in_ok-f.ensures)) c.gather-count.ensures).few)

pub returns : goal.returns
returns c =
    let found = looked c.args.config c.args.reading (c.settings_of-s.ensures, c.in_ok-f.ensures) in
    let gathered = ready _ _ found c.gather-count.ensures in
    let b : List ℕ = c.args.sheet.now in
    let whole = copy-whole _ _ b gathered c.in_ok-copy_turned.ensures.value in
    rw (c.copy_turned.ensures.buf_after, whole.1, ← gathered.size) (accepted _ _ b found.typed found.accepted whole.0)
