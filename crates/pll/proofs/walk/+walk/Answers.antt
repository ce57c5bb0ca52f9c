-- `pll::walk::walk` meets its contract, by the feedback divider as measure: a rank with no remainder ends it, since nothing
-- after it is lower (`stop-exact`); at the lowest divider nothing is left (`stop-last`); else the next call takes the
-- rest (`walk-on`).
use native.Mathlib.Omega.{arith}
use Prim.Native.Nat.{ℕ, ◌≤◌}
use Rattle.pll.specs.{Ranges.reference_min, Law.VcoPermits, Ends.walked_of, Ends.Among}
use Rattle.pll.proofs.{Ends.permits-between, Ends.lowest-right, Walked.walk-takes-permitted, Steps.stop-exact, Steps.stop-last}
use Rattle.pll.proofs.walk.+walk.Goals as goal

-- a divider that the walk takes is permitted
taken : {input fb : ℕ} → Among fb (walked_of input) → (reference_min ≤ input) × VcoPermits input fb
taken {input} {fb} m = (walk-takes-permitted input fb).0 m

pub best_posts-now-requires : goal.best_posts-now-requires
best_posts-now-requires t c = let here = taken c.requires.among.0 in (here.0, here.1, omega arith)

pub returns-then-now-lt-KEYS : goal.returns-then-now-lt-KEYS
returns-then-now-lt-KEYS t c =
    let now = c.best_posts-now.ensures in
    rw now.lower (stop-exact _ _ _ _ _ now.found (omega arith) (omega (arith, now.lower)) (omega arith))

pub returns-then-fbdiv-low : goal.returns-then-fbdiv-low
returns-then-fbdiv-low t c =
    let now = c.best_posts-now.ensures in
    let asked = c.requires.among in
    rw now.lower (stop-last _ _ _ _ _ now.found (omega arith) _ (lowest-right _ _ asked.1) (omega arith)
    (omega (arith, (taken asked.0).1.low)))

pub walk-requires : goal.walk-requires
walk-requires t c =
    let asked = c.requires.among in let here = taken asked.0 in
    let low = lowest-right _ _ asked.1 in
    let now = c.best_posts-now.ensures in (
      omega arith,
      (
        ((walk-takes-permitted _ _).1 (here.0, permits-between _ _ _ _ low.one here.1 (omega arith) (omega arith)), asked.1),
        (omega arith, omega (arith, now.lower)),
      ),
    )
