-- `margin::first_other` meets its contract: an answer shows what is given for a target, and so for those before it, or
-- that it is the other way round there.
use Rattle.std.specs.Prelude.{◌≡◌, refl, Bool, true, false, not, ℕ, Option, Some, None, is_some, is_none}
use mathlib.Core.Bool.{beq}
use native.Mathlib.Omega.{arith}
use Rattle.pll.specs.declared.PllConfig.{PllConfig}
use Rattle.margin.specs.Walk.{Tells, Given}
use Rattle.margin.proofs.first_other.Goals.{then-is_none-given, else-is_none-given}
use Rattle.margin.proofs.first_other.Goals as goal

-- what the comparison of an answer with what is given tells
module _ {input t : ℕ} {c : PllConfig} where
  told : (r given : Bool) → Tells input t c r → beq r given ≡ true → Given given input c t
  told true true tells e = tells.yes refl
  told false false tells e = λ has. let yes = tells.no has in cc
  told true false tells e = cc
  told false true tells e = cc

  told-other : (r given : Bool) → Tells input t c r → beq r given ≡ false → Given (not given) input c t
  told-other true false tells e = tells.yes refl
  told-other false true tells e = λ has. let yes = tells.no has in cc
  told-other true true tells e = cc
  told-other false false tells e = cc

-- what `is_none` answers
is-none : (other : Option ℕ) (r : Bool) → is_some other ≡ not r → r ≡ is_none other
is-none (Some x) true e = cc
is-none (Some x) false e = refl
is-none None true e = refl
is-none None false e = cc

pub loop-low-preserved : goal.loop-low-preserved
loop-low-preserved c =
    let l = c.loop-low in
    let tells = rw (← is-none _ _ c.is_none.ensures) at c.other_hz-other.ensures in
    elim c.if-is_none-given.branch [
      | then-is_none-given w ↦ rw (w.low-is, w.high-is) (record {
        from = omega arith;
        order = omega arith;
        to = omega arith;
        before = λ t from below. c.requires.turns t c.clamp-at.result from (omega arith) (omega arith)
            (told _ _ tells w.if-is_none-given.true);
        here = l.invariant.here;
      })
      | else-is_none-given w ↦ rw (w.low-is, w.high-is) (record {
        from = omega arith;
        order = omega arith;
        to = omega arith;
        before = l.invariant.before;
        here = λ inside. told-other _ _ tells w.if-is_none-given.false;
      })
    ]
