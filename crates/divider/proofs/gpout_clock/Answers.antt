-- `divider::gpout_clock` meets its contract: what is looked up at the code, and none past the end, is the read of the definition.
use Rattle.std.specs.Prelude.{◌≡◌, ℕ, Option, Some, None, List, get_or, unwrap_or}
use native.Mathlib.{Nat.le_refl, Omega.arith}
use Rattle.std.specs.Option.{option_flatten}
use Rattle.divider.specs.Gpout.{gpout_clock}
use Rattle.divider.proofs.gpout_clock.Goals as goal

-- n is the index at which the code reads
read : {A : Type 0} (xs : List (Option A)) (n i : ℕ) (o p : Option (Option A)) → o ≡ p → unwrap_or p None ≡ get_or xs n None → n ≡ i
    → option_flatten o ≡ get_or xs i None
read xs n i o None is e same = rw (is, ← same) e
read xs n i o (Some x) is e same = rw (is, ← same) e

pub returns : goal.returns
unfolding gpout_clock
returns c =
    let found = c.get.ensures.lookup.4 (le_refl _) None in
    rw (c.flatten.ensures, ← c.facts.ensures) (read _ _ c.args.source _ _ c.copied.ensures found (omega arith))
