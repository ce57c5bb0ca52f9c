-- `meanings::same::same_ring` meets its contract: the derived test of two rings is that of their numbers.
use Rattle.std.specs.Prelude.{Some}
use Rattle.wording.proofs.Derived.{ring_same}
use Rattle.wording.proofs.meanings.same.same_ring.Goals as goal

pub returns-in-Some-Some : goal.returns-in-Some-Some
returns-in-Some-Some c =
    let both = c.in-Some-Some in
    rw (both.is-0, both.is-1, c.eq.ensures) (ring_same (Some both.ring) (Some both.other))
