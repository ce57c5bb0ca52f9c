-- A step that was read from a sheet is well-formed, and so is one that is handed out.
use Rattle.std.specs.Prelude.{Bool, true, false, ◌&&◌, List, ◌≡◌, ℕ, ◌*◌, ◌<◌, T, leb}
use native.Mathlib.Omega.{arith}
use lib.Dec.{leb→le}
use Rattle.std.proofs.lemmas.Bool.Decides.{nat_tests}
use Rattle.base.specs.Answer.{value}
use Rattle.step.specs.{declared.Step.Step, Access.read_at, Layout.widths, Steps.storable, Steps.WellFormed}
use Rattle.step.proofs.Accesses.{read-sound}
use Rattle.runner.specs.{declared.State.State, Run.Outcome, Run.HandsFormed, Run.turn_of}
use Rattle.runner.proofs.Calls.{every-turn}
use Rattle.step.specs.declared.kind.Kind.TheVariants as kind

pub read-formed : (sheet : List ℕ) (at : ℕ) (s : Step) → read_at sheet at ≡ value s → WellFormed s
read-formed sheet at s e = (read-sound sheet at s e).0

left : (a b : Bool) → T (a && b) → T a
left true b t = tt
left false b t = t

-- a store names one of the ten clocks, and its Hz fit 32 bits
pub store_fits : (s : Step) → WellFormed s → s.kind ≡ kind.Store → (s.f0 < 10) × (s.f1 < 4294967296)
unfolding widths storable
store_fits s w k =
    let fill = rw k at w.fill in
    let stores : T (storable kind.Store s.f0 s.f1) = rw k at w.stores in
    (omega (arith, leb→le s.f0 9 (left (leb s.f0 9) _ stores)), fill.1.1.0)

-- tests on numbers, and the bounds of a store
pub ruleset storing = (nat_tests, store_fits)

pub turn_formed : (s : State) (len : ℕ) (kept sheet : List ℕ) (ready : Bool)
    → HandsFormed (turn_of s len kept sheet ready).answer
turn_formed s len kept sheet ready =
    every-turn (λ (x : Outcome State). HandsFormed x.answer) s len kept sheet ready (λ n. tt) tt tt
    (λ polls. tt) tt (read-formed sheet (8 * s.position))
