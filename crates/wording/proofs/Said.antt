-- The buffer of 4096 bytes holds an answer of at most that length whole.
use Rattle.std.specs.Prelude.{◌≡◌, List, ℕ, ◌≤◌, length, take, drop, replicate}
use mathlib.Core.Path.{refl, ap, ◌∙◌}
use native.Mathlib.Omega.{arith}
use lib.{ListN.length-replicate, ListN.length-take, Seq.sets, Seq.length-sets, Seq.take_at}
use Rattle.base.specs.Placed.{past, Placed}
use Rattle.text.proofs.Outputs.{whole}
use Rattle.wording.specs.Case.{held}

pub held_whole : (said : List ℕ) → length said ≤ 4096 → held said ≡ said
unfolding held
held_whole said few =
    let room : List ℕ = replicate 4096 0 in
    let long : length room ≡ 4096 = length-replicate {A = ℕ} 4096 0 in
    let w = whole said {before = room} {after = sets room 0 said} {size = past room 0 said} (omega arith)
    (record { index = refl; bytes = refl }) in
    rw w.bytes (take_at said (drop (past room 0 said) room) (past room 0 said) (omega (arith, w.size_is)))

-- the buffer that the answer was put into
pub record Kept (said : List ℕ) (n : ℕ) (after : List ℕ) : Type 0 where
  pub inside : n ≤ length after
  pub whole : n ≡ length (take n after)
  pub bytes : take n after ≡ held said

pub kept : {said after : List ℕ} {n : ℕ} → Placed (replicate 4096 0) 0 said n after → Kept said n after
unfolding held
kept {said} {after} {n} p =
    let room : List ℕ = replicate 4096 0 in
    let long : length after ≡ length room = ap length p.bytes ∙ length-sets room 0 said in
    record {
      inside = omega (arith, p.index);
      whole = simp length-take (omega (arith, p.index));
      bytes = rw (p.bytes, p.index);
    }
