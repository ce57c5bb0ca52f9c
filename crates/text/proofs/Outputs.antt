-- An output that fits the buffer is written whole, and where the first bytes of an input decide the output, reading these is
-- enough.
use mathlib.Core.{List.List, Path.◌≡◌, Path.ap, Path.◌∙◌}
use Prim.Native.Nat.{ℕ, ◌≤◌}
use native.Mathlib.{Nat.zero-add, Omega.arith}
use lib.{ListN.length, ListN.take, Seq.length-sets, Seq.sets-eq}
use Rattle.base.specs.Placed.{Placed}
use Rattle.text.specs.Output.{Whole, Printed}

pub whole : (output : List ℕ) {before after : List ℕ} {size : ℕ} → length output ≤ length before
    → Placed before 0 output size after → Whole output before size after
whole output {before} {after} {size} room p =
    let is : size ≡ length output = omega (arith, zero-add (length output)) in
    let same : length after ≡ length before = ap length p.bytes ∙ length-sets before 0 output in
    record {
      fits = omega arith;
      size_is = is;
      bytes = rw is (p.bytes ∙ rw zero-add at (sets-eq output before 0 (omega arith)));
    }

-- an output of at most `most` bytes that the first `enough` bytes of the input decide
module _ (output_of : List ℕ → List ℕ) (enough most : ℕ) (short : (input : List ℕ) → length (output_of input) ≤ most)
    (decides : (n : ℕ) (input : List ℕ) → enough ≤ n → output_of (take n input) ≡ output_of input) where
  pub printed : (start : List ℕ) {before after : List ℕ} {size : ℕ} → most ≤ length before
      → Placed before 0 (output_of start) size after → Printed output_of enough start before size after
  printed start room p =
      let cut : (l : List ℕ) → output_of (take enough l) ≡ output_of l = λ l. decides enough l (omega arith) in
      let w = whole (output_of start) (omega (arith, short start)) p in
      record { fits = w.fits; prints = λ input e. rw (← cut input, e, cut start) w }
