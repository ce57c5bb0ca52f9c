-- Two runs of values placed one after the other are placed as one run, and a value past the buffer's end is dropped.
use mathlib.Core.{Path.◌≡◌, Path.refl, Path.sym, Path.ap, Path.◌∙◌, List.List, List.[], List.◌∷◌, List.◌++◌, List.append_assoc}
use Prim.Native.Nat.{ℕ, suc, ◌+◌, ◌-◌, ◌≤◌, min}
use native.Mathlib.{Nat.add-zero, Decide.dec_le, Omega.arith}
use lib.ListN.{length, set, take, drop, length-append, length-set, length-take, take-append-drop, drop_of_length-le}
use lib.Seq.{sets, length-sets, set_out, sets-eq, drop-drop}
use Rattle.base.specs.Placed.{past, Placed}

module _ {A : Type 0} where
  -- past the end nothing is set
  sets-out : (xs : List A) (at : ℕ) (bs : List A) → length xs ≤ at → sets xs at bs ≡ xs
  sets-out xs at [] out = refl
  sets-out xs at (b ∷ bs) out =
      ap (λ (l : List A). sets l (suc at) bs) (set_out xs at b out) ∙ sets-out xs (suc at) bs (omega arith)

  -- an index past the end has the effect of the end
  pub sets-clamped : (xs : List A) (at : ℕ) (bs : List A) → sets xs (min at (length xs)) bs ≡ sets xs at bs
  sets-clamped xs at bs = elim (dec_le at (length xs)) [
    | yes inside ↦ ap (λ (k : ℕ). sets xs k bs) (omega arith)
    | no out ↦ sets-out xs (min at (length xs)) bs (omega arith) ∙ sym (sets-out xs at bs (omega arith))
  ]

  pub sets-run : (cs : List A) (xs : List A) (at : ℕ) (bs : List A)
      → sets (sets xs at cs) (past xs at cs) bs ≡ sets xs at (cs ++ bs)
  sets-run [] xs at bs = rw add-zero (sets-clamped xs at bs)
  sets-run (c ∷ cs) xs at bs =
      let same : past xs at (c ∷ cs) ≡ past (set xs at c) (suc at) cs = simp length-set (omega arith) in
      ap (λ (k : ℕ). sets (sets (set xs at c) (suc at) cs) k bs) same ∙ sets-run cs (set xs at c) (suc at) bs

  -- a run that follows another is placed as one run with it
  pub placed-append : {xs ys zs : List A} {at n m : ℕ} {cs bs : List A}
      → Placed xs at cs n ys → Placed ys n bs m zs → Placed xs at (cs ++ bs) m zs
  placed-append {xs} {ys} {zs} {at} {n} {m} {cs} {bs} p q = record {
    index =
        let long : length ys ≡ length xs = ap length p.bytes ∙ length-sets xs at cs in
        let i : n ≡ min (at + length cs) (length xs) = p.index in
        let j : m ≡ min (n + length bs) (length ys) = q.index in
        simp length-append (omega arith);
    bytes = rw (q.bytes, p.bytes, p.index) (sets-run cs xs at bs);
  }

  -- past the buffer's end a value is dropped
  pub placed-none : {xs : List A} {at : ℕ} {b : A} → length xs ≤ at → Placed xs at (b ∷ []) (length xs) xs
  placed-none {xs} {at} {b} out = record { index = omega arith; bytes = sym (set_out xs at b out) }

  -- where nothing is left, or the buffer has no room for it, the rest changes nothing
  sets-rest : (xs : List A) (at n : ℕ) (bs : List A) → n ≡ min (length bs) (length xs - at) → at ≤ length xs
      → sets xs (at + n) (drop n bs) ≡ xs
  sets-rest xs at n bs room inside = elim (dec_le (length bs) n) [
    | yes all ↦ rw (drop_of_length-le bs all)
    | no more ↦ sets-out xs (at + n) (drop n bs) (omega arith)
  ]

  -- as many of the values as there is room for, copied to the place
  pub placed-copied : {xs bs zs : List A} {at start n : ℕ} → start ≡ min at (length xs) → n ≡ min (length bs) (length xs - start)
      → zs ≡ take n bs → Placed xs at bs (start + n) (take start xs ++ (zs ++ drop (start + n - start) (drop start xs)))
  placed-copied {xs} {bs} {zs} {at} {start} {n} from room copied =
      let some : length (take n bs) ≡ n = omega (arith, length-take n bs) in
      let seam : past xs start (take n bs) ≡ start + n = omega arith in
      let size : start + n - start ≡ n = omega arith in
      let long : length (sets xs start (take n bs)) ≡ length xs = length-sets xs start (take n bs) in
      let rest : sets (sets xs start (take n bs)) (start + n) (drop n bs) ≡ sets xs start (take n bs) =
      sets-rest (sets xs start (take n bs)) start n bs (omega arith) (omega arith) in
      record {
        index = omega arith;
        bytes =
            rw (copied, size, drop-drop n start xs, ← append_assoc)
            (sym (rw some at (sets-eq (take n bs) xs start (omega arith)))
            ∙ sym rest
            ∙ rw (seam, take-append-drop n bs) at (sets-run (take n bs) xs start (drop n bs))
            ∙ rw from (sets-clamped xs at bs));
      }
