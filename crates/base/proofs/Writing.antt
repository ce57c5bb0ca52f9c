-- Laws of writers.
use Rattle.std.specs.Prelude.{◌≡◌, refl, List, [], ◌++◌, ℕ, ◌+◌, min, max, length}
use mathlib.Core.{Path.sym, Path.ap, Path.◌∙◌, List.append-nil, List.append_assoc}
use lib.{ListN.length-append, Seq.sets, Seq.length-sets}
use native.Mathlib.Omega.{arith}
use Rattle.base.specs.Writing.{Written, puts, Puts, IsNew}
use Rattle.base.specs.{Placed.Placed, Placed.past, declared.writer.Writer.Writer}
use Rattle.base.proofs.Placing.{sets-clamped, sets-run}
use Rattle.std.specs.Borrow.{MutBor}

-- two indices that the buffer's end cuts alike have the same effect
sets-alike : {A : Type 0} (xs : List A) (i j : ℕ) (vs : List A) → min i (length xs) ≡ min j (length xs) → sets xs i vs ≡ sets xs j vs
sets-alike xs i j vs e =
    sym (sets-clamped xs i vs) ∙ ap (λ (k : ℕ). sets xs k vs) e ∙ sets-clamped xs j vs

same-written : {A : Type 0} {n : ℕ} {xs ys : List A} {i j : ℕ} → xs ≡ ys → i ≡ j
    → ◌≡◌ {A = Written A} (record { name = n; values = xs; at = i }) (record { name = n; values = ys; at = j })
same-written e f = rw (e, f) refl

-- what is put after other values is put with them
pub put_more : {A : Type 0} (w : Written A) (vs us : List A) → puts (puts w vs) us ≡ puts w (vs ++ us)
unfolding puts
put_more {A = A} w vs us =
    same-written
    (sets-alike (sets w.values w.at vs) (max w.at (min (w.at + length vs) (length w.values))) (past w.values w.at vs) us
    (omega (arith, length-sets w.values w.at vs)) ∙ sets-run vs w.values w.at us)
    (simp length-append (omega (arith, length-sets w.values w.at vs)))

-- the same of two calls, the second on what the first left
pub put_then : {A : Type 0} (w u v : Written A) (vs us : List A) → u ≡ puts w vs → v ≡ puts u us → v ≡ puts w (vs ++ us)
put_then w u v vs us e f = f ∙ ap (λ x. puts x us) e ∙ put_more w vs us

-- where nothing is put nothing changes
pub put_none : {A : Type 0} (w : Written A) → puts w [] ≡ w
unfolding puts
put_none w = same-written refl (omega arith)

-- what the check needs to see that calls put one text after another
pub ruleset writing = (put_more, put_none, append-nil, append_assoc)

-- what a new writer put stands at the start of its buffer
pub placed_from : {A : Type 0} (o p : Writer A) (vs : List A) → Puts o vs p → o.at ≡ 0 → Placed o.buf.now 0 vs p.at p.buf.now
unfolding puts
placed_from {A = A} o p vs w e =
    let i : p.at ≡ max o.at (min (o.at + length vs) (length o.buf.now)) = ap (λ (h : Written A). h.at) w in
    let v : p.buf.now ≡ sets o.buf.now o.at vs = ap (λ (h : Written A). h.values) w in
    record { index = omega (arith, i, e); bytes = rw (← e) v }

-- what is known where a writer that was new is done: it still has the buffer that was lent, which holds what was put
pub record Finished {A : Type 0} (buf : MutBor (List A)) (vs : List A) (p : Writer A) : Type 0 where
  pub name : p.buf.ghost_name ≡ buf.ghost_name
  pub placed : Placed buf.now 0 vs p.at p.buf.now

pub finished : {A : Type 0} {buf : MutBor (List A)} (o p : Writer A) (vs : List A) → IsNew buf o → Puts o vs p → Finished buf vs p
unfolding puts
finished {A = A} o p vs n w = record {
  name = ap (λ (h : Written A). h.name) w ∙ n.name;
  placed = rw (← n.values) (placed_from o p vs w n.at);
}
