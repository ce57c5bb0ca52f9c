-- The index of the first occurrence of a byte, the bytes before it, and how many bytes of an input decide the number on its first
-- line.
use Rattle.std.specs.Prelude.{◌≡◌, refl, Bool, Some, None, cond, not, unwrap_or, List, [], ◌∷◌, ◌⊎◌, ℕ, zero, suc, ◌-◌, ◌≤◌, ◌<◌}
use Rattle.std.specs.Prelude.{eqb, ltb, length, take, drop}
use mathlib.Core.{Path.sym, Path.ap, Path.◌∙◌, Logic.inl, Logic.inr}
use Rattle.std.proofs.lemmas.List.Sums.{prefix_len-le-length}
use Rattle.std.specs.List.{position_or_len}
use native.Mathlib.{Decide.dec_le, Omega.arith}
use borrow.Author.Tests.{le-leb, lt-leb, ltb-false}
use lib.{ListN.length-take, Seq.take_all}
use Rattle.base.specs.Answer.{refusal}
use Rattle.base.proofs.Bools.{either_way}
use Rattle.text.specs.{Decimal.number_of, Words.up_to, Words.line_number_of}
use Rattle.text.proofs.Decimals.{bad-length}

-- the place of the first that passes, or the length
pub place-or-length : (p : ℕ → Bool) (xs : List ℕ)
    → unwrap_or (cond (ltb (position_or_len p xs) (length xs)) (Some (position_or_len p xs)) None) (length xs) ≡ position_or_len p xs
place-or-length p xs =
    either_way (ltb (position_or_len p xs) (length xs)) (λ e. rw e)
    (λ e. rw e (omega (arith, prefix_len-le-length (λ x. not (p x)) xs, ltb-false (position_or_len p xs) (length xs) e)))

-- the bytes up to the first b are as many as its index says
pub length-up : (b : ℕ) (xs : List ℕ) → length (up_to b xs) ≡ position_or_len (λ x. eqb x b) xs
length-up b [] = refl
length-up b (x ∷ xs) = either_way (eqb x b) (λ e. rw e) (λ e. rw e (omega (arith, length-up b xs)))

-- the bytes before the first b are those up to it
pub take-up : (b : ℕ) (xs : List ℕ) → take (length (up_to b xs)) xs ≡ up_to b xs
take-up b [] = refl
take-up b (x ∷ xs) = either_way (eqb x b) (λ e. rw e) (λ e. rw e (ap (λ (l : List ℕ). x ∷ l) (take-up b xs)))

pub up-take : (b n : ℕ) (s : List ℕ) → up_to b (take n s) ≡ take n (up_to b s)
up-take b zero s = refl
up-take b (suc n) [] = refl
up-take b (suc n) (x ∷ xs) =
    either_way (eqb x b) (λ e. rw e) (λ e. rw e (ap (λ (l : List ℕ). x ∷ l) (up-take b n xs)))

pub too_long : (cs : List ℕ) → 10 < length cs → number_of cs ≡ refusal 24
too_long cs h = bad-length cs (rw (le-leb 1 (length cs) (omega arith), lt-leb (length cs) 10 h))

-- for n above 10, a word of at most 10 bytes is unchanged in the first n bytes; a longer word is no number, and neither is its
-- part in the first n bytes
pub word-known : (b n : ℕ) (s : List ℕ) → 10 < n
    → ((length (up_to b s) ≤ 10) × (up_to b (take n s) ≡ up_to b s))
    ⊎ ((number_of (up_to b (take n s)) ≡ refusal 24) × (number_of (up_to b s) ≡ refusal 24))
word-known b n s enough = elim (dec_le (length (up_to b s)) 10) [
  | yes short ↦ inl (short, up-take b n s ∙ take_all n (up_to b s) (omega arith))
  | no long ↦
      let cut : 10 < length (take n (up_to b s)) = simp length-take (omega arith) in
      inr (ap number_of (up-take b n s) ∙ too_long (take n (up_to b s)) cut, too_long (up_to b s) (omega arith))
]

-- the first 11 bytes decide the number, so a program may read 11 and leave the rest
pub line-start : (n : ℕ) (s : List ℕ) → 11 ≤ n → line_number_of (take n s) ≡ line_number_of s
line-start n s h = elim (word-known 10 n s (omega arith)) [
  | inl same ↦ ap number_of same.1
  | inr none ↦ none.0 ∙ sym none.1
]

take_none : (m : ℕ) → ◌≡◌ {A = List ℕ} [] (take m [])
take_none zero = refl
take_none (suc m) = refl

pub drop-take : (k n : ℕ) (s : List ℕ) → drop k (take n s) ≡ take (n - k) (drop k s)
drop-take zero n s = let same : n ≡ n - 0 = omega arith in ap (λ (m : ℕ). take m s) same
drop-take (suc k) zero s =
    let same : 0 ≡ 0 - suc k = omega arith in ap (λ (m : ℕ). take m (drop (suc k) s)) same
drop-take (suc k) (suc n) [] = take_none (suc n - suc k)
drop-take (suc k) (suc n) (x ∷ xs) =
    let same : n - k ≡ suc n - suc k = omega arith in
    drop-take k n xs ∙ ap (λ (m : ℕ). take m (drop k xs)) same
