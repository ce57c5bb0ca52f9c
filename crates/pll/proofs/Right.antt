-- The answer of the search has the lowest rank, and so it is right by `RightAnswer` (specs/Law).
use Rattle.std.specs.Prelude.{◌≡◌, refl, ◌⊎◌, List, [], ◌∷◌, true, ℕ, ◌+◌, ◌-◌, ◌*◌, ◌≤◌, ◌<◌, leb}
use mathlib.Core.Logic.{inl, inr, ⊎_elim}
use native.Mathlib.{Omega.arith, Nat.le_trans, Decide.dec_le}
use borrow.Author.Tests.{leb-true, leb-false, eqb-true, eq-eqb}
use Rattle.base.specs.Answer.{Answer, value, refusal}
use Rattle.base.proofs.Bools.{either_way}
use Rattle.pll.specs.Search.{setting, distance, exact, keep, unless_nearer, nearest, first_or, candidates, search_of}
use Rattle.pll.specs.{Ranges.reference_min, Setting.vco_of, Setting.posts_of, Law.VcoPermits, Law.Candidate, Law.RightAnswer}
use Rattle.pll.specs.{Walk.keys, Walk.key, Walk.rank_of, declared.PllConfig.PllConfig}
use Rattle.pll.proofs.Scores.{score-cases, score-exact, score-other, rank_is, Lowest, lowest-chosen}
use Rattle.pll.proofs.{Order.Kind, Order.Lists, Order.lists-keep, Candidates.lists-candidates, Candidates.a-candidate}

module _ (input target : ℕ) where
  -- the distance, and of equal distances the order, as one number
  abbrev place : PllConfig → ℕ
  place c = distance input target c * keys + (keys - 1 - key c)

  -- the nearest setting of C, of equals the first
  abbrev NearestOf : Kind → Answer PllConfig → Type 0
  NearestOf C (value c) = C c × ((d : PllConfig) → C d → place c ≤ place d)
  NearestOf C (refusal n) = (n ≡ 15) × ((d : PllConfig) → C d → ⊥)

  nearest-right : (cs : List PllConfig) (C : Kind) → Lists key C cs → NearestOf C (nearest input target cs)
  unfolding Lists nearest
  nearest-right [] C l = (refl, l)
  nearest-right (c ∷ cs) C l = step (nearest input target cs) (nearest-right cs After l.2)
    where
      After : Kind
      After d = C d × (key d < key c)

      step : (a : Answer PllConfig) → NearestOf After a → NearestOf C (unless_nearer input target c a)
      step (refusal n) h = (l.0, λ d m. ⊎_elim (λ e. rw e (omega arith)) (λ k. absurd (h.1 d (m, k))) (l.1 d m))
      step (value w) h =
          either_way (leb (distance input target c) (distance input target w))
          (λ e.
          let near = leb-true (distance input target c) (distance input target w) e in
          let first : place c ≤ place w = omega (arith, h.0.1) in
          rw e (l.0, λ d m. ⊎_elim (λ f. rw f (omega arith)) (λ k. le_trans first (h.1 d (m, k))) (l.1 d m)))
          (λ e.
          let far = leb-false (distance input target c) (distance input target w) e in
          rw e (h.0.0, λ d m. ⊎_elim (λ f. rw f (omega arith)) (λ k. h.1 d (m, k)) (l.1 d m)))

  -- the answer has the lowest rank of the candidates; it is 15 where there are none
  abbrev pub LowestOf : Answer PllConfig → Type 0
  LowestOf (value c) = Lowest input target c
  LowestOf (refusal n) = (n ≡ 15) × ((d : PllConfig) → Candidate input d → ⊥)

  pub search-lowest : LowestOf (search_of input target)
  unfolding search_of Lists
  search-lowest =
      hits (keep (exact input target) (candidates input))
      (lists-keep key (exact input target) (candidates input) (Candidate input) (lists-candidates input))
    where
      Hit : Kind
      Hit c = Candidate input c × (exact input target c ≡ true)

      hit : (d : PllConfig) → Candidate input d → target * posts_of d ≡ vco_of d input → Hit d
      hit d m e = (m, eq-eqb (target * posts_of d) (vco_of d input) e)

      other : ((c : PllConfig) → Hit c → ⊥) → (d : PllConfig) → Candidate input d
          → rank_of input target d ≡ (distance input target d + 1) * keys + (keys - 1 - key d)
      other none d m =
          let s = score-other (vco_of d input) target (posts_of d) (λ e. none d (hit d m e)) in
          omega (arith, rank_is input target d)

      no_hit : ((c : PllConfig) → Hit c → ⊥) → (a : Answer PllConfig) → NearestOf (Candidate input) a → LowestOf a
      no_hit none (value c) h =
          record {
            candidate = h.0;
            least = λ d m. omega (arith, h.1 d m, other none c h.0, other none d m);
          }
      no_hit none (refusal n) h = h

      hits : (cs : List PllConfig) → Lists key Hit cs → LowestOf (first_or (nearest input target (candidates input)) cs)
      hits [] l =
          no_hit l (nearest input target (candidates input))
          (nearest-right (candidates input) (Candidate input) (lists-candidates input))
      hits (c ∷ cs) l =
          let e = eqb-true (target * posts_of c) (vco_of c input) l.0.1 in
          let s = score-exact (vco_of c input) target (posts_of c) e in
          let r = rank_is input target c in
          record {
            candidate = l.0.0;
            least = λ d m.
                let q = rank_is input target d in
                ⊎_elim (λ f. ⊎_elim (λ k. rw k (omega arith)) (λ k. omega arith) (l.1 d (hit d m f.0)))
                (λ f. omega (arith, f.1))
                (score-cases (vco_of d input) target (posts_of d));
          }

  pub search-right : RightAnswer input target (search_of input target)
  search-right = go (search_of input target) search-lowest
    where
      go : (a : Answer PllConfig) → LowestOf a → RightAnswer input target a
      go (value c) l = lowest-chosen input target c l
      go (refusal n) h = (h.0, ground (dec_le reference_min input))
        where
          ground : Dec (reference_min ≤ input) → (input < reference_min) ⊎ ((fb : ℕ) → VcoPermits input fb → ⊥)
          ground (yes l) =
              inr (λ fb v. h.1 (setting fb 1 1)
              (a-candidate input fb 1 1 l v (omega arith) (omega arith) (omega arith)))
          ground (no l) = inl (omega arith)
