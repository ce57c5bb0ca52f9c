-- The list and the search agree: the search's answer is exact where the list has an entry, and then it is in the list.
use Rattle.std.specs.Prelude.{◌≡◌, refl, List, [], ◌∷◌, ℕ, ◌*◌, ◌<◌, length}
use mathlib.Core.Path.{subst}
use native.Mathlib.Omega.{arith}
use borrow.Author.Tests.{eqb-true, eq-eqb}
use Rattle.base.specs.Answer.{Answer, value, refusal}
use Rattle.base.proofs.Bools.{either_way}
use Rattle.pll.specs.Law.{Candidate, Exact, Before, Chosen, RightAnswer}
use Rattle.pll.specs.{Setting.vco_of, Setting.posts_of, Search.search_of, declared.PllConfig.PllConfig}
use Rattle.pll.proofs.{Right.LowestOf, Right.search-lowest, Right.search-right, Same.same_self}
use Rattle.lister.specs.Lister.{remainder_free, how_often, list_of, length_of}
use Rattle.lister.proofs.Once.{Hit, hit-free, free-hit, list-once}

module _ (input target : ℕ) where
  -- an entry of the list is a candidate of the search, and exact
  listed-hit : (c : PllConfig) → 0 < how_often c (list_of input target) → Hit input target c
  listed-hit c h =
      either_way (remainder_free input target c) (free-hit input target c)
      (λ e. absurd (let n = rw e at (list-once input target c) in omega arith))

  chosen : (c : PllConfig) → search_of input target ≡ value c → Chosen input target c
  chosen c e = subst (RightAnswer input target) e (search-right input target)

  -- an exact answer of the search is in the list
  pub search-listed : (c : PllConfig) → search_of input target ≡ value c → Exact input target c
      → how_often c (list_of input target) ≡ 1
  search-listed c e x =
      let hit : Hit input target c = ((chosen c e).candidate, eq-eqb (target * posts_of c) (vco_of c input) x) in
      rw (hit-free input target c hit) at (list-once input target c)

  -- where the list has an entry, the search's answer is exact, and so in the list; no entry precedes it in the order
  -- of the search: it is the first entry at the greatest feedback divider
  pub list-searched : (d : PllConfig) → 0 < how_often d (list_of input target)
      → (c : PllConfig) × (search_of input target ≡ value c) × Exact input target c × (Before d c → ⊥)
  list-searched d h = go (search_of input target) refl (search-lowest input target)
    where
      candidate : Candidate input d
      candidate = (listed-hit d h).0

      no-remainder : Exact input target d
      no-remainder = eqb-true (target * posts_of d) (vco_of d input) (listed-hit d h).1

      go : (a : Answer PllConfig) → search_of input target ≡ a → LowestOf input target a
          → (c : PllConfig) × (search_of input target ≡ value c) × Exact input target c × (Before d c → ⊥)
      go (value c) e l =
          let w = chosen c e in
          (c, e, w.exact d candidate no-remainder, w.exact_first d candidate no-remainder)
      go (refusal n) e l = absurd (l.1 d candidate)

  -- where the list is empty, no answer of the search is exact
  pub list-empty : list_of input target ≡ [] → (c : PllConfig) → search_of input target ≡ value c
      → Exact input target c → ⊥
  unfolding how_often
  list-empty z c e x = let n = rw z at (search-listed c e x) in omega arith

  -- where the search refuses, the list is empty
  pub none-where-refused : (n : ℕ) → search_of input target ≡ refusal n → length_of input target ≡ 0
  unfolding how_often
  none-where-refused n e = go (list_of input target) (λ c h. h)
    where
      none : (d : PllConfig) → 0 < how_often d (list_of input target) → ⊥
      none d h = (subst (LowestOf input target) e (search-lowest input target)).1 d (listed-hit d h).0

      go : (cs : List PllConfig)
          → ((d : PllConfig) → 0 < how_often d cs → 0 < how_often d (list_of input target)) → 2 * length cs ≡ 0
      go [] in_List = refl
      go (d ∷ ds) in_List = absurd (none d (in_List d (rw (same_self d d refl) (omega arith))))
