-- The list is right: it has each remainder-free setting once and nothing else, in order.
use Rattle.std.specs.Prelude.{◌≡◌, List, [], ◌∷◌, true, ℕ, ◌+◌, ◌-◌, ◌*◌, ◌≤◌, ◌<◌, eqb}
use mathlib.Core.Logic.{inl, inr}
use native.Mathlib.{Omega.arith, Decide.dec_le}
use borrow.Author.Tests.{eqb-true, eq-eqb}
use Rattle.base.specs.Choice.{pick, in_range}
use Rattle.std.proofs.lemmas.Bool.{and_parts}
use Rattle.base.proofs.Bools.{in-range, range-true}
use Rattle.pll.specs.{Ranges.feedback_min, Ranges.feedback_max, Search.permitted, Search.exact, Law.Candidate}
use Rattle.pll.specs.declared.PllConfig.{PllConfig}
use Rattle.pll.proofs.Order.{Kind, Lists, From, lists-same, lists-rising, lists-keep}
use Rattle.pll.proofs.Candidates.{Posts, lists-feedback, permitted-candidate, candidate-posts, candidate-permitted}
use Rattle.lister.specs.Lister.{remainder_free, meets, in_order, list_of, how_often}
use Rattle.lister.specs.{Law.Ahead, Law.Ordered, Law.RightList, Order.at_feedback}
use Rattle.lister.proofs.Times.{times-listed}

-- the order of the list as one number: it falls as the feedback divider rises
abbrev list_key : PllConfig → ℕ
list_key c = (feedback_max - c.fbdiv) * 64 + (c.post_div1 * 8 + c.post_div2)

abbrev InRange : Kind
InRange c = Posts c × (c.fbdiv ≤ feedback_max)

lists-in-order :
    Lists list_key (From InRange (λ c. c.fbdiv) (feedback_max + 1 - feedback_min) feedback_min) in_order
unfolding in_order
lists-in-order =
    lists-rising list_key InRange (λ c. c.fbdiv) at_feedback feedback_max
    (λ fb h. lists-same list_key _ _ (λ c m. ((m.0, omega (arith, m.1)), m.1)) (λ c m. (m.0.0, m.1)) _
    (lists-feedback list_key (λ c d e l. omega arith) fb))
    (λ c d a b l. omega arith) (feedback_max + 1 - feedback_min) feedback_min (omega arith)

-- the greater number comes first
key-ahead : (c d : PllConfig) → InRange c → InRange d → list_key d < list_key c → Ahead c d
key-ahead c d ranges ranges_of l = feedback (dec_le d.fbdiv c.fbdiv)
  where
    post1 : c.fbdiv ≡ d.fbdiv → Dec (c.post_div1 ≤ d.post_div1) → Ahead c d
    post1 e (yes h) = let f : c.post_div1 ≡ d.post_div1 = omega arith in inr (e, inr (f, omega arith))
    post1 e (no h) = inr (e, inl (omega arith))

    feedback : Dec (d.fbdiv ≤ c.fbdiv) → Ahead c d
    feedback (yes h) = let e : c.fbdiv ≡ d.fbdiv = omega arith in post1 e (dec_le c.post_div1 d.post_div1)
    feedback (no h) = inl (omega arith)

-- a list by falling numbers is in order
lists-ordered : (C : Kind) → ((c : PllConfig) → C c → InRange c) → (cs : List PllConfig) → Lists list_key C cs
    → Ordered cs
unfolding Lists Ordered
lists-ordered C ranges [] l = tt
lists-ordered C ranges (c ∷ []) l = tt
lists-ordered C ranges (c ∷ d ∷ ds) l = (
  key-ahead c d (ranges c l.0) (ranges d l.2.0.0) l.2.0.1,
  lists-ordered (λ x. C x × (list_key x < list_key c)) (λ x m. ranges x m.0) (d ∷ ds) l.2,
)

module _ (input target : ℕ) where
  -- the candidates that give the target with no remainder
  abbrev pub Hit : Kind
  Hit c = Candidate input c × (exact input target c ≡ true)

  pub hit-free : (c : PllConfig) → Hit c → remainder_free input target c ≡ true
  hit-free c h =
      let m = h.0 in
      simp (
        candidate-permitted input c m,
        h.1,
        eq-eqb c.refdiv 1 m.reference,
        range-true feedback_min feedback_max c.fbdiv m.feedback_low m.feedback_high,
        range-true 1 7 c.post_div1 (omega (arith, m.post2_low, m.post2_high)) m.post1_high,
        range-true 1 c.post_div1 c.post_div2 m.post2_low m.post2_high,
      )

  pub free-hit : (c : PllConfig) → remainder_free input target c ≡ true → Hit c
  free-hit c e =
      let fourth = and_parts _ (in_range 1 c.post_div1 c.post_div2) e in
      let third = and_parts _ (in_range 1 7 c.post_div1) fourth.0 in
      let second = and_parts _ (in_range feedback_min feedback_max c.fbdiv) third.0 in
      let first = and_parts _ (eqb c.refdiv 1) second.0 in
      let meet = and_parts (permitted input c) (exact input target c) first.0 in
      let post2 = in-range 1 c.post_div1 c.post_div2 fourth.1 in
      let post1 = in-range 1 7 c.post_div1 third.1 in
      let feedback = in-range feedback_min feedback_max c.fbdiv second.1 in (
        permitted-candidate input c
            (eqb-true c.refdiv 1 first.1, post2.0, post2.1, post1.1) feedback.1 meet.0,
        meet.1,
      )

  list-hits : Lists list_key Hit (list_of input target)
  unfolding list_of
  list-hits =
      lists-same list_key _ Hit
      (λ c m.
      let meet = and_parts (permitted input c) (exact input target c) m.1 in
      (permitted-candidate input c m.0.0.0 m.0.0.1 meet.0, meet.1))
      (λ c h. (
        ((candidate-posts input c h.0, h.0.feedback_high), h.0.feedback_low, omega (arith, h.0.feedback_high)),
        simp (candidate-permitted input c h.0, h.1),
      ))
      _ (lists-keep list_key (meets input target) in_order _ lists-in-order)

  pub list-once : (c : PllConfig) → how_often c (list_of input target) ≡ pick (remainder_free input target c) 1 0
  list-once =
      times-listed list_key (remainder_free input target) _
      (lists-same list_key Hit (λ c. remainder_free input target c ≡ true) hit-free free-hit _ list-hits)

  pub list-ordered : Ordered (list_of input target)
  list-ordered =
      lists-ordered Hit (λ c h. (candidate-posts input c h.0, h.0.feedback_high)) (list_of input target) list-hits

  pub list_right : RightList input target (list_of input target)
  list_right = record { once = list-once; ordered = list-ordered }
