-- The ranges of a valid setting as inequalities, and the bounds of its output.
use Rattle.std.specs.Prelude.{◌≡◌, true, ◌&&◌, ℕ, ◌≤◌, leb}
use native.Mathlib.{Nat.div-le_self, Omega.arith}
use borrow.Author.Tests.{leb-true, le-leb}
use Rattle.base.specs.Choice.{in_range}
use Rattle.std.proofs.lemmas.Bool.{and_parts}
use Rattle.base.proofs.Bools.{in-range}
use Rattle.pll.specs.Ranges.{reference_min, reference_max, feedback_min, feedback_max, vco_min, vco_max}
use Rattle.pll.specs.Setting.{reference_of, vco_of, posts_of, output_hz, valid_of, output_fits}
use Rattle.pll.specs.declared.PllConfig.{PllConfig}

pub record Valid (c : PllConfig) (input : ℕ) : Type 0 where
  pub refdiv : (1 ≤ c.refdiv) × (c.refdiv ≤ 63)
  pub fbdiv : (feedback_min ≤ c.fbdiv) × (c.fbdiv ≤ feedback_max)
  pub post1 : (1 ≤ c.post_div1) × (c.post_div1 ≤ 7)
  pub post2 : (1 ≤ c.post_div2) × (c.post_div2 ≤ 7)
  pub posts : c.post_div2 ≤ c.post_div1
  pub reference : (reference_min ≤ reference_of c input) × (reference_of c input ≤ reference_max)
  pub vco : (vco_min ≤ vco_of c input) × (vco_of c input ≤ vco_max)

pub valid : (c : PllConfig) (input : ℕ) → valid_of c input ≡ true → Valid c input
valid c input e =
    let t = and_parts _ _ e in
    let r = and_parts _ _ t.0 in
    let p = and_parts _ _ r.0 in
    let p2 = and_parts _ _ p.0 in
    let p1 = and_parts _ _ p2.0 in
    let d = and_parts _ _ p1.0 in
    record {
      refdiv = in-range 1 63 _ d.0;
      fbdiv = in-range feedback_min feedback_max _ d.1;
      post1 = in-range 1 7 _ p1.1;
      post2 = in-range 1 7 _ p2.1;
      posts = leb-true _ _ p.1;
      reference = in-range reference_min reference_max _ r.1;
      vco = in-range vco_min vco_max _ t.1;
    }

pub valid-is : (c : PllConfig) (input : ℕ) → Valid c input → valid_of c input ≡ true
valid-is c input v =
    simp (
      le-leb 1 _ v.refdiv.0,
      le-leb _ 63 v.refdiv.1,
      le-leb feedback_min _ v.fbdiv.0,
      le-leb _ feedback_max v.fbdiv.1,
      le-leb 1 _ v.post1.0,
      le-leb _ 7 v.post1.1,
      le-leb 1 _ v.post2.0,
      le-leb _ 7 v.post2.1,
      le-leb _ _ v.posts,
      le-leb reference_min _ v.reference.0,
      le-leb _ reference_max v.reference.1,
      le-leb vco_min _ v.vco.0,
      le-leb _ vco_max v.vco.1,
    )

pub output-most : (c : PllConfig) (input : ℕ) → valid_of c input ≡ true → output_hz c input ≤ vco_max
output-most c input e = omega (arith, (valid c input e).vco.1, div-le_self (vco_of c input) (posts_of c))

pub output-fits : (c : PllConfig) (input : ℕ) → output_fits c input ≡ true → output_hz c input ≤ 4294967295
output-fits c input e =
    let t = and_parts (leb 1 c.refdiv && in_range 1 255 (posts_of c)) (leb (vco_of c input) 4294967295) e in
    omega (arith, leb-true (vco_of c input) 4294967295 t.1, div-le_self (vco_of c input) (posts_of c))
